-- While no replica enters and none begins to ask: the least asking replica promised nobody, and the next one nobody else.
use Rattle.std.proofs.Common.{◌≡◌, ℕ, ◌+◌, ◌*◌, ◌/◌, ◌<◌, ◌≤◌, Bool, true, false, not, ◌&&◌, ◌||◌, ◌==◌, nat_le, mul-le-mul_right, List, [], ◌∷◌, map, length, refl, sym, ap, ◌∙◌, arith, Option, Some, None, ◌⊎◌, inl, inr}
use Rattle.std.proofs.Math.Nat.{div-mul-le_self}
use Rattle.dpc_lists.specs.Lists.{list_all, is_nil}
use Rattle.dpc_model.specs.Due.{is_complete}
use Rattle.dpc_model.specs.Reading.{Reader}
use Rattle.dpc_model.specs.Granting.{Key, promised_other}
use Rattle.dpc_model.specs.NodeStates.{is_up_failure, is_stabilization}
use Rattle.dpc_model.specs.Ports.{Port, held_at}
use Rattle.dpc_model.specs.declared.messages.Event.{Event}
use Rattle.dpc_model.specs.declared.plans.Plan.{Plan}
use Rattle.dpc_model.specs.declared.scripts.Script.{Script}
use Rattle.node_model.specs.Nodes.{PlainNode, held_by, wants_to_reconcile}
use Rattle.world_model.specs.Worlds.{home_of}
use Rattle.world_model.specs.Schedules.{Progress, next_progress}
use Rattle.dpc_lists.proofs.Truths.{both, both-of, eq-of, eq-test, le-test, not-both}
use Rattle.law_granting.proofs.AtWork.{failed-closed}
use Rattle.law_settling.specs.Finished.{has_whole_inputs}
use Rattle.law_settling.specs.Phased.{opened}
use Rattle.law_settling.proofs.Rules.{MayGo, Keeps}
use Rattle.law_settling.proofs.Bounded.{every-or, IsFirst}
use Rattle.law_settling.proofs.Fellows.{many_replicas}
use Rattle.law_settling.proofs.Replicas.{number-low}
use Rattle.law_settling.proofs.Finishing.{view-low}
use Rattle.law_settling.proofs.Moving.{IsReplica, IsWorking, Moved, good-here, calm-here, order-here, pick, finished-here, moved}
use Rattle.law_settling.proofs.Resting.{same-replica, IsSorted, IsResting, HasEntered, RunsFor, none-stabilizes, entered-kept, came, resting-next, promise-runs}

-- those of E are asking, and no others
pub record IsTrying (script : Script) (f : ℕ) (Was : ℕ → Type 0) (E : ℕ → Bool) (z : Progress) : Type 0 where
  pub resting : IsResting script f Was z
  pub asking : (b q : ℕ) (n : PlainNode) → IsReplica script f z b q n → n.grants.running ≡ E q

-- another one is asking too
pub record HasMore (script : Script) (f : ℕ) (Was : ℕ → Type 0) (E : ℕ → Bool) (z : Progress) : Type 0 where
  pub resting : IsResting script f Was z
  pub asking : (b q : ℕ) (n : PlainNode) → IsReplica script f z b q n → E q ≡ true → n.grants.running ≡ true
  pub number : ℕ
  pub low : number < many_replicas script.plan f
  pub runs : RunsFor script f z number
  pub new : E number ≡ false

abbrev pub Broke : Script → ℕ → (ℕ → Type 0) → (ℕ → Bool) → Progress → Type 0
Broke script f Was E z = HasEntered script f Was z ⊎ HasMore script f Was E z

-- of the others that are asking, none is below s but m
pub record IsPeerOf (E : ℕ → Bool) (many m s : ℕ) : Type 0 where
  pub other : s ≡ m → ⊥
  pub only : (j : ℕ) → j < many → E j ≡ true → (E s ≡ true → j < s) → j ≡ m

whole-complete : (end width k : ℕ) (ps : List Port) → (k + 1) * width ≤ end → list_all (λ (p : Port). p.inlet.held.bound == end) ps ≡ true → list_all (λ (r : Reader). nat_le ((k + 1) * width) r.bound) (map held_at ps) ≡ true
whole-complete end width k [] low h = refl
whole-complete end width k (p ∷ ps) low h =
    let q = both (p.inlet.held.bound == end) (list_all (λ (z : Port). z.inlet.held.bound == end) ps) h in
    let same = eq-of p.inlet.held.bound end q.0 in
    both-of (nat_le ((k + 1) * width) p.inlet.held.bound) _ (le-test ((k + 1) * width) p.inlet.held.bound (omega (arith, low, same))) (whole-complete end width k ps low q.1)

module _ (script : Script) (f : ℕ) (Was : ℕ → Type 0) where
  -- an UP_FAILURE replica wants to reconcile
  pub failed-wants : (z : Progress) (b q : ℕ) (n : PlainNode) → IsWorking script f z → IsReplica script f z b q n → is_up_failure n.state ≡ true → wants_to_reconcile (home_of z.world.plan (f, q)) n ≡ true
  failed-wants z b q n good at failed =
      let g = good-here script f z b q n good at in
      let plan = z.world.plan in
      let closed = failed-closed n (calm-here script f z b q n good at) g.orderly.state failed in
      let low = view-low (home_of plan (f, q)) n g.orderly.closed in
      let some = some-closed n closed in
      let fits : n.cursor + 1 ≤ plan.end / plan.width = omega (arith, low, some) in
      let scaled : (n.cursor + 1) * plan.width ≤ plan.end / plan.width * plan.width = mul-le-mul_right plan.width fits in
      let part = div-mul-le_self plan.end plan.width in
      let whole : has_whole_inputs plan n ≡ true = ap (λ (pl : Plan). has_whole_inputs pl n) good.here.of_plan ∙ good.whole b q n at in
      both-of (is_up_failure n.state) (is_complete plan.width (held_by n) n.cursor) failed (whole-complete plan.end plan.width n.cursor n.ports (omega (arith, scaled, part)) whole)
    where
      some-closed : (n : PlainNode) → is_nil n.closed ≡ false → 1 ≤ length n.closed
      some-closed n e = by-list n.closed e
        where
          by-list : {X : Type 0} (xs : List X) → is_nil xs ≡ false → 1 ≤ length xs
          by-list [] e = cc
          by-list (x ∷ xs) e = omega arith

  -- whoever is asking is UP_FAILURE
  pub asking-failed : (z : Progress) (b q : ℕ) (n : PlainNode) → IsWorking script f z → IsResting script f Was z → IsReplica script f z b q n → n.grants.running ≡ true → Was b × (is_up_failure n.state ≡ true)
  asking-failed z b q n good rest at runs = by-sort (rest.sorted b q n at)
    where
      by-sort : IsSorted script Was b n → Was b × (is_up_failure n.state ≡ true)
      by-sort (inl failed) = failed
      by-sort (inr past) =
          let state = (finished-here script f z b q n good at past).state in
          let wants = (order-here script f z b q n good at).wants runs in
          let none : ((is_up_failure n.state && is_complete z.world.plan.width (held_by n) n.cursor) || (is_stabilization n.state && not n.recovering)) ≡ false =
          ap (λ s. (is_up_failure s && is_complete z.world.plan.width (held_by n) n.cursor) || (is_stabilization s && not n.recovering)) state in
          absurd (not-both _ wants none)

  -- it goes on asking
  pub asks-on : (z : Progress) (e : Event) → MayGo script (IsWorking script f) z e → IsResting script f Was z → (b q : ℕ) (n m : PlainNode) → IsReplica script f z b q n → Moved script f (next_progress script z e) b q n m → n.grants.running ≡ true → m.grants.running ≡ true
  asks-on z e may rest b q n m at way runs =
      let over = way.even.over (none-stabilizes script f Was z b q n may.here at (rest.sorted b q n at)) in
      elim (way.runs runs) [ inl still ↦ still | inr more ↦ absurd (omega (arith, over, more)) ]

  module _ (E : ℕ → Bool) where
    runs-next : (z : Progress) (e : Event) → MayGo script (IsWorking script f) z e → IsResting script f Was z → (q : ℕ) → RunsFor script f z q → RunsFor script f (next_progress script z e) q
    runs-next z e may rest q r =
        let m = moved script f z e may r.actor q r.node r.replica in
        record { actor = r.actor; node = m.0; replica = m.1.replica; runs = asks-on z e may rest r.actor q r.node m.0 r.replica m.1 r.runs }

    pub broke-kept : Keeps script (IsWorking script f) (Broke script f Was E)
    broke-kept z e may (inl out) = inl (entered-kept script f Was z e may out)
    broke-kept z e may (inr h) =
        elim (resting-next script f Was z e may h.resting) [
          | inr out ↦ inl out
          | inl rest ↦ inr (record {
            resting = rest;
            asking = λ b q m there on. let c = came script f Was z e may b q m there in asks-on z e may h.resting b q c.old m c.at c.way (h.asking b q c.old c.at on);
            number = h.number;
            low = h.low;
            runs = runs-next z e may h.resting h.number h.runs;
            new = h.new;
          })
        ]

    pub trying-next : (z : Progress) (e : Event) → MayGo script (IsWorking script f) z e → IsTrying script f Was E z → IsTrying script f Was E (next_progress script z e) ⊎ Broke script f Was E (next_progress script z e)
    trying-next z e may h =
        elim (resting-next script f Was z e may h.resting) [
          | inr out ↦ inr (inl out)
          | inl rest ↦ elim (every-or (λ q. (b : ℕ) (m : PlainNode) → IsReplica script f (next_progress script z e) b q m → m.grants.running ≡ E q) (λ q. RunsFor script f (next_progress script z e) q × (E q ≡ false)) (many_replicas script.plan f) (λ q low. each q low)) [
            | inl all ↦ inl (record { resting = rest; asking = λ b q m there. all q (number-low script.plan b f q q there.role) b m there })
            | inr new ↦ inr (inr (record {
              resting = rest;
              asking = λ b q m there on. let c = came script f Was z e may b q m there in asks-on z e may h.resting b q c.old m c.at c.way (h.asking b q c.old c.at ∙ on);
              number = new.0;
              low = new.1;
              runs = new.2.0;
              new = new.2.1;
            }))
          ]
        ]
      where
        each : (q : ℕ) → q < many_replicas script.plan f → ((b : ℕ) (m : PlainNode) → IsReplica script f (next_progress script z e) b q m → m.grants.running ≡ E q) ⊎ (RunsFor script f (next_progress script z e) q × (E q ≡ false))
        each q low =
            let p = pick script f z q may.here low in
            let way = moved script f z e may p.0 q p.1 p.2 in
            let for_all : way.0.grants.running ≡ E q → (b : ℕ) (m : PlainNode) → IsReplica script f (next_progress script z e) b q m → m.grants.running ≡ E q =
            (λ (is : way.0.grants.running ≡ E q) (b : ℕ) (m : PlainNode) (there : IsReplica script f (next_progress script z e) b q m). ap (λ (y : PlainNode). y.grants.running) (same-replica script f (next_progress script z e) p.0 b q way.0 m way.1.replica there).1 ∙ is) in
            by-bits way.0.grants.running (E q) refl refl for_all (λ on. asks-on z e may h.resting p.0 q p.1 way.0 p.2 way.1 (h.asking p.0 q p.1 p.2 ∙ on)) (λ on. record { actor = p.0; node = way.0; replica = way.1.replica; runs = on })
          where
            by-bits : {G N : Type 0} {x y : Bool} (a d : Bool) → x ≡ a → y ≡ d → (x ≡ y → G) → (y ≡ true → x ≡ true) → (x ≡ true → N) → G ⊎ (N × (y ≡ false))
            by-bits true true ex ey good on new = inl (good (ex ∙ sym ey))
            by-bits true false ex ey good on new = inr (new ex, ey)
            by-bits false true ex ey good on new = absurd (not-both _ (on ey) ex)
            by-bits false false ex ey good on new = inl (good (ex ∙ sym ey))

    -- a promise is to one of those
    promised-one : (z : Progress) → IsWorking script f z → IsTrying script f Was E z → (c r : ℕ) (m : PlainNode) (p : ℕ × Key) → IsReplica script f z c r m → m.grants.promise ≡ Some p → E p.0 ≡ true
    promised-one z good h c r m p at promised =
        let runs = promise-runs script f Was z good h.resting c r m p at promised in
        sym (h.asking runs.actor p.0 runs.node runs.replica) ∙ runs.runs

    -- the least asking replica promised nobody
    pub least-free : (z : Progress) (l : ℕ) → IsWorking script f z → IsTrying script f Was E z → IsFirst E (many_replicas script.plan f) l → (b : ℕ) (n : PlainNode) → IsReplica script f z b l n → n.grants.promise ≡ None
    least-free z l good h first b n at = by-promise n.grants.promise refl
      where
        by-promise : (o : Option (ℕ × Key)) → n.grants.promise ≡ o → n.grants.promise ≡ None
        by-promise None e = e
        by-promise (Some p) e =
            let on = promised-one z good h b l n p at e in
            let low = ((order-here script f z b l n good at).promise p e).lower (h.asking b l n at ∙ first.passes) in
            absurd (not-both (E p.0) on (first.before p.0 low))

    -- nobody is asking: nobody promised
    pub none-free : (z : Progress) → IsWorking script f z → IsTrying script f Was E z → ((k : ℕ) → k < many_replicas script.plan f → E k ≡ false) → (b q : ℕ) (n : PlainNode) → IsReplica script f z b q n → n.grants.promise ≡ None
    none-free z good h none b q n at = by-promise n.grants.promise refl
      where
        by-promise : (o : Option (ℕ × Key)) → n.grants.promise ≡ o → n.grants.promise ≡ None
        by-promise None e = e
        by-promise (Some p) e = absurd (not-both (E p.0) (promised-one z good h b q n p at e) (none p.0 (good.numbered b q n p at e)))

    -- the next one promised nobody else
    pub second-free : (z : Progress) (l s : ℕ) → IsWorking script f z → IsTrying script f Was E z → IsPeerOf E (many_replicas script.plan f) l s → (c : ℕ) (x : PlainNode) → IsReplica script f z c s x → promised_other x.grants l ≡ false
    second-free z l s good h peer c x at = by-promise x.grants.promise refl
      where
        by-promise : (o : Option (ℕ × Key)) → x.grants.promise ≡ o → promised_other x.grants l ≡ false
        by-promise None e = ap {B = Bool} (λ (o : Option (ℕ × Key)). elim o as (λ _. Bool) [ None ↦ false | Some p ↦ not (p.0 == l) ]) e
        by-promise (Some p) e =
            let on = promised-one z good h c s x p at e in
            let same = peer.only p.0 (good.numbered c s x p at e) on (λ asks. ((order-here script f z c s x good at).promise p e).lower (h.asking c s x at ∙ asks)) in
            ap {B = Bool} (λ (o : Option (ℕ × Key)). elim o as (λ _. Bool) [ None ↦ false | Some p ↦ not (p.0 == l) ]) e ∙ ap not (eq-test p.0 l same)

-- ---- the next phase opens

pub replica-back : (script : Script) (f : ℕ) (z : Progress) (b q : ℕ) (n : PlainNode) → IsReplica script f (opened script z) b q n → IsReplica script f z b q n
replica-back script f z b q n at = record { role = at.role; up = at.up }

pub replica-opened : (script : Script) (f : ℕ) (z : Progress) (b q : ℕ) (n : PlainNode) → IsReplica script f z b q n → IsReplica script f (opened script z) b q n
replica-opened script f z b q n at = record { role = at.role; up = at.up }

pub resting-opened : (script : Script) (f : ℕ) (Was : ℕ → Type 0) (z : Progress) → IsResting script f Was z → IsResting script f Was (opened script z)
resting-opened script f Was z h =
    record {
      sorted = λ b q n at. h.sorted b q n (replica-back script f z b q n at);
      known = λ b q n c r m at there apart. h.known b q n c r m (replica-back script f z b q n at) (replica-back script f z c r m there) apart;
    }

pub trying-opened : (script : Script) (f : ℕ) (Was : ℕ → Type 0) (E : ℕ → Bool) (z : Progress) → IsTrying script f Was E z → IsTrying script f Was E (opened script z)
trying-opened script f Was E z h = record { resting = resting-opened script f Was z h.resting; asking = λ b q n at. h.asking b q n (replica-back script f z b q n at) }

pub entered-opened : (script : Script) (f : ℕ) (Was : ℕ → Type 0) (z : Progress) → HasEntered script f Was z → HasEntered script f Was (opened script z)
entered-opened script f Was z h = record { actor = h.actor; number = h.number; node = h.node; replica = replica-opened script f z h.actor h.number h.node h.replica; was = h.was; fine = h.fine }
