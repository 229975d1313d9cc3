-- While no replica enters: each is UP_FAILURE or has finished, every ask that is over is known to be, and promises are to running asks.
use Rattle.std.proofs.Common.{◌≡◌, ℕ, ◌+◌, ◌<◌, ◌≤◌, true, false, refl, sym, ap, subst, ◌∙◌, arith, Option, Some, ◌⊎◌, inl, inr}
use Rattle.std.specs.Prelude.{IfSome}
use Rattle.dpc_model.specs.Actors.{role_of}
use Rattle.dpc_model.specs.Granting.{Key, key_le, over_by}
use Rattle.dpc_model.specs.NodeStates.{is_up_failure, is_stabilization}
use Rattle.dpc_model.specs.declared.actors.Role.TheVariants.{Node as IsNode}
use Rattle.dpc_model.specs.declared.messages.Event.{Event}
use Rattle.dpc_model.specs.declared.scripts.Script.{Script}
use Rattle.dpc_lists.proofs.Somes.{some-same}
use Rattle.node_model.specs.Nodes.{PlainNode, buckets_of}
use Rattle.world_model.specs.Worlds.{slot_of}
use Rattle.world_model.specs.Schedules.{Progress, next_progress}
use Rattle.law_safety.proofs.Numbering.{replica-at}
use Rattle.law_granting.proofs.Keys.{key-trans}
use Rattle.law_settling.proofs.Rules.{MayGo, Keeps}
use Rattle.law_settling.proofs.Exact.{same-or}
use Rattle.law_settling.proofs.Bounded.{every-or}
use Rattle.law_settling.proofs.Fellows.{many_replicas}
use Rattle.law_settling.proofs.Replicas.{number-low}
use Rattle.law_settling.proofs.Knowing.{Knows}
use Rattle.law_settling.proofs.Ending.{over-key}
use Rattle.law_settling.proofs.Failing.{failed-moves}
use Rattle.law_settling.proofs.Moving.{IsReplica, IsWorking, Moved, role-here, order-here, pick, finished-here, moved}

-- the only replica with that number
pub same-replica : (script : Script) (f : ℕ) (z : Progress) (b c q : ℕ) (n m : PlainNode) → IsReplica script f z b q n → IsReplica script f z c q m → (c ≡ b) × (m ≡ n)
same-replica script f z b c q n m at there =
    let one : c ≡ b = sym (replica-at script.plan c f q there.role) ∙ replica-at script.plan b f q at.role in
    (one, some-same m n (sym there.up ∙ ap (λ (i : ℕ). (slot_of z.world i).node) one ∙ at.up))

-- it was UP_FAILURE and still is, or is past its last bucket
abbrev pub IsSorted : Script → (ℕ → Type 0) → ℕ → PlainNode → Type 0
IsSorted script Was b n = (Was b × (is_up_failure n.state ≡ true)) ⊎ (buckets_of script.plan ≤ n.cursor)

pub record IsResting (script : Script) (f : ℕ) (Was : ℕ → Type 0) (z : Progress) : Type 0 where
  pub sorted : (b q : ℕ) (n : PlainNode) → IsReplica script f z b q n → IsSorted script Was b n
  pub known : (b q : ℕ) (n : PlainNode) (c r : ℕ) (m : PlainNode) → IsReplica script f z b q n → IsReplica script f z c r m → (c ≡ b → ⊥) → Knows q (n.grants.inc, n.grants.over) m.grants

-- one that was UP_FAILURE is so no more
pub record HasEntered (script : Script) (f : ℕ) (Was : ℕ → Type 0) (z : Progress) : Type 0 where
  pub actor : ℕ
  pub number : ℕ
  pub node : PlainNode
  pub replica : IsReplica script f z actor number node
  pub was : Was actor
  pub fine : is_up_failure node.state ≡ false

-- a promise is to the running ask of a replica
pub record RunsFor (script : Script) (f : ℕ) (z : Progress) (q : ℕ) : Type 0 where
  pub actor : ℕ
  pub node : PlainNode
  pub replica : IsReplica script f z actor q node
  pub runs : node.grants.running ≡ true

module _ (script : Script) (f : ℕ) (Was : ℕ → Type 0) where
  -- nobody reconciles
  pub none-stabilizes : (z : Progress) (b q : ℕ) (n : PlainNode) → IsWorking script f z → IsReplica script f z b q n → IsSorted script Was b n → is_stabilization n.state ≡ false
  none-stabilizes z b q n good at (inl failed) = failed-moves n.state failed.1
  none-stabilizes z b q n good at (inr past) = ap is_stabilization (finished-here script f z b q n good at past).state

  pub entered-kept : Keeps script (IsWorking script f) (HasEntered script f Was)
  entered-kept z e may h =
      let m = moved script f z e may h.actor h.number h.node h.replica in
      record { actor = h.actor; number = h.number; node = m.0; replica = m.1.replica; was = h.was; fine = m.1.even.fine h.fine }

  -- a replica by what it was before
  pub record Came (z : Progress) (e : Event) (b q : ℕ) (m : PlainNode) : Type 0 where
    pub old : PlainNode
    pub at : IsReplica script f z b q old
    pub way : Moved script f (next_progress script z e) b q old m

  pub came : (z : Progress) (e : Event) → MayGo script (IsWorking script f) z e → (b q : ℕ) (m : PlainNode) → IsReplica script f (next_progress script z e) b q m → Came z e b q m
  came z e may b q m there =
      let p = pick script f z q may.here (number-low script.plan b f q q there.role) in
      let one : p.0 ≡ b = sym (replica-at script.plan p.0 f q p.2.role) ∙ replica-at script.plan b f q there.role in
      let at : IsReplica script f z b q p.1 = subst (λ (i : ℕ). IsReplica script f z i q p.1) one p.2 in
      let way = moved script f z e may b q p.1 at in
      let same = (same-replica script f (next_progress script z e) b b q way.0 m way.1.replica there).1 in
      record { old = p.1; at = at; way = subst (λ (y : PlainNode). Moved script f (next_progress script z e) b q p.1 y) (sym same) way.1 }

  pub resting-next : (z : Progress) (e : Event) → MayGo script (IsWorking script f) z e → IsResting script f Was z → IsResting script f Was (next_progress script z e) ⊎ HasEntered script f Was (next_progress script z e)
  resting-next z e may h =
      elim (every-or (λ q. (b : ℕ) (m : PlainNode) → IsReplica script f (next_progress script z e) b q m → IsSorted script Was b m) (λ q. HasEntered script f Was (next_progress script z e)) (many_replicas script.plan f) (λ q low. each q low)) [
        | inr out ↦ inr out.2
        | inl all ↦ inl (record {
          sorted = λ b q m there. all q (number-low script.plan b f q q there.role) b m there;
          known = λ b q n c r m there here apart.
              let one = came z e may b q n there in
              let two = came z e may c r m here in
              let over = one.way.even.over (none-stabilizes z b q one.old may.here one.at (h.sorted b q one.old one.at)) in
              let old = h.known b q one.old c r two.old one.at two.at apart in
              two.way.knows q (n.grants.inc, n.grants.over) (subst (λ (i : ℕ). Knows q (i, n.grants.over) two.old.grants) (sym one.way.inc) (subst (λ (k : ℕ). Knows q (one.old.grants.inc, k) two.old.grants) (sym over) old));
        })
      ]
    where
      on : (b q : ℕ) (n m : PlainNode) → IsReplica script f (next_progress script z e) b q m → Moved script f (next_progress script z e) b q n m → IsSorted script Was b n → IsSorted script Was b m ⊎ HasEntered script f Was (next_progress script z e)
      on b q n m there way (inr past) = let more = way.cursor in inl (inr (omega (arith, past, more)))
      on b q n m there way (inl failed) = (elim (is_up_failure m.state) as (λ c. is_up_failure m.state ≡ c → IsSorted script Was b m ⊎ HasEntered script f Was (next_progress script z e)) [
        | true ↦ λ d. inl (inl (failed.0, d))
        | false ↦ λ d. inr (record { actor = b; number = q; node = m; replica = there; was = failed.0; fine = d })
      ]) refl

      each : (q : ℕ) → q < many_replicas script.plan f → ((b : ℕ) (m : PlainNode) → IsReplica script f (next_progress script z e) b q m → IsSorted script Was b m) ⊎ HasEntered script f Was (next_progress script z e)
      each q low =
          let p = pick script f z q may.here low in
          let way = moved script f z e may p.0 q p.1 p.2 in
          elim (on p.0 q p.1 way.0 way.1.replica way.1 (h.sorted p.0 q p.1 p.2)) [
            | inr out ↦ inr out
            | inl sorted ↦ inl (λ b m there.
                let same = same-replica script f (next_progress script z e) p.0 b q way.0 m way.1.replica there in
                subst (λ (i : ℕ). IsSorted script Was i m) (sym same.0) (subst (λ (y : PlainNode). IsSorted script Was p.0 y) (sym same.1) sorted))
          ]

  -- ---- promises

  pub promise-runs : (z : Progress) → IsWorking script f z → IsResting script f Was z → (c r : ℕ) (m : PlainNode) (p : ℕ × Key) → IsReplica script f z c r m → m.grants.promise ≡ Some p → RunsFor script f z p.0
  promise-runs z good h c r m p at promised =
      let low = good.numbered c r m p at promised in
      let b = pick script f z p.0 good low in
      let proper = (order-here script f z c r m good at).promise p promised in
      let apart : c ≡ b.0 → ⊥ = (λ (same : c ≡ b.0). let roles : IsNode f r ≡ IsNode f p.0 = sym at.role ∙ ap (λ (i : ℕ). role_of script.plan i) same ∙ b.2.role in proper.other (number-of roles)) in
      let asked = good.order.promises c b.0 f r p.0 m p.1 (record { role = role-here script f z c r m good at; up = at.up }) (role-here script f z b.0 p.0 b.1 good b.2) promised in
      let inc = good.order.incarnation b.0 f p.0 b.1 (record { role = role-here script f z b.0 p.0 b.1 good b.2; up = b.2.up }) in
      let is : p.1.0 ≡ b.1.grants.inc → (p.1.1 ≤ b.1.grants.over) ⊎ ((p.1.1 ≡ b.1.grants.over + 1) × (b.1.grants.running ≡ true)) =
      subst (λ (o : Option PlainNode). IfSome o (λ (x : PlainNode). p.1.0 ≡ x.grants.inc → (p.1.1 ≤ x.grants.over) ⊎ ((p.1.1 ≡ x.grants.over + 1) × (x.grants.running ≡ true)))) b.2.up asked.asked in
      let known = h.known b.0 p.0 b.1 c r m b.2 at apart in
      let not_over : key_le p.1 (b.1.grants.inc, b.1.grants.over) ≡ true → ⊥ = (λ (d : key_le p.1 (b.1.grants.inc, b.1.grants.over) ≡ true).
      let all = key-trans p.1 (b.1.grants.inc, b.1.grants.over) known.0 d known.2 in
      let going : key_le p.1 known.0 ≡ false = sym (ap (λ (o : Option Key). over_by p.1 o) known.1) ∙ proper.going_on in
      let clash : true ≡ false = sym all ∙ going in cc) in
      elim (same-or p.1.0 b.1.grants.inc) [
        | inr other ↦ absurd (not_over (over-key p.1 (slot_of z.world b.0).last_inc b.1.grants.inc b.1.grants.over asked.came inc (λ e. absurd (other e))))
        | inl same ↦ elim (is same) [
          | inl low_one ↦ absurd (not_over (over-key p.1 (slot_of z.world b.0).last_inc b.1.grants.inc b.1.grants.over asked.came inc (λ e. low_one)))
          | inr runs ↦ record { actor = b.0; node = b.1; replica = b.2; runs = runs.1 }
        ]
      ]
    where
      number-of : IsNode f r ≡ IsNode f p.0 → p.0 ≡ r
      number-of e = cc
