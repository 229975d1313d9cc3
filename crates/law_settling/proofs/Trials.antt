-- Three full phases: a replica entered, or another one is asking.
use Rattle.std.proofs.Common.{◌≡◌, ℕ, ◌+◌, ◌<◌, Bool, true, false, not, ◌&&◌, ◌==◌, List, refl, sym, ap, subst, ◌∙◌, arith, Option, Some, slice_get, ◌⊎◌, inl, inr}
use Rattle.std.specs.Prelude.{is_some}
use Rattle.dpc_model.specs.Actors.{role_of}
use Rattle.dpc_model.specs.NodeStates.{is_up_failure}
use Rattle.dpc_model.specs.declared.actors.Role.{Role}
use Rattle.dpc_model.specs.declared.actors.Role.TheVariants.{Node as IsNode}
use Rattle.dpc_model.specs.declared.messages.Event.{Event}
use Rattle.dpc_model.specs.declared.messages.Event.TheVariants.{Deliver, Tick}
use Rattle.dpc_model.specs.declared.messages.Message.{Message}
use Rattle.dpc_model.specs.declared.messages.Message.TheVariants as message
use Rattle.dpc_model.specs.declared.plans.Plan.{Plan}
use Rattle.dpc_model.specs.declared.scripts.Script.{Script}
use Rattle.node_model.specs.Mails.{mail}
use Rattle.node_model.specs.Nodes.{PlainNode, spec_of}
use Rattle.node_model.specs.NodeSteps.{tick_step}
use Rattle.world_model.specs.Worlds.{World, Slot, home_of, slot_of, from, node_stepped, role_up, is_up, happens}
use Rattle.world_model.specs.Schedules.{Progress, next_progress, progress_from}
use Rattle.dpc_lists.proofs.Truths.{both, both-of, eq-of, eq-test}
use Rattle.law_safety.proofs.Promises.{slot-here}
use Rattle.law_safety.proofs.Emptied.{shape-of}
use Rattle.law_settling.specs.Phased.{opened}
use Rattle.world_model.specs.Events.{is_delivery}
use Rattle.law_settling.proofs.Waitings.{is_due}
use Rattle.law_settling.proofs.Rules.{MayGo, Keeps, due-taken, opened-due, same-delivery, tick-due, first-good}
use Rattle.law_settling.proofs.Journeys.{IsStep}
use Rattle.law_settling.proofs.PortSteps.{sent-place}
use Rattle.law_settling.proofs.Fresh.{new-waits}
use Rattle.law_settling.proofs.Stages.{due-waits, role-within}
use Rattle.law_settling.proofs.Bounded.{IsFirst, first-of}
use Rattle.law_settling.proofs.Fellows.{many_replicas, replica-of}
use Rattle.law_settling.proofs.Replicas.{peer-is}
use Rattle.law_settling.proofs.Nodes.{node-ticked-now}
use Rattle.law_settling.proofs.Entering.{tick-asks}
use Rattle.law_settling.proofs.Moving.{IsReplica, IsWorking, role-here, good-here, calm-here}
use Rattle.law_settling.proofs.Resting.{same-replica}
use Rattle.law_settling.proofs.Trying.{IsTrying, Broke, IsPeerOf, failed-wants, asking-failed, broke-kept, trying-next, least-free, none-free, replica-back, trying-opened}
use Rattle.law_settling.proofs.Ports.{node-there}
use Rattle.law_settling.proofs.Granted.{IsOnWay, at-actor, comes-so, key-next, way-next, grant-taken, ask-taken}

-- the ask waits for the next asking replica
pub record IsAskSent (script : Script) (f : ℕ) (Was : ℕ → Type 0) (E : ℕ → Bool) (l b : ℕ) (z : Progress) : Type 0 where
  pub number : ℕ
  pub actor : ℕ
  pub inc : ℕ
  pub ask : ℕ
  pub place : ℕ
  pub role : role_of script.plan actor ≡ IsNode f number
  pub peer : IsPeerOf E (many_replicas script.plan f) l number
  pub way : IsOnWay script f Was E l b b actor inc ask (message.Ask inc ask) place z

-- a grant waits
pub record IsGrantSent (script : Script) (f : ℕ) (Was : ℕ → Type 0) (E : ℕ → Bool) (l b : ℕ) (z : Progress) : Type 0 where
  pub actor : ℕ
  pub inc : ℕ
  pub ask : ℕ
  pub place : ℕ
  pub way : IsOnWay script f Was E l b actor b inc ask (message.Grant inc ask) place z

-- whom to follow: the next asking one, or any other
pub choose-peer : (E : ℕ → Bool) (many l q : ℕ) → q < many → (q == l) ≡ false → (s : ℕ) × (s < many) × IsPeerOf E many l s
choose-peer E many l q low apart =
    elim (first-of (λ j. E j && not (j == l)) many) [
      | inl h ↦
          let p = both (E h.0) (not (h.0 == l)) h.1.passes in (
            h.0,
            h.1.low,
            record {
              other = λ same. let one = eq-test h.0 l same in let none : not true ≡ true = ap not (sym one) ∙ p.1 in cc;
              only = λ j few on less. by-test j (j == l) refl on (h.1.before j (less p.0));
            },
          )
      | inr none ↦ (
        q,
        low,
        record {
          other = λ same. let one = eq-test q l same in let clash : true ≡ false = sym one ∙ apart in cc;
          only = λ j few on less. by-test j (j == l) refl on (none j few);
        },
      )
    ]
  where
    by-test : (j : ℕ) (c : Bool) → (j == l) ≡ c → E j ≡ true → (E j && not (j == l)) ≡ false → j ≡ l
    by-test j true e on off = eq-of j l e
    by-test j false e on off = let passes = both-of (E j) (not (j == l)) on (ap not e) in let clash : true ≡ false = sym passes ∙ off in cc

module _ (script : Script) (f : ℕ) (Was : ℕ → Type 0) (E : ℕ → Bool) where
  -- a tick of an UP_FAILURE replica that promised nobody: it enters, or asks
  record TicksNow (z : Progress) (b l now : ℕ) (n : PlainNode) : Type 0 where
    after : PlainNode
    replica : IsReplica script f (next_progress script z (Tick b now)) b l after
    is : after ≡ (tick_step (home_of z.world.plan (f, l)) now n).after
    world : happens z.world (Tick b now) ≡ node_stepped b (tick_step (home_of z.world.plan (f, l)) now n) z.world

  ticks-now : (z : Progress) (b l now : ℕ) (n : PlainNode) → MayGo script (IsWorking script f) z (Tick b now) → IsReplica script f z b l n → TicksNow z b l now n
  ticks-now z b l now n may at =
      let good = may.here in
      let w = z.world in
      let role = role-here script f z b l n good at in
      let t = tick_step (home_of w.plan (f, l)) now n in
      let event = node-ticked-now w good.here.most b f l good.here.fine role now n (good.here.clocked b now may.may) at.up in
      let slot : slot_of (node_stepped b t w) b ≡ record (slot_of w b) { node = Some t.after } = slot-here w good.here.most b f l (λ (y : Slot). record y { node = Some t.after }) good.here.fine role in
      record {
        after = t.after;
        replica = record { role = at.role; up = ap (λ (v : World). (slot_of v b).node) event ∙ ap (λ (y : Slot). y.node) slot };
        is = refl;
        world = event;
      }

  up-now : (z : Progress) (b q : ℕ) → IsWorking script f z → role_of script.plan b ≡ IsNode f q → is_up z.world b ≡ true
  up-now z b q good role =
      let here : role_of z.world.plan b ≡ IsNode f q = ap (λ (pl : Plan). role_of pl b) good.here.of_plan ∙ role in
      let p = node-there z.world good.here.most b f q good.here.fine good.here.up here in
      ap (λ (y : Role). role_up z.world b y) here ∙ ap (λ (o : Option PlainNode). is_some o) p.1

  there-now : (z : Progress) (b q : ℕ) → IsWorking script f z → role_of script.plan b ≡ IsNode f q → role_of z.world.plan b ≡ IsNode f q
  there-now z b q good role = ap (λ (pl : Plan). role_of pl b) good.here.of_plan ∙ role

  -- ---- nobody is asking

  module _ (b q : ℕ) (role_b : role_of script.plan b ≡ IsNode f q) (was : Was b) (low : q < many_replicas script.plan f) (none : (k : ℕ) → k < many_replicas script.plan f → E k ≡ false) where
    begins-now : (z : Progress) (now : ℕ) → MayGo script (IsWorking script f) z (Tick b now) → IsTrying script f Was E z → Broke script f Was E (next_progress script z (Tick b now))
    begins-now z now may h = by-state may.here (node-is may.here)
      where
        node-is : IsWorking script f z → (n : PlainNode) × IsReplica script f z b q n
        node-is good = let p = node-there z.world good.here.most b f q good.here.fine good.here.up (there-now z b q good role_b) in (p.0, record { role = role_b; up = p.1 })

        by-state : IsWorking script f z → (n : PlainNode) × IsReplica script f z b q n → Broke script f Was E (next_progress script z (Tick b now))
        by-state good n =
            let t = ticks-now z b q now n.0 may n.1 in
            (elim (is_up_failure n.0.state) as (λ c. is_up_failure n.0.state ≡ c → Broke script f Was E (next_progress script z (Tick b now))) [
              | false ↦ λ fine. broke-kept script f Was E z (Tick b now) may (inl (record { actor = b; number = q; node = n.0; replica = n.1; was = was; fine = fine }))
              | true ↦ λ failed. elim (tick-asks (home_of z.world.plan (f, q)) now n.0 (calm-here script f z b q n.0 good n.1) (failed-wants script f Was z b q n.0 good n.1 failed) (none-free script f Was E z good h none b q n.0 n.1)) [
                | inl entered ↦ inl (record { actor = b; number = q; node = t.after; replica = t.replica; was = was; fine = ap (λ (y : PlainNode). is_up_failure y.state) t.is ∙ ap is_up_failure entered })
                | inr asks ↦ elim (trying-next script f Was E z (Tick b now) may h) [
                  | inr out ↦ out
                  | inl trying ↦ let on = ap (λ (y : PlainNode). y.grants.running) t.is ∙ asks.runs in let off = trying.asking b q t.after t.replica ∙ none q low in let clash : true ≡ false = sym on ∙ off in cc
                ]
              ]
            ]) refl

    pub begins-in : (z : Progress) (es : List Event) → IsStep script (IsWorking script f) z es → IsTrying script f Was E (opened script z) → Broke script f Was E (progress_from script (opened script z) es)
    begins-in z es step h =
        tick-due script (IsWorking script f) b (IsTrying script f Was E) (Broke script f Was E) (record {
          others = λ y e may apart p. trying-next script f Was E y e may p;
          ticked = λ y now may p. begins-now y now may p;
          keeps = broke-kept script f Was E;
          up = λ y good. up-now y b q good role_b;
          there = λ y good. role-within y.world.plan b (IsNode f q) (there-now y b q good role_b) (λ e. cc);
          at = λ y good. good.here.at;
        }) (opened script z) es step.phase h refl

  -- ---- the least asking one

  module _ (l b : ℕ) (role_b : role_of script.plan b ≡ IsNode f l) (first : IsFirst E (many_replicas script.plan f) l) where
    abbrev pub Granted : Progress → Type 0
    Granted z = IsGrantSent script f Was E l b z ⊎ Broke script f Was E z

    abbrev pub Asked : Progress → Type 0
    Asked z = IsAskSent script f Was E l b z ⊎ Granted z

    granted-kept : Keeps script (IsWorking script f) Granted
    granted-kept z e may (inr out) = inr (broke-kept script f Was E z e may out)
    granted-kept z e may (inl h) =
        (elim (is_delivery h.place e) as (λ d. is_delivery h.place e ≡ d → Granted (next_progress script z e)) [
          | true ↦ λ d.
              let same = same-delivery h.place e may.quiet d in
              subst (λ (g : Event). Granted (next_progress script z g)) (sym same) (inr (grant-taken script f Was E l b role_b first h.actor h.inc h.ask h.place z (subst (MayGo script (IsWorking script f) z) same may) h.way))
          | false ↦ λ d. elim (way-next script f Was E l b role_b first h.actor b h.inc h.ask (message.Grant h.inc h.ask) h.place z e may d h.way) [
            | inl way ↦ inl (record { actor = h.actor; inc = h.inc; ask = h.ask; place = h.place; way = way })
            | inr out ↦ inr out
          ]
        ]) refl

    asked-taken : (z : Progress) → (h : IsAskSent script f Was E l b z) → MayGo script (IsWorking script f) z (Deliver h.place) → Granted (next_progress script z (Deliver h.place))
    asked-taken z h may = elim (ask-taken script f Was E l b role_b first h.number h.actor h.role h.peer h.inc h.ask h.place z may h.way) [
      | inl j ↦ inl (record { actor = h.actor; inc = h.inc; ask = h.ask; place = j.0; way = j.1 })
      | inr out ↦ inr out
    ]

    asked-kept : Keeps script (IsWorking script f) Asked
    asked-kept z e may (inr h) = inr (granted-kept z e may h)
    asked-kept z e may (inl h) =
        (elim (is_delivery h.place e) as (λ d. is_delivery h.place e ≡ d → Asked (next_progress script z e)) [
          | true ↦ λ d.
              let same = same-delivery h.place e may.quiet d in
              subst (λ (g : Event). Asked (next_progress script z g)) (sym same) (inr (asked-taken z h (subst (MayGo script (IsWorking script f) z) same may)))
          | false ↦ λ d. elim (way-next script f Was E l b role_b first b h.actor h.inc h.ask (message.Ask h.inc h.ask) h.place z e may d h.way) [
            | inl way ↦ inl (record { number = h.number; actor = h.actor; inc = h.inc; ask = h.ask; place = h.place; role = h.role; peer = h.peer; way = way })
            | inr out ↦ inr (inr out)
          ]
        ]) refl

    asks-now : (z : Progress) (now : ℕ) → MayGo script (IsWorking script f) z (Tick b now) → IsTrying script f Was E z → Asked (next_progress script z (Tick b now))
    asks-now z now may h =
        let good = may.here in
        let n = at-actor script f Was E l b role_b first z b l good role_b in
        let t = ticks-now z b l now n.0 may n.1 in
        let w = z.world in
        let home = home_of w.plan (f, l) in
        let step = tick_step home now n.0 in
        let failed = asking-failed script f Was z b l n.0 good h.resting n.1 (h.asking b l n.0 n.1 ∙ first.passes) in
        elim (tick-asks home now n.0 (calm-here script f z b l n.0 good n.1) (failed-wants script f Was z b l n.0 good n.1 failed.1) (least-free script f Was E z l good h first b n.0 n.1)) [
          | inl entered ↦ inr (inr (inl (record { actor = b; number = l; node = t.after; replica = t.replica; was = failed.0; fine = ap (λ (y : PlainNode). is_up_failure y.state) t.is ∙ ap is_up_failure entered })))
          | inr asks ↦ elim (trying-next script f Was E z (Tick b now) may h) [
            | inr out ↦ inr (inr out)
            | inl trying ↦
                let peers = (shape-of home good.here.most n.0 (good-here script f z b l n.0 good n.1).orderly.shape).peers in
                let many : (spec_of home).replicas ≡ many_replicas script.plan f = ap (λ (pl : Plan). many_replicas pl f) good.here.of_plan in
                let few = asks.other.1 in
                let chosen = choose-peer E (many_replicas script.plan f) l asks.other.0 (omega (arith, few, peers, many)) asks.other.2 in
                let c = replica-of script.plan f chosen.0 chosen.1 in
                let apart : c.0 ≡ b → ⊥ = (λ (same : c.0 ≡ b). let roles : IsNode f chosen.0 ≡ IsNode f l = sym c.1 ∙ ap (λ (y : ℕ). role_of script.plan y) same ∙ role_b in chosen.2.other (number-of chosen.0 roles)) in
                let i = n.0.grants.inc in
                let o = n.0.grants.over + 1 in
                let place = sent-place b w.envelopes (mail c.0 (message.Ask i o)) step.sends (asks.asks c.0 (peer-is w.plan b c.0 f l chosen.0 (there-now z b l good role_b) (there-now z c.0 chosen.0 good c.1) apart)) in
                let sent : slice_get (happens w (Tick b now)).envelopes place.0 ≡ Some (from b (mail c.0 (message.Ask i o))) = ap (λ (v : World). slice_get v.envelopes place.0) t.world ∙ place.1 in
                inl (record {
                  number = chosen.0;
                  actor = c.0;
                  inc = i;
                  ask = o;
                  place = place.0;
                  role = c.1;
                  peer = chosen.2;
                  way = record {
                    trying = trying;
                    key = key-next script f Was E l b role_b first i o z (Tick b now) may h (λ m at. let same = (same-replica script f z b b l n.0 m n.1 at).1 in (ap (λ (y : PlainNode). y.grants.inc) same, ap (λ (y : PlainNode). y.grants.over + 1) same));
                    sent = sent;
                    waits = new-waits script z (Tick b now) place.0 _ place.2 sent;
                  };
                })
          ]
        ]
      where
        number-of : (s : ℕ) → IsNode f s ≡ IsNode f l → s ≡ l
        number-of s e = cc

    -- ---- three phases

    pub asks-in : (z : Progress) (es : List Event) → IsStep script (IsWorking script f) z es → IsTrying script f Was E (opened script z) → Asked (progress_from script (opened script z) es)
    asks-in z es step h =
        tick-due script (IsWorking script f) b (IsTrying script f Was E) Asked (record {
          others = λ y e may apart p. elim (trying-next script f Was E y e may p) [ inl on ↦ inl on | inr out ↦ inr (inr (inr out)) ];
          ticked = λ y now may p. asks-now y now may p;
          keeps = asked-kept;
          up = λ y good. up-now y b l good role_b;
          there = λ y good. role-within y.world.plan b (IsNode f l) (there-now y b l good role_b) (λ e. cc);
          at = λ y good. good.here.at;
        }) (opened script z) es step.phase h refl

    -- what waits when the phase opens comes in it
    due-at : (x y i o k : ℕ) (msg : Message) (z : Progress) (es : List Event) → IsStep script (IsWorking script f) z es → IsOnWay script f Was E l b x y i o msg k z → is_due k (opened script z).waiting ≡ true
    due-at x y i o k msg z es step h =
        let good = first-good script (IsWorking script f) (opened script z) es step.phase.good in
        opened-due script z k step.at step.complete (comes-so script f Was E l b role_b first (opened script z) k _ good h.sent) h.waits

    way-opened : (x y i o k : ℕ) (msg : Message) (z : Progress) → IsOnWay script f Was E l b x y i o msg k z → is_due k (opened script z).waiting ≡ true → IsOnWay script f Was E l b x y i o msg k (opened script z)
    way-opened x y i o k msg z h due = record { trying = trying-opened script f Was E z h.trying; key = λ n at. h.key n (replica-back script f z b l n at); sent = h.sent; waits = due-waits k (opened script z).waiting due }

    pub enters-in : (z : Progress) (es : List Event) → IsStep script (IsWorking script f) z es → IsGrantSent script f Was E l b z → Broke script f Was E (progress_from script (opened script z) es)
    enters-in z es step h =
        let due = due-at h.actor b h.inc h.ask h.place (message.Grant h.inc h.ask) z es step h.way in
        due-taken script (IsWorking script f) h.place (IsOnWay script f Was E l b h.actor b h.inc h.ask (message.Grant h.inc h.ask) h.place) (Broke script f Was E) (record {
          others = λ y e may apart p. way-next script f Was E l b role_b first h.actor b h.inc h.ask (message.Grant h.inc h.ask) h.place y e may apart p;
          taken = λ y may p. grant-taken script f Was E l b role_b first h.actor h.inc h.ask h.place y may p;
          keeps = broke-kept script f Was E;
          can = λ y good p. comes-so script f Was E l b role_b first y h.place _ good p.sent;
          at = λ y good. good.here.at;
        }) (opened script z) es step.phase (way-opened h.actor b h.inc h.ask h.place (message.Grant h.inc h.ask) z h.way due) due

    pub grants-in : (z : Progress) (es : List Event) → IsStep script (IsWorking script f) z es → IsAskSent script f Was E l b z → Granted (progress_from script (opened script z) es)
    grants-in z es step h =
        let due = due-at b h.actor h.inc h.ask h.place (message.Ask h.inc h.ask) z es step h.way in
        due-taken script (IsWorking script f) h.place (IsOnWay script f Was E l b b h.actor h.inc h.ask (message.Ask h.inc h.ask) h.place) Granted (record {
          others = λ y e may apart p. elim (way-next script f Was E l b role_b first b h.actor h.inc h.ask (message.Ask h.inc h.ask) h.place y e may apart p) [ inl on ↦ inl on | inr out ↦ inr (inr out) ];
          taken = λ y may p. asked-taken y (record { number = h.number; actor = h.actor; inc = h.inc; ask = h.ask; place = h.place; role = h.role; peer = h.peer; way = p }) may;
          keeps = granted-kept;
          can = λ y good p. comes-so script f Was E l b role_b first y h.place _ good p.sent;
          at = λ y good. good.here.at;
        }) (opened script z) es step.phase (way-opened b h.actor h.inc h.ask h.place (message.Ask h.inc h.ask) z h.way due) due
