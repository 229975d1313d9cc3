-- A promise to an ask that is over ends: the next beat of its replica tells it, and is heard a phase later.
use Rattle.std.proofs.Common.{◌≡◌, ℕ, zero, suc, ◌+◌, ◌<◌, ◌≤◌, true, false, ◌&&◌, ◌||◌, ◌==◌, nat_lt, nat_le, List, length, refl, sym, ap, subst, ◌∙◌, arith, Option, Some, None, slice_get, ◌⊎◌, inl, inr}
use Rattle.std.specs.Prelude.{is_some}
use Rattle.std.proofs.lemmas.Option.{slice_get_within}
use Rattle.dpc_model.specs.Actors.{role_of}
use Rattle.dpc_model.specs.Granting.{Key, key_le}
use Rattle.dpc_model.specs.declared.actors.Role.{Role}
use Rattle.dpc_model.specs.declared.actors.Role.TheVariants.{Node as IsNode}
use Rattle.dpc_model.specs.declared.messages.Beat.{Beat}
use Rattle.dpc_model.specs.declared.messages.Event.{Event}
use Rattle.dpc_model.specs.declared.messages.Event.TheVariants.{Deliver, Tick}
use Rattle.dpc_model.specs.declared.messages.Message.TheVariants as message
use Rattle.dpc_model.specs.declared.plans.Plan.{Plan}
use Rattle.dpc_model.specs.declared.scripts.Script.{Script}
use Rattle.node_model.specs.Mails.{mail, Plain}
use Rattle.node_model.specs.Nodes.{PlainNode}
use Rattle.node_model.specs.NodeSteps.{packet_step, tick_step}
use Rattle.world_model.specs.Worlds.{World, Envelope, home_of, slot_of, from, node_stepped, role_up, is_up, can_come, happens, run}
use Rattle.world_model.specs.Schedules.{Progress, next_progress, progress_from, progress, may_follow, may_come}
use Rattle.dpc_lists.proofs.Truths.{both-of, eq-test, le-test}
use Rattle.law_safety.proofs.Happening.{IsFine, node-here}
use Rattle.law_safety.proofs.Emptied.{shape-of}
use Rattle.law_safety.proofs.Law.{run-good}
use Rattle.law_granting.proofs.Keys.{key-trans}
use Rattle.law_granting.proofs.Saying.{own-delivered, own-milled, own-ticked}
use Rattle.law_schedules.specs.Journals.{Ticks}
use Rattle.law_schedules.proofs.Journals.{progress-run}
use Rattle.law_schedules.proofs.Timely.{ticks-so}
use Rattle.law_readers.specs.Settling.{CanSettle}
use Rattle.law_settling.specs.Phased.{opened}
use Rattle.law_settling.proofs.Splitting.{IsQuietAt}
use Rattle.world_model.specs.Events.{is_delivery}
use Rattle.law_settling.proofs.Waitings.{waits, is_due, waits-on, comes}
use Rattle.law_settling.proofs.Rules.{MayGo, Keeps, due-taken, opened-due, same-delivery, tick-due, kept-full, first-good}
use Rattle.law_settling.proofs.Journeys.{IsStep, IsJourney}
use Rattle.law_settling.proofs.Opening.{IsAllUp, all-come}
use Rattle.law_settling.proofs.Along.{IsRunning}
use Rattle.law_settling.proofs.PortSteps.{sent-place}
use Rattle.law_settling.proofs.Fresh.{new-waits, still-sent}
use Rattle.law_settling.proofs.Stages.{due-waits, role-within}
use Rattle.law_settling.proofs.Ports.{node-there, clocked-of}
use Rattle.law_settling.proofs.Walking.{may-of}
use Rattle.law_settling.proofs.Nodes.{NodeWent, Rests, Takes, Ticked, Mills, node-went, node-took-now, node-ticked-now}
use Rattle.law_settling.proofs.Knowing.{Knows, taken-knows, milled-knows, ticked-knows, told-knows, tick-tells}
use Rattle.law_settling.proofs.Replicas.{number-is, peer-is, number-low}

-- a state of a live journal past the script's phases
pub record IsOpenAt (script : Script) (z : Progress) : Type 0 where
  pub of_plan : z.world.plan ≡ script.plan
  pub most : ℕ
  pub fine : IsFine z.world most
  pub up : IsAllUp z.world
  pub at : IsQuietAt script z
  pub clocked : (a now : ℕ) → may_follow script z (Tick a now) ≡ true → Ticks z.world a now

pub open-of : (script : Script) → CanSettle script → (z : Progress) → IsRunning script z → IsOpenAt script z
open-of script can z running =
    let world : z.world ≡ run script.plan running.events = ap (λ (y : Progress). y.world) running.is ∙ progress-run script running.events in
    let g = run-good script.plan running.events can.plan in
    record {
      of_plan = ap (λ (v : World). v.plan) world ∙ g.of_plan;
      most = 1 + length running.events;
      fine = subst (λ (v : World). IsFine v (1 + length running.events)) (sym world) g.fine;
      up = running.standing.up;
      at = running.standing.at;
      clocked = λ a now may_it.
          let here : may_follow script (progress script running.events) (Tick a now) ≡ true = subst (λ (y : Progress). may_follow script y (Tick a now) ≡ true) running.is may_it in
          subst (λ (v : World). Ticks v a now) (sym world) (ticks-so script running.events a now (clocked-of script can) running.live (may-of script running.events (Tick a now) here));
    }

-- the replica's ask is over
pub record IsOverAt (a : ℕ) (key : Key) (z : Progress) : Type 0 where
  pub node : PlainNode
  pub up : (slot_of z.world a).node ≡ Some node
  pub over : key_le key (node.grants.inc, node.grants.over) ≡ true

-- a beat that tells so waits for another replica
pub record IsTelling (a b : ℕ) (key : Key) (n : ℕ) (z : Progress) : Type 0 where
  pub beat : Beat
  pub sent : slice_get z.world.envelopes n ≡ Some (from a (mail b (message.Beat beat)))
  pub waits : waits n z.waiting ≡ true
  pub over : key_le key (beat.inc, beat.over) ≡ true

-- the other one knows it
pub record IsKnown (b q : ℕ) (key : Key) (z : Progress) : Type 0 where
  pub node : PlainNode
  pub up : (slot_of z.world b).node ≡ Some node
  pub knows : Knows q key node.grants

abbrev pub KnownStage : ℕ → ℕ → ℕ → Key → ℕ → Progress → Type 0
KnownStage a b q key zero z = IsKnown b q key z
KnownStage a b q key (suc zero) z = ((n : ℕ) × IsTelling a b key n z) ⊎ IsKnown b q key z
KnownStage a b q key (suc (suc n)) z = IsOverAt a key z

-- what is over stays so
key-grows : (key : Key) (i j m n : ℕ) → key_le key (i, m) ≡ true → j ≡ i → m ≤ n → key_le key (j, n) ≡ true
key-grows key i j m n h same more = subst (λ (z : ℕ). key_le key (z, n) ≡ true) (sym same) (key-trans key (i, m) (i, n) h more_key)
  where
    more_key : key_le (i, m) (i, n) ≡ true
    more_key = elim (nat_lt i i) as (λ b. (b || (i == i && nat_le m n)) ≡ true) [ true ↦ refl | false ↦ both-of (i == i) (nat_le m n) (eq-test i i refl) (le-test m n more) ]

module _ (script : Script) (a b f q r : ℕ) (key : Key) (role_a : role_of script.plan a ≡ IsNode f q) (role_b : role_of script.plan b ≡ IsNode f r) (other : b ≡ a → ⊥) where
  here-a : (z : Progress) → IsOpenAt script z → role_of z.world.plan a ≡ IsNode f q
  here-a z good = ap (λ (pl : Plan). role_of pl a) good.of_plan ∙ role_a

  here-b : (z : Progress) → IsOpenAt script z → role_of z.world.plan b ≡ IsNode f r
  here-b z good = ap (λ (pl : Plan). role_of pl b) good.of_plan ∙ role_b

  -- ---- what an event keeps

  pub over-kept : Keeps script (IsOpenAt script) (IsOverAt a key)
  over-kept z e may h =
      let good = may.here in
      let went = node-went z.world good.most a f q good.fine (here-a z good) e may.quiet h.node h.up in
      record { node = went.0; up = went.1; over = on went.0 went.2 }
    where
      on : (m : PlainNode) → NodeWent (home_of z.world.plan (f, q)) h.node m → key_le key (m.grants.inc, m.grants.over) ≡ true
      on m (Rests same) = subst (λ (y : PlainNode). key_le key (y.grants.inc, y.grants.over) ≡ true) (sym same) h.over
      on m (Takes g same) =
          let s = (own-delivered (home_of z.world.plan (f, q)) g.sender g.packet h.node).grants in
          subst (λ (y : PlainNode). key_le key (y.grants.inc, y.grants.over) ≡ true) (sym same) (key-grows key h.node.grants.inc _ h.node.grants.over _ h.over s.inc s.over)
      on m (Ticked now same) =
          let s = (own-ticked (home_of z.world.plan (f, q)) now h.node).grants in
          subst (λ (y : PlainNode). key_le key (y.grants.inc, y.grants.over) ≡ true) (sym same) (key-grows key h.node.grants.inc _ h.node.grants.over _ h.over s.inc s.over)
      on m (Mills u same) =
          let s = (own-milled (home_of z.world.plan (f, q)) u h.node).grants in
          subst (λ (y : PlainNode). key_le key (y.grants.inc, y.grants.over) ≡ true) (sym same) (key-grows key h.node.grants.inc _ h.node.grants.over _ h.over s.inc s.over)

  known-kept : Keeps script (IsOpenAt script) (IsKnown b q key)
  known-kept z e may h =
      let good = may.here in
      let went = node-went z.world good.most b f r good.fine (here-b z good) e may.quiet h.node h.up in
      record { node = went.0; up = went.1; knows = on went.0 went.2 }
    where
      on : (m : PlainNode) → NodeWent (home_of z.world.plan (f, r)) h.node m → Knows q key m.grants
      on m (Rests same) = subst (λ (y : PlainNode). Knows q key y.grants) (sym same) h.knows
      on m (Takes g same) = subst (λ (y : PlainNode). Knows q key y.grants) (sym same) (taken-knows (home_of z.world.plan (f, r)) g.sender q key g.packet h.node h.knows)
      on m (Ticked now same) = subst (λ (y : PlainNode). Knows q key y.grants) (sym same) (ticked-knows (home_of z.world.plan (f, r)) now q key h.node h.knows)
      on m (Mills u same) = subst (λ (y : PlainNode). Knows q key y.grants) (sym same) (milled-knows (home_of z.world.plan (f, r)) u q key h.node h.knows)

  -- ---- the beat

  comes-so : (z : Progress) (n : ℕ) (g : Envelope) → IsOpenAt script z → slice_get z.world.envelopes n ≡ Some g → comes z.world n ≡ true
  comes-so z n g good there = all-come z.world good.most n good.fine good.up (slice_get_within z.world.envelopes n g there)

  -- it comes, and is known
  heard-now : (n : ℕ) (z : Progress) → MayGo script (IsOpenAt script) z (Deliver n) → IsTelling a b key n z → IsKnown b q key (next_progress script z (Deliver n))
  heard-now n z may h =
      let good = may.here in
      let w = z.world in
      let role = here-b z good in
      let home = home_of w.plan (f, r) in
      let node = node-there w good.most b f r good.fine good.up role in
      let g : Envelope = from a (mail b (message.Beat h.beat)) in
      let can : can_come w g ≡ true = sym (ap (λ (o : Option Envelope). may_come w o) h.sent) ∙ comes-so z n g good h.sent in
      let now = node-took-now w good.most b f r good.fine role n g node.0 h.sent can refl node.1 in
      let shape = shape-of home good.most node.0 (node-here w good.most b f r node.0 good.fine role node.1).orderly.shape in
      let many = shape.heard in
      let low = number-low w.plan a f q r (here-a z good) in
      let inside : q < length node.0.grants.heard = omega (arith, many, low) in
      record { node = (packet_step home a (Plain (message.Beat h.beat)) node.0).after; up = now; knows = told-knows home a q key h.beat node.0 (number-is w.plan a f q r (here-a z good)) inside h.over }

  telling-next : (n : ℕ) (z : Progress) (e : Event) → MayGo script (IsOpenAt script) z e → is_delivery n e ≡ false → IsTelling a b key n z → IsTelling a b key n (next_progress script z e)
  telling-next n z e may apart h = record { beat = h.beat; sent = still-sent z.world e n _ h.sent; waits = waits-on script z e n may.quiet apart h.waits; over = h.over }

  told-kept : Keeps script (IsOpenAt script) (KnownStage a b q key 1)
  told-kept z e may (inr known) = inr (known-kept z e may known)
  told-kept z e may (inl (n, h)) =
      (elim (is_delivery n e) as (λ c. is_delivery n e ≡ c → KnownStage a b q key 1 (next_progress script z e)) [
        | true ↦ λ d.
            let same = same-delivery n e may.quiet d in
            subst (λ (g : Event). KnownStage a b q key 1 (next_progress script z g)) (sym same) (inr (heard-now n z (subst (MayGo script (IsOpenAt script) z) same may) h))
        | false ↦ λ d. inl (n, telling-next n z e may d h)
      ]) refl

  -- its replica's tick sends it
  tells-now : (z : Progress) (now : ℕ) → MayGo script (IsOpenAt script) z (Tick a now) → IsOverAt a key z → KnownStage a b q key 1 (next_progress script z (Tick a now))
  tells-now z now may h =
      let good = may.here in
      let w = z.world in
      let role = here-a z good in
      let home = home_of w.plan (f, q) in
      let t = tick_step home now h.node in
      let event : happens w (Tick a now) ≡ node_stepped a t w = node-ticked-now w good.most a f q good.fine role now h.node (good.clocked a now may.may) h.up in
      let beat : Beat = record { inc = t.after.grants.inc; state = t.after.state; recovering = t.after.recovering; over = t.after.grants.over; tally = None } in
      let place = sent-place a w.envelopes (mail b (message.Beat beat)) t.sends (tick-tells home now h.node b (peer-is w.plan a b f q r role (here-b z good) other)) in
      let sent : slice_get (happens w (Tick a now)).envelopes place.0 ≡ Some (from a (mail b (message.Beat beat))) = ap (λ (v : World). slice_get v.envelopes place.0) event ∙ place.1 in
      let s = (own-ticked home now h.node).grants in
      inl (place.0, record { beat = beat; sent = sent; waits = new-waits script z (Tick a now) place.0 _ place.2 sent; over = key-grows key h.node.grants.inc _ h.node.grants.over _ h.over s.inc s.over })

  -- ---- two phases

  -- the beat comes in the next phase
  hears-in : (z : Progress) (es : List Event) → IsStep script (IsOpenAt script) z es → KnownStage a b q key 1 z → IsKnown b q key (progress_from script (opened script z) es)
  hears-in z es step (inr known) = kept-full script (IsOpenAt script) (IsKnown b q key) known-kept (opened script z) es step.phase (record { node = known.node; up = known.up; knows = known.knows })
  hears-in z es step (inl (n, h)) =
      let good = first-good script (IsOpenAt script) (opened script z) es step.phase.good in
      let due : is_due n (opened script z).waiting ≡ true = opened-due script z n step.at step.complete (comes-so (opened script z) n _ good h.sent) h.waits in
      let now : IsTelling a b key n (opened script z) = record { beat = h.beat; sent = h.sent; waits = due-waits n (opened script z).waiting due; over = h.over } in
      due-taken script (IsOpenAt script) n (IsTelling a b key n) (IsKnown b q key) (record {
        others = λ y e may apart p. inl (telling-next n y e may apart p);
        taken = λ y may p. heard-now n y may p;
        keeps = known-kept;
        can = λ y seen p. comes-so y n _ seen p.sent;
        at = λ y seen. seen.at;
      }) (opened script z) es step.phase now due

  a-up : (z : Progress) → IsOpenAt script z → is_up z.world a ≡ true
  a-up z good =
      let node = node-there z.world good.most a f q good.fine good.up (here-a z good) in
      ap (λ (z_role : Role). role_up z.world a z_role) (here-a z good) ∙ ap (λ (o : Option PlainNode). is_some o) node.1

  -- its replica ticks in the phase
  tells-in : (z : Progress) (es : List Event) → IsStep script (IsOpenAt script) z es → IsOverAt a key z → KnownStage a b q key 1 (progress_from script (opened script z) es)
  tells-in z es step h =
      tick-due script (IsOpenAt script) a (IsOverAt a key) (KnownStage a b q key 1) (record {
        others = λ y e may apart p. inl (over-kept y e may p);
        ticked = λ y now may p. tells-now y now may p;
        keeps = told-kept;
        up = a-up;
        there = λ y good. role-within y.world.plan a (IsNode f q) (here-a y good) (λ e. cc);
        at = λ y good. good.at;
      }) (opened script z) es step.phase (record { node = h.node; up = h.up; over = h.over }) refl

  pub known-lead : IsJourney script (IsOpenAt script) (KnownStage a b q key) 2
  known-lead = record { lead = leads; kept = known-kept; opens = λ z h. record { node = h.node; up = h.up; knows = h.knows } }
    where
      leads : (i : ℕ) (z : Progress) (es : List Event) → i < 2 → IsStep script (IsOpenAt script) z es → KnownStage a b q key (suc i) z → KnownStage a b q key i (progress_from script (opened script z) es)
      leads zero z es few step h = hears-in z es step h
      leads (suc zero) z es few step h = tells-in z es step h
      leads (suc (suc n)) z es few step h = absurd (omega (arith, few))
