-- Phase by phase: however a port stands that reads a source, it has the whole of it after eight full phases.
use Rattle.std.proofs.Common.{◌≡◌, ◌≢◌, ℕ, zero, suc, ◌<◌, ◌≤◌, true, false, ◌&&◌, ◌||◌, ◌==◌, List, [], ◌∷◌, length, refl, sym, ap, subst, ◌∙◌, arith, Option, Some, None, slice_get, unwrap_or, ◌⊎◌, inl, inr}
use Rattle.std.specs.Prelude.{is_some}
use Rattle.std.proofs.lemmas.Option.{slice_get_within}
use Rattle.dpc_model.specs.Actors.{role_of, roles_of}
use Rattle.dpc_model.specs.Ports.{Port}
use Rattle.dpc_model.specs.declared.actors.Role.{Role}
use Rattle.dpc_model.specs.declared.actors.Role.TheVariants.{Source as IsSource, Node as IsNode, Client as IsClient, Nobody}
use Rattle.dpc_model.specs.declared.messages.Event.{Event}
use Rattle.dpc_model.specs.declared.messages.Event.TheVariants.{Deliver, Tick}
use Rattle.dpc_model.specs.declared.messages.Sess.{Sess}
use Rattle.dpc_model.specs.declared.plans.Plan.{Plan}
use Rattle.dpc_model.specs.declared.scripts.Script.{Script}
use Rattle.node_model.specs.Nodes.{PlainNode}
use Rattle.world_model.specs.Worlds.{World, Envelope, slot_of, role_up, is_up}
use Rattle.world_model.specs.Schedules.{Undelivered, Progress, next_progress, progress_from}
use Rattle.law_granting.specs.Taken.{node_port, role_port, port_of}
use Rattle.law_settling.specs.Phased.{opened}
use Rattle.world_model.specs.Events.{is_delivery}
use Rattle.law_settling.proofs.Waitings.{waits, is_due}
use Rattle.law_settling.proofs.Rules.{MayGo, Keeps, kept-full, due-taken, opened-due, same-delivery, tick-due, first-good}
use Rattle.law_settling.proofs.Journeys.{IsStep, IsJourney}
use Rattle.law_settling.proofs.Fresh.{IsSeen, HasWhole, ticks-few, IsAsking, IsReplying, Replied, Coming, whole-kept}
use Rattle.law_settling.proofs.Reopening.{asking-next, replying-next, replied, asked-now, comes-here, replied-kept, coming-kept}
use Rattle.law_settling.proofs.Faults.{IsBroken, IsAnswered, IsSlow, IsHearing, Hearing, broken-next, broken-ticks, answered-next, slow-next, slow-ticks, heard-now, hearing-next, source-beats}

-- how far the port is from the whole, in phases
abbrev pub Stage : Script → ℕ → ℕ → ℕ → ℕ → ℕ → Progress → Type 0
Stage script x p s k zero z = HasWhole script x p z
Stage script x p s k (suc zero) z = Replied script x p s 1 z
Stage script x p s k (suc (suc zero)) z = Coming script x p s k z
Stage script x p s k (suc (suc (suc zero))) z = IsBroken x p z ⊎ Coming script x p s k z
Stage script x p s k (suc (suc (suc (suc zero)))) z = Hearing x p s k z ⊎ (IsBroken x p z ⊎ Coming script x p s k z)
Stage script x p s k (suc (suc (suc (suc (suc zero))))) z = IsAnswered x p z ⊎ (Hearing x p s k z ⊎ (IsBroken x p z ⊎ Coming script x p s k z))
Stage script x p s k (suc (suc (suc (suc (suc (suc zero)))))) z = IsSlow x p 2 z ⊎ (IsAnswered x p z ⊎ (Hearing x p s k z ⊎ (IsBroken x p z ⊎ Coming script x p s k z)))
Stage script x p s k (suc (suc (suc (suc (suc (suc (suc zero))))))) z = IsSlow x p 1 z ⊎ (IsSlow x p 2 z ⊎ (IsAnswered x p z ⊎ (Hearing x p s k z ⊎ (IsBroken x p z ⊎ Coming script x p s k z))))
Stage script x p s k (suc (suc (suc (suc (suc (suc (suc (suc n)))))))) z = (q : Port) × (port_of z.world x p ≡ Some q)

-- what is due waits
pub due-waits : (n : ℕ) (xs : List Undelivered) → is_due n xs ≡ true → waits n xs ≡ true
due-waits n [] h = cc
due-waits n (y ∷ ys) h = elim (y.number == n) as (λ b. ((b && y.pending) || is_due n ys) ≡ true → (b || waits n ys) ≡ true) [
  | true ↦ λ e. refl
  | false ↦ λ e. due-waits n ys e
] h

-- an actor that has a port is up, and is one of the plan's
pub port-up : (w : World) (x p : ℕ) (q : Port) → port_of w x p ≡ Some q → is_up w x ≡ true
port-up w x p q there = by-role (role_of w.plan x) there
  where
    by-role : (role : Role) → role_port w x p role ≡ Some q → role_up w x role ≡ true
    by-role (IsSource s) e = refl
    by-role (IsClient c) e = refl
    by-role Nobody e = cc
    by-role (IsNode f r) e = by-node (slot_of w x).node e
      where
        by-node : (o : Option PlainNode) → node_port p o ≡ Some q → is_some o ≡ true
        by-node None d = cc
        by-node (Some n) d = refl

pub role-within : (plan : Plan) (x : ℕ) (role : Role) → role_of plan x ≡ role → role ≢ Nobody → x < length (roles_of plan)
role-within plan x role is some = by-place (slice_get (roles_of plan) x) refl
  where
    by-place : (o : Option Role) → slice_get (roles_of plan) x ≡ o → x < length (roles_of plan)
    by-place (Some r) e = slice_get_within (roles_of plan) x r e
    by-place None e = absurd (some (sym is ∙ ap (λ (o : Option Role). unwrap_or o Nobody) e))

pub port-within : (w : World) (x p : ℕ) (q : Port) → port_of w x p ≡ Some q → x < length (roles_of w.plan)
port-within w x p q there = role-within w.plan x (role_of w.plan x) refl (λ none. nobody (role_of w.plan x) none there)
  where
    nobody : (role : Role) → role ≡ Nobody → role_port w x p role ≡ Some q → ⊥
    nobody role is e = let clash : ◌≡◌ {A = Option Port} None (Some q) = sym (ap (λ (r : Role). role_port w x p r) is) ∙ e in cc

-- so it leads from one sort of states to another
abbrev pub Leads : Script → ℕ → ℕ → ℕ → ℕ → (Progress → Type 0) → (Progress → Type 0) → Type 0
Leads script x p s k P Q = (z : Progress) (es : List Event) → IsStep script (IsSeen script x p s k) z es → P z → Q (progress_from script (opened script z) es)

module _ (script : Script) (x p s k : ℕ) where
  -- ---- what an event keeps

  keeps-3 : Keeps script (IsSeen script x p s k) (Stage script x p s k 3)
  keeps-3 z e may (inl broken) = broken-next script x p s k z e may broken
  keeps-3 z e may (inr coming) = inr (coming-kept script x p s k z e may coming)

  heard : (n : ℕ) (tally : Option (Sess × ℕ)) (z : Progress) → MayGo script (IsSeen script x p s k) z (Deliver n) → IsHearing x p s k n tally z → Stage script x p s k 3 (next_progress script z (Deliver n))
  heard n tally z may h = elim (heard-now script x p s k n tally z may h) [ inl broken ↦ inl broken | inr whole ↦ inr (inr (inr whole)) ]

  keeps-4 : Keeps script (IsSeen script x p s k) (Stage script x p s k 4)
  keeps-4 z e may (inr rest) = inr (keeps-3 z e may rest)
  keeps-4 z e may (inl (n, tally, h)) =
      (elim (is_delivery n e) as (λ b. is_delivery n e ≡ b → Stage script x p s k 4 (next_progress script z e)) [
        | true ↦ λ d.
            let same = same-delivery n e may.quiet d in
            subst (λ (g : Event). Stage script x p s k 4 (next_progress script z g)) (sym same) (inr (heard n tally z (subst (MayGo script (IsSeen script x p s k) z) same may) h))
        | false ↦ λ d. elim (hearing-next script x p s k n tally z e may d h) [ inl on ↦ inl (n, tally, on) | inr coming ↦ inr (inr coming) ]
      ]) refl

  keeps-5 : Keeps script (IsSeen script x p s k) (Stage script x p s k 5)
  keeps-5 z e may (inl answered) = elim (answered-next script x p s k z e may answered) [ inl on ↦ inl on | inr coming ↦ inr (inr (inr coming)) ]
  keeps-5 z e may (inr rest) = inr (keeps-4 z e may rest)

  slow-on : (i : ℕ) → i ≤ 2 → (z : Progress) (e : Event) → MayGo script (IsSeen script x p s k) z e → IsSlow x p i z → IsSlow x p i (next_progress script z e) ⊎ Stage script x p s k 5 (next_progress script z e)
  slow-on i few z e may slow = elim (slow-next script x p s k i (omega (arith, few)) z e may slow) [ inl on ↦ inl on | inr (inl answered) ↦ inr (inl answered) | inr (inr coming) ↦ inr (inr (inr (inr coming))) ]

  keeps-6 : Keeps script (IsSeen script x p s k) (Stage script x p s k 6)
  keeps-6 z e may (inl slow) = slow-on 2 (omega arith) z e may slow
  keeps-6 z e may (inr rest) = inr (keeps-5 z e may rest)

  keeps-7 : Keeps script (IsSeen script x p s k) (Stage script x p s k 7)
  keeps-7 z e may (inl slow) = elim (slow-on 1 (omega arith) z e may slow) [ inl on ↦ inl on | inr rest ↦ inr (inr rest) ]
  keeps-7 z e may (inr rest) = inr (keeps-6 z e may rest)

  -- ---- who ticks

  up-there : (z : Progress) → IsSeen script x p s k z → is_up z.world x ≡ true
  up-there z seen = port-up z.world x p seen.port seen.there

  within-there : (z : Progress) → IsSeen script x p s k z → x < length (roles_of z.world.plan)
  within-there z seen = port-within z.world x p seen.port seen.there

  source-up : (z : Progress) → IsSeen script x p s k z → is_up z.world s ≡ true
  source-up z seen = ap (λ (r : Role). role_up z.world s r) seen.stand.line.source

  source-within : (z : Progress) → IsSeen script x p s k z → s < length (roles_of z.world.plan)
  source-within z seen = role-within z.world.plan s (IsSource s) seen.stand.line.source (λ e. cc)

  -- ---- one phase

  -- at its tick
  ticks-in : (P Q : Progress → Type 0) → ((z : Progress) (e : Event) → MayGo script (IsSeen script x p s k) z e → P z → P (next_progress script z e) ⊎ Q (next_progress script z e)) →
      ((z : Progress) (now : ℕ) → MayGo script (IsSeen script x p s k) z (Tick x now) → P z → Q (next_progress script z (Tick x now))) → Keeps script (IsSeen script x p s k) Q → ((z : Progress) → P z → P (opened script z)) → Leads script x p s k P Q
  ticks-in P Q others ticked keeps opens z es step h =
      tick-due script (IsSeen script x p s k) x P Q (record {
        others = λ y e may other q. others y e may q;
        ticked = ticked;
        keeps = keeps;
        up = λ y seen. up-there y seen;
        there = λ y seen. within-there y seen;
        at = λ y seen. seen.at;
      }) (opened script z) es step.phase (opens z h) refl

  -- what waits at the end of a phase is due in the next
  due-in : (z : Progress) (es : List Event) (n : ℕ) (f : Envelope) → IsStep script (IsSeen script x p s k) z es → slice_get z.world.envelopes n ≡ Some f → waits n z.waiting ≡ true → is_due n (opened script z).waiting ≡ true
  due-in z es n f step there waiting =
      let seen = first-good script (IsSeen script x p s k) (opened script z) es step.phase.good in
      opened-due script z n step.at step.complete (comes-here script x p s k (opened script z) n f seen there) waiting

  -- the answer comes in the next phase
  lead-0 : Leads script x p s k (Stage script x p s k 1) (Stage script x p s k 0)
  lead-0 z es step (inr whole) = kept-full script (IsSeen script x p s k) (HasWhole script x p) (whole-kept script x p s k) (opened script z) es step.phase (record { port = whole.port; there = whole.there; bound = whole.bound; sure = whole.sure })
  lead-0 z es step (inl (u, h, n, r)) =
      let due = due-in z es n _ step r.sent r.waits in
      let budget = r.fresh.budget in
      let few = ticks-few x z in
      let now : IsReplying script x p s 2 u h n (opened script z) = record {
        fresh = record { port = r.fresh.port; there = r.fresh.there; inlet = r.fresh.inlet; budget = omega (arith, budget, few); batches = r.fresh.batches };
        items = r.items;
        sent = r.sent;
        waits = due-waits n (opened script z).waiting due;
      } in
      due-taken script (IsSeen script x p s k) n (IsReplying script x p s 2 u h n) (HasWhole script x p) (record {
        others = λ y e may other q. replying-next script x p s k 2 u h n y e (omega arith) may other q;
        taken = λ y may q. replied script x p s k 2 u h n y may q;
        keeps = whole-kept script x p s k;
        can = λ y seen q. comes-here script x p s k y n _ seen q.sent;
        at = λ y seen. seen.at;
      }) (opened script z) es step.phase now due

  -- the subscription comes in the next phase, and is answered
  lead-1 : Leads script x p s k (Stage script x p s k 2) (Stage script x p s k 1)
  lead-1 z es step (inr replied_so) = inr (lead-0 z es step replied_so)
  lead-1 z es step (inl (u, h, n, a)) =
      let due = due-in z es n _ step a.sent a.waits in
      let budget = a.fresh.budget in
      let few = ticks-few x z in
      let now : IsAsking script x p s k 1 u h n (opened script z) = record {
        fresh = record { port = a.fresh.port; there = a.fresh.there; inlet = a.fresh.inlet; budget = omega (arith, budget, few); batches = a.fresh.batches };
        sent = a.sent;
        waits = due-waits n (opened script z).waiting due;
        newer = a.newer;
      } in
      due-taken script (IsSeen script x p s k) n (IsAsking script x p s k 1 u h n) (Replied script x p s 1) (record {
        others = λ y e may other q. asking-next script x p s k 1 u h n y e (omega arith) may other q;
        taken = λ y may q. asked-now script x p s k 1 u h n y (omega arith) may q;
        keeps = replied-kept script x p s k 1 (omega arith);
        can = λ y seen q. comes-here script x p s k y n _ seen q.sent;
        at = λ y seen. seen.at;
      }) (opened script z) es step.phase now due

  -- a broken port asks anew at its tick
  lead-2 : Leads script x p s k (Stage script x p s k 3) (Stage script x p s k 2)
  lead-2 z es step (inr coming) = inr (lead-1 z es step coming)
  lead-2 z es step (inl broken) =
      ticks-in (IsBroken x p) (Coming script x p s k) (broken-next script x p s k) (broken-ticks script x p s k) (coming-kept script x p s k) (λ y b. record { port = b.port; there = b.there; broken = b.broken }) z es step broken

  -- a beat comes in the next phase, and shows the fault
  lead-3 : Leads script x p s k (Stage script x p s k 4) (Stage script x p s k 3)
  lead-3 z es step (inr rest) = inr (lead-2 z es step rest)
  lead-3 z es step (inl (n, tally, h)) =
      let due = due-in z es n _ step h.sent h.waits in
      let now : IsHearing x p s k n tally (opened script z) = record {
        answered = record { port = h.answered.port; there = h.answered.there; answered = h.answered.answered };
        sent = h.sent;
        waits = due-waits n (opened script z).waiting due;
        told = h.told;
      } in
      due-taken script (IsSeen script x p s k) n (IsHearing x p s k n tally) (Stage script x p s k 3) (record {
        others = λ y e may other q. elim (hearing-next script x p s k n tally y e may other q) [ inl on ↦ inl on | inr coming ↦ inr (inr coming) ];
        taken = λ y may q. heard n tally y may q;
        keeps = keeps-3;
        can = λ y seen q. comes-here script x p s k y n _ seen q.sent;
        at = λ y seen. seen.at;
      }) (opened script z) es step.phase now due

  -- the source sends a beat at its tick
  lead-4 : Leads script x p s k (Stage script x p s k 5) (Stage script x p s k 4)
  lead-4 z es step (inr rest) = inr (lead-3 z es step rest)
  lead-4 z es step (inl answered) =
      tick-due script (IsSeen script x p s k) s (IsAnswered x p) (Stage script x p s k 4) (record {
        others = λ y e may other q. elim (answered-next script x p s k y e may q) [ inl on ↦ inl on | inr coming ↦ inr (inr (inr coming)) ];
        ticked = λ y now may q. elim (source-beats script x p s k y now may q) [ inl hearing ↦ inl hearing | inr coming ↦ inr (inr coming) ];
        keeps = keeps-4;
        up = λ y seen. source-up y seen;
        there = λ y seen. source-within y seen;
        at = λ y seen. seen.at;
      }) (opened script z) es step.phase (record { port = answered.port; there = answered.there; answered = answered.answered }) refl

  slow-opened : (i : ℕ) (z : Progress) → IsSlow x p i z → IsSlow x p i (opened script z)
  slow-opened i z h = record { port = h.port; there = h.there; answered = h.answered; ticks = h.ticks }

  -- where it is not answered, its third tick opens the session anew
  lead-5 : Leads script x p s k (Stage script x p s k 6) (Stage script x p s k 5)
  lead-5 z es step (inr rest) = inr (lead-4 z es step rest)
  lead-5 z es step (inl slow) =
      ticks-in (IsSlow x p 2) (Stage script x p s k 5) (slow-on 2 (omega arith))
      (λ y now may q. elim (slow-ticks script x p s k 2 y now may q) [ inl low ↦ let few = low.0 in absurd (omega (arith, few)) | inr coming ↦ inr (inr (inr coming)) ]) keeps-5 (slow-opened 2) z es step slow

  lead-6 : Leads script x p s k (Stage script x p s k 7) (Stage script x p s k 6)
  lead-6 z es step (inr rest) = inr (lead-5 z es step rest)
  lead-6 z es step (inl slow) =
      ticks-in (IsSlow x p 1) (Stage script x p s k 6) (λ y e may q. elim (slow-on 1 (omega arith) y e may q) [ inl on ↦ inl on | inr rest ↦ inr (inr rest) ])
      (λ y now may q. elim (slow-ticks script x p s k 1 y now may q) [ inl more ↦ inl more.1 | inr coming ↦ inr (inr (inr (inr coming))) ]) keeps-6 (slow-opened 1) z es step slow

  lead-7 : Leads script x p s k (Stage script x p s k 8) (Stage script x p s k 7)
  lead-7 z es step (q, there) =
      (elim q.inlet.answered as (λ b. q.inlet.answered ≡ b → Stage script x p s k 7 (progress_from script (opened script z) es)) [
        | true ↦ λ a. inr (inr (inr (lead-4 z es step (inl (record { port = q; there = there; answered = a })))))
        | false ↦ λ a.
            ticks-in (IsSlow x p 0) (Stage script x p s k 7) (λ y e may r. elim (slow-on 0 (omega arith) y e may r) [ inl on ↦ inl on | inr rest ↦ inr (inr (inr rest)) ])
            (λ y now may r. elim (slow-ticks script x p s k 0 y now may r) [ inl more ↦ inl more.1 | inr coming ↦ inr (inr (inr (inr (inr coming)))) ]) keeps-7 (slow-opened 0) z es step (record { port = q; there = there; answered = a; ticks = omega arith })
      ]) refl

  -- eight phases lead to the whole
  pub stages-lead : IsJourney script (IsSeen script x p s k) (Stage script x p s k) 8
  stages-lead = record { lead = leads; kept = whole-kept script x p s k; opens = λ z h. record { port = h.port; there = h.there; bound = h.bound; sure = h.sure } }
    where
      leads : (i : ℕ) (z : Progress) (es : List Event) → i < 8 → IsStep script (IsSeen script x p s k) z es → Stage script x p s k (suc i) z → Stage script x p s k i (progress_from script (opened script z) es)
      leads zero z es few step h = lead-0 z es step h
      leads (suc zero) z es few step h = lead-1 z es step h
      leads (suc (suc zero)) z es few step h = lead-2 z es step h
      leads (suc (suc (suc zero))) z es few step h = lead-3 z es step h
      leads (suc (suc (suc (suc zero)))) z es few step h = lead-4 z es step h
      leads (suc (suc (suc (suc (suc zero))))) z es few step h = lead-5 z es step h
      leads (suc (suc (suc (suc (suc (suc zero)))))) z es few step h = lead-6 z es step h
      leads (suc (suc (suc (suc (suc (suc (suc zero))))))) z es few step h = lead-7 z es step h
      leads (suc (suc (suc (suc (suc (suc (suc (suc n)))))))) z es few step h = absurd (omega (arith, few))
