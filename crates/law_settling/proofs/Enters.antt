-- From phase to phase until a replica enters: each trial ends with that, or with one more asking.
use Rattle.std.proofs.Common.{◌≡◌, ℕ, suc, ◌+◌, ◌*◌, ◌-◌, ◌<◌, ◌≤◌, Bool, false, List, sym, ap, ◌∙◌, arith, Option, Some, None, ◌⊎◌, inl, inr}
use Rattle.dpc_lists.specs.Lists.{nth}
use Rattle.dpc_model.specs.Actors.{role_of, replicas_of}
use Rattle.dpc_model.specs.declared.actors.Role.TheVariants.{Node as IsNode}
use Rattle.dpc_model.specs.declared.messages.Event.{Event}
use Rattle.dpc_model.specs.declared.scripts.Script.{Script}
use Rattle.node_model.specs.Nodes.{PlainNode}
use Rattle.world_model.specs.Worlds.{slot_of}
use Rattle.world_model.specs.Schedules.{Progress, progress_from}
use Rattle.law_safety.proofs.Numbering.{replica-at}
use Rattle.law_settling.specs.Phased.{opened}
use Rattle.law_settling.proofs.Rules.{kept-full, last-good}
use Rattle.law_settling.proofs.Journeys.{IsStep, IsJourney}
use Rattle.law_settling.proofs.Bounded.{IsFirst, first-of, count, count-low, count-grows}
use Rattle.law_settling.proofs.Fellows.{many_replicas, replica-of}
use Rattle.law_settling.proofs.Moving.{IsReplica, IsWorking, pick}
use Rattle.law_settling.proofs.Resting.{IsResting, HasEntered, entered-kept}
use Rattle.law_settling.proofs.Trying.{IsTrying, Broke, trying-opened, entered-opened}
use Rattle.law_settling.proofs.Trials.{IsAskSent, IsGrantSent, begins-in, asks-in, grants-in, enters-in}

-- who is asking now
abbrev pub asks_at : Script → ℕ → Progress → ℕ → Bool
asks_at script f z q = elim (slot_of z.world (nth 0 (replicas_of script.plan f) q)).node as (λ _. Bool) [ None ↦ false | Some n ↦ n.grants.running ]

pub asks-is : (script : Script) (f : ℕ) (z : Progress) (b q : ℕ) (n : PlainNode) → IsReplica script f z b q n → n.grants.running ≡ asks_at script f z q
asks-is script f z b q n at = sym (ap (λ (i : ℕ). elim (slot_of z.world i).node as (λ _. Bool) [ None ↦ false | Some n ↦ n.grants.running ]) (replica-at script.plan b f q at.role) ∙ ap (λ (o : Option PlainNode). elim o as (λ _. Bool) [ None ↦ false | Some n ↦ n.grants.running ]) at.up)

-- a trial under way, at most so many phases from the end
pub data Trial (script : Script) (f : ℕ) (Was : ℕ → Type 0) (i : ℕ) (z : Progress) : Type 0 where
  Begins : (E : ℕ → Bool) → IsTrying script f Was E z → 3 * (many_replicas script.plan f - count E (many_replicas script.plan f)) + 3 ≤ i → Trial script f Was i z
  Asks : (E : ℕ → Bool) → (l b : ℕ) → role_of script.plan b ≡ IsNode f l → IsFirst E (many_replicas script.plan f) l → IsAskSent script f Was E l b z → 3 * (many_replicas script.plan f - count E (many_replicas script.plan f)) + 2 ≤ i → Trial script f Was i z
  Grants : (E : ℕ → Bool) → (l b : ℕ) → role_of script.plan b ≡ IsNode f l → IsFirst E (many_replicas script.plan f) l → IsGrantSent script f Was E l b z → 3 * (many_replicas script.plan f - count E (many_replicas script.plan f)) + 1 ≤ i → Trial script f Was i z

abbrev pub EntersIn : Script → ℕ → (ℕ → Type 0) → ℕ → Progress → Type 0
EntersIn script f Was i z = HasEntered script f Was z ⊎ Trial script f Was i z

module _ (script : Script) (f : ℕ) (Was : ℕ → Type 0) (b0 q0 : ℕ) (role_0 : role_of script.plan b0 ≡ IsNode f q0) (was : Was b0) (low_0 : q0 < many_replicas script.plan f) where
  -- with one more asking, another trial begins
  by-broke : (i : ℕ) (E : ℕ → Bool) (y : Progress) → IsWorking script f y → 3 * (many_replicas script.plan f - count E (many_replicas script.plan f)) + 1 ≤ suc i → Broke script f Was E y → EntersIn script f Was i y
  by-broke i E y good far (inl out) = inl out
  by-broke i E y good far (inr h) =
      let F = asks_at script f y in
      let high = count-low F (many_replicas script.plan f) in
      let more = count-grows E F (many_replicas script.plan f) h.number (λ j low on. let r = pick script f y j good low in sym (asks-is script f y r.0 j r.1 r.2) ∙ h.asking r.0 j r.1 r.2 on) h.low h.new (sym (asks-is script f y h.runs.actor h.number h.runs.node h.runs.replica) ∙ h.runs.runs) in
      inr (Begins F (record { resting = h.resting; asking = λ b q n at. asks-is script f y b q n at }) (fewer (many_replicas script.plan f) (count E (many_replicas script.plan f)) (count F (many_replicas script.plan f)) more high far))
    where
      fewer : (m c d : ℕ) → c < d → d ≤ m → 3 * (m - c) + 1 ≤ suc i → 3 * (m - d) + 3 ≤ i
      fewer m c d more high far = omega (arith, more, high, far)

  lead : (i : ℕ) (z : Progress) (es : List Event) → IsStep script (IsWorking script f) z es → EntersIn script f Was (suc i) z → EntersIn script f Was i (progress_from script (opened script z) es)
  lead i z es step (inl out) = inl (kept-full script (IsWorking script f) (HasEntered script f Was) (entered-kept script f Was) (opened script z) es step.phase (entered-opened script f Was z out))
  lead i z es step (inr (Begins E trying far)) =
      let trying_now = trying-opened script f Was E z trying in
      elim (first-of E (many_replicas script.plan f)) [
        | inr none ↦ by-broke i E (progress_from script (opened script z) es) (last-good script (IsWorking script f) (opened script z) es step.phase.good) (omega (arith, far)) (begins-in script f Was E b0 q0 role_0 was low_0 none z es step trying_now)
        | inl l ↦
            let b = replica-of script.plan f l.0 l.1.low in
            elim (asks-in script f Was E l.0 b.0 b.1 l.1 z es step trying_now) [
              | inl asked ↦ inr (Asks E l.0 b.0 b.1 l.1 asked (omega (arith, far)))
              | inr (inl granted) ↦ inr (Grants E l.0 b.0 b.1 l.1 granted (omega (arith, far)))
              | inr (inr out) ↦ by-broke i E (progress_from script (opened script z) es) (last-good script (IsWorking script f) (opened script z) es step.phase.good) (omega (arith, far)) out
            ]
      ]
  lead i z es step (inr (Asks E l b role first asked far)) =
      elim (grants-in script f Was E l b role first z es step asked) [
        | inl granted ↦ inr (Grants E l b role first granted (omega (arith, far)))
        | inr out ↦ by-broke i E (progress_from script (opened script z) es) (last-good script (IsWorking script f) (opened script z) es step.phase.good) (omega (arith, far)) out
      ]
  lead i z es step (inr (Grants E l b role first granted far)) = by-broke i E (progress_from script (opened script z) es) (last-good script (IsWorking script f) (opened script z) es step.phase.good) far (enters-in script f Was E l b role first z es step granted)

  -- the last sort of states is that one entered
  pub at-end : (z : Progress) → EntersIn script f Was 0 z → HasEntered script f Was z
  at-end z (inl out) = out
  at-end z (inr (Begins E trying far)) = absurd (omega (arith, far))
  at-end z (inr (Asks E l b role first asked far)) = absurd (omega (arith, far))
  at-end z (inr (Grants E l b role first granted far)) = absurd (omega (arith, far))

  pub enters-journey : (top : ℕ) → IsJourney script (IsWorking script f) (EntersIn script f Was) top
  enters-journey top =
      record {
        lead = λ i z es few step h. lead i z es step h;
        kept = λ z e may h. inl (entered-kept script f Was z e may (at-end z h));
        opens = λ z h. inl (entered-opened script f Was z (at-end z h));
      }

  -- where it begins
  pub enters-first : (z : Progress) → IsResting script f Was z → EntersIn script f Was (3 * many_replicas script.plan f + 3) z
  enters-first z rest =
      let F = asks_at script f z in
      inr (Begins F (record { resting = rest; asking = λ b q n at. asks-is script f z b q n at }) (far (many_replicas script.plan f) (count F (many_replicas script.plan f))))
    where
      far : (m c : ℕ) → 3 * (m - c) + 3 ≤ 3 * m + 3
      far m c = omega arith
