-- A journey along a live run: it begins with the first phase behind a number of phases, and has ended when so many more are over.
use Rattle.std.proofs.Common.{◌≡◌, ℕ, ◌+◌, ◌<◌, ◌≤◌, true, List, [], ◌∷◌, ◌++◌, length, refl, sym, ap, subst, ◌∙◌, arith, ◌⊎◌, inl, inr}
use Rattle.std.proofs.lemmas.List.{append_assoc}
use Rattle.dpc_model.specs.declared.messages.Event.{Event}
use Rattle.dpc_model.specs.declared.scripts.Script.{Script}
use Rattle.dpc_model.proofs.Numbers.{le-or}
use Rattle.world_model.specs.Schedules.{Progress, next_progress, progress, may_follow, is_live_so_far}
use Rattle.world_model.specs.Steady.{OpensWell}
use Rattle.law_settling.specs.Phased.{opened}
use Rattle.law_settling.proofs.Splitting.{IsQuietAt, stays}
use Rattle.law_settling.proofs.Along.{every-prefix, progress-push, live-may, stands}
use Rattle.law_settling.proofs.Journeys.{IsJourney, IsUnder, under-phase, under-next, under-first, end-under}

module _ (script : Script) (events : List Event) (live : is_live_so_far script events ≡ true) (well : OpensWell script events) (Good : Progress → Type 0) (Stage : ℕ → Progress → Type 0) (top base : ℕ) (journey : IsJourney script Good Stage top)
    (past : length script.phases < base) (good : (done rest : List Event) → events ≡ done ++ rest → base < (progress script done).phase → Good (progress script done)) (start : (z : Progress) → Good (opened script z) → Stage top z) where
  abbrev Under : Progress → Type 0
  Under z = IsUnder script Good Stage top base (base + top) z

  abbrev Inv : List Event → Type 0
  Inv done = ((progress script done).phase ≤ base) ⊎ Under (progress script done)

  first-phase : (progress script []).phase ≡ 0
  unfolding progress
  first-phase = refl

  phase-grows : (z : Progress) (e : Event) → may_follow script z e ≡ true → z.phase ≤ (next_progress script z e).phase
  phase-grows z e may = elim (stays script z e may) [
    | inl same ↦ omega (arith, same)
    | inr o ↦ let next : (next_progress script z e).phase ≡ z.phase + 1 = ap (λ (d : Event). (next_progress script z d).phase) o.0 in omega (arith, next)
  ]

  inv-next : (done rest : List Event) (e : Event) → events ≡ done ++ e ∷ rest → Inv done → Inv (done ++ e ∷ [])
  inv-next done rest e is h =
      let z = progress script done in
      let push = progress-push script done e in
      let follows = live-may script events done rest e live is in
      let later : events ≡ (done ++ e ∷ []) ++ rest = is ∙ sym (append_assoc done (e ∷ []) rest) in
      let seen : base < (next_progress script z e).phase → Good (next_progress script z e) =
      (λ (far : base < (next_progress script z e).phase). subst Good push (good (done ++ e ∷ []) rest later (subst (λ (y : Progress). base < y.phase) (sym push) far))) in
      let goal : ((next_progress script z e).phase ≤ base) ⊎ Under (next_progress script z e) =
      elim h [
        | inr u ↦
            let phase = under-phase script Good Stage top base (base + top) z u in
            let far = u.past in
            let grows = phase-grows z e follows in
            inr (under-next script Good Stage top base (base + top) z e journey u follows (seen (omega (arith, far, phase, grows))))
        | inl low ↦ elim (stays script z e follows) [
          | inl same ↦ inl (omega (arith, same, low))
          | inr o ↦
              let next : (next_progress script z e).phase ≡ z.phase + 1 = ap (λ (d : Event). (next_progress script z d).phase) o.0 in
              elim (le-or (z.phase + 1) base) [
                | inl still ↦ inl (omega (arith, next, still))
                | inr far ↦
                    let exact : z.phase ≡ base = omega (arith, low, far) in
                    let first = seen (omega (arith, next, far)) in
                    let there : Good (opened script z) = subst (λ (d : Event). Good (next_progress script z d)) o.0 first in
                    inr (under-first script Good Stage top base (base + top) z e o (quiet-here done (e ∷ rest) is exact) (omega (arith, exact)) (omega (arith, exact)) (start z there) first)
              ]
        ]
      ] in
      subst (λ (y : Progress). (y.phase ≤ base) ⊎ Under y) (sym push) goal
    where
      quiet-here : (done rest : List Event) → events ≡ done ++ rest → (progress script done).phase ≡ base → IsQuietAt script (progress script done)
      quiet-here done rest is exact = elim (stands script events live well done rest is) [ inl low ↦ absurd (omega (arith, low, exact, past)) | inr standing ↦ standing.at ]

  -- from so many phases on it has ended
  pub arrives : (done rest : List Event) → events ≡ done ++ rest → base + top + 1 ≤ (progress script done).phase → Stage 0 (progress script done)
  arrives done rest is far =
      let first : Inv [] = let none = first-phase in inl (omega (arith, none)) in
      elim (every-prefix events Inv first (λ before behind e at h. inv-next before behind e at h) done rest is) [
        | inl low ↦ absurd (omega (arith, low, far))
        | inr u ↦
            let phase = under-phase script Good Stage top base (base + top) (progress script done) u in
            let count = u.count in
            end-under script Good Stage top base (base + top) (progress script done) journey u (omega (arith, count, phase, far))
      ]
