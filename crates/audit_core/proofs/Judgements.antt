-- Rows as they are judged, one behind another.
use Rattle.std.proofs.Common.{◌≡◌, ℕ, zero, suc, ◌+◌, ◌<◌, ◌≤◌, List, [], ◌∷◌, ◌++◌, length, take, drop, Option, Some, None, refl, sym, ap, subst, ◌∙◌, arith, append_assoc, length-append}
use Rattle.std.specs.List.{slice_get}
use Rattle.std.proofs.lemmas.Option.{slice_get_past}
use Rattle.dpc_model.specs.Reading.{Reader}
use Rattle.dpc_model.specs.declared.tuples.Tuple.{Tuple}
use Rattle.audit_core.specs.Audits.{Holds, first_difference, verdict_of, verdict_on}
use Rattle.audit_core.specs.Judging.{Differs, IsFound, AreFound}
use Rattle.audit_core.specs.declared.judging.Found.{Found}
use Rattle.audit_core.specs.declared.judging.Found.TheVariants as found
use Rattle.audit_core.specs.declared.reading.Recorded.{Recorded}
use Rattle.audit_core.proofs.Differences.{behind-first, take-next, behind-rows, other-row, longer-row, no-row, no-row-more}

module _ (v : Recorded) where
  abbrev stable : List Tuple
  stable = v.stable.items

  -- one more row is the recorded one
  pub same-more : (n : ℕ) (f : Found) (rows : List Tuple) (row : Tuple) → f ≡ found.Same → IsFound v n row found.Same → AreFound v n f rows → AreFound v (n + 1) f (rows ++ row ∷ [])
  same-more n f rows row same here h =
      let all = subst (λ (g : Found). AreFound v n g rows) same h in
      let next : n + 1 ≡ suc n = omega arith in
      let long : n + 1 ≡ length (rows ++ row ∷ []) = let l = length-append rows (row ∷ []) in let m = all.0 in omega (arith, l, m) in
      let first : rows ++ row ∷ [] ≡ take (n + 1) stable =
      ap (λ us. us ++ row ∷ []) all.1 ∙ sym (take-next n stable row here) ∙ ap (λ k. take k stable) (sym next) in
      subst (λ (g : Found). AreFound v (n + 1) g (rows ++ row ∷ [])) (sym same) (long, first)

  -- the next one ends it
  pub ends : (n : ℕ) (f g : Found) (rows : List Tuple) (row : Tuple) → f ≡ found.Same → (g ≡ found.Same → ⊥) → IsFound v n row g → AreFound v n f rows → AreFound v n g (rows ++ row ∷ [])
  ends n f g rows row same other here h = by_found g other here (subst (λ (x : Found). AreFound v n x rows) same h)
    where
      onward : AreFound v n found.Same rows → (more : List Tuple) → first_difference v.bound 0 stable ((rows ++ row ∷ []) ++ more) ≡ first_difference v.bound n (drop n stable) (row ∷ more)
      onward all more =
          ap (λ us. first_difference v.bound 0 stable us) (append_assoc rows (row ∷ []) more)
          ∙ behind-rows v.bound n stable rows (row ∷ more) all.0 all.1

      by_found : (x : Found) → (x ≡ found.Same → ⊥) → IsFound v n row x → AreFound v n found.Same rows → AreFound v n x (rows ++ row ∷ [])
      by_found found.Same other here all = absurd (other refl)
      by_found found.Longer other here all = λ more. onward all more ∙ longer-row v.bound n (drop n stable) row more (behind-first n stable ∙ here.0) here.1
      by_found (found.Other t) other here all = λ more.
          onward all more
          ∙ other-row v.bound n (drop n stable) row more (subst (λ (o : Option Tuple). Differs v.bound o row) (sym (behind-first n stable)) here.1)
          ∙ ap (λ o. Some (n, o, Some row)) (behind-first n stable)
          ∙ ap (λ u. Some (n, slice_get stable n, Some u)) (sym here.0)
      by_found found.NoMemory other here all = tt

  -- none was given yet
  pub none-given : AreFound v 0 found.Same []
  none-given = (refl, refl)

  -- some rows are all of them
  whole : (n : ℕ) (f : Found) (rows rest : List Tuple) → f ≡ found.Same → AreFound v n f rows → rest ≡ [] → first_difference v.bound 0 stable (rows ++ rest) ≡ first_difference v.bound n (drop n stable) []
  whole n f rows rest same h none =
      let all = subst (λ (g : Found). AreFound v n g rows) same h in
      behind-rows v.bound n stable rows rest all.0 all.1 ∙ ap (λ us. first_difference v.bound n (drop n stable) us) none

  -- and the recorded ones end there too
  pub both-end : (n : ℕ) (f : Found) (rows rest : List Tuple) → f ≡ found.Same → AreFound v n f rows → rest ≡ [] → length stable ≤ n → first_difference v.bound 0 stable (rows ++ rest) ≡ None
  both-end n f rows rest same h none past = whole n f rows rest same h none ∙ no-row v.bound n (drop n stable) (behind-first n stable ∙ slice_get_past stable n past)

  -- or there are more of them
  pub recorded-more : (n : ℕ) (f : Found) (rows rest : List Tuple) → f ≡ found.Same → AreFound v n f rows → rest ≡ [] → n < length stable → first_difference v.bound 0 stable (rows ++ rest) ≡ Some (n, slice_get stable n, None)
  recorded-more n f rows rest same h none within =
      let there = behind-first n stable ∙ within-some n stable within in
      whole n f rows rest same h none
      ∙ no-row-more v.bound n (drop n stable) (nth-there n stable within) there
      ∙ ap (λ o. Some (n, o, None)) (behind-first n stable)
    where
      nth-there : (k : ℕ) (ss : List Tuple) → k < length ss → Tuple
      nth-there k [] low = absurd (omega (arith, low))
      nth-there zero (s ∷ ss) low = s
      nth-there (suc k) (s ∷ ss) low = nth-there k ss (omega (arith, low))

      within-some : (k : ℕ) (ss : List Tuple) (low : k < length ss) → slice_get ss k ≡ Some (nth-there k ss low)
      within-some k [] low = absurd (omega (arith, low))
      within-some zero (s ∷ ss) low = refl
      within-some (suc k) (s ∷ ss) low = within-some k ss (omega (arith, low))

  -- the verdict by the first difference, for a reader that the code stands for
  pub verdict-by : (r : Reader) (end : ℕ) (ts : List Tuple) (d : Option (ℕ × Option Tuple × Option Tuple)) → Holds v r → first_difference v.bound 0 stable ts ≡ d → verdict_on end ts r ≡ verdict_of end r d
  verdict-by r end ts d h e =
      ap (λ b. verdict_of end r (first_difference b 0 r.stable ts)) (sym h.bound)
      ∙ ap (λ us. verdict_of end r (first_difference v.bound 0 us ts)) (sym h.stable)
      ∙ ap (verdict_of end r) e
