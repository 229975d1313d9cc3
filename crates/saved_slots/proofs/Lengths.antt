-- Payloads that are too long, behind such as are not.
use Rattle.std.proofs.Common.{◌≡◌, ◌<◌, ◌≤◌, ℕ, ◌+◌, List, [], ◌∷◌, ◌++◌, length, Bool, true, false, nat_lt, Option, Some, None, refl, ap, ◌∙◌, arith, cond}
use Rattle.std.proofs.lemmas.Bool.Decides.{nat_tests}
use Rattle.saved_slots.specs.Series.{first_too_long}
use Rattle.saved_slots.specs.Faults.{refusal_of}
use Rattle.saved_slots.specs.declared.fault.SaveFault.{SaveFault}
use Rattle.saved_slots.specs.declared.fault.SaveFault.TheVariants.{Full}

module _ (room : ℕ) where
  -- behind payloads that fit the first that does not is looked for
  pub behind_fit : (front rest : List (List ℕ)) → first_too_long room front ≡ None → first_too_long room (front ++ rest) ≡ first_too_long room rest
  behind_fit [] rest fit = refl
  behind_fit (first ∷ front) rest fit =
      (elim (nat_lt room (length first + 32)) as (λ c. cond {A = Option ℕ} c (Some (length first + 32)) (first_too_long room front) ≡ None
      → cond {A = Option ℕ} c (Some (length first + 32)) (first_too_long room (front ++ rest)) ≡ first_too_long room rest) [
        | true ↦ λ no. absurd (cc no)
        | false ↦ λ yes. behind_fit front rest yes
      ]) fit

  pub fit_push : (front : List (List ℕ)) (payload : List ℕ) → first_too_long room front ≡ None → length payload + 32 ≤ room → first_too_long room (front ++ payload ∷ []) ≡ None
  fit_push front payload fit short =
      let test : nat_lt room (length payload + 32) ≡ false = grind (arith, nat_tests) in
      behind_fit front (payload ∷ []) fit ∙ ap (λ (b : Bool). cond b (Some (length payload + 32)) None) test

  pub long_behind : (front : List (List ℕ)) (payload : List ℕ) (rest : List (List ℕ)) → first_too_long room front ≡ None → room < length payload + 32
      → first_too_long room (front ++ payload ∷ rest) ≡ Some (length payload + 32)
  long_behind front payload rest fit long =
      let test : nat_lt room (length payload + 32) ≡ true = grind (arith, nat_tests) in
      behind_fit front (payload ∷ rest) fit ∙ ap (λ (b : Bool). cond b (Some (length payload + 32)) (first_too_long room rest)) test

  pub refuses : (spent : Bool) (n : ℕ) → spent ≡ false → room < n + 32 → refusal_of spent room n ≡ Some (Full (n + 32) room)
  refuses true n fresh long = absurd (cc fresh)
  refuses false n fresh long =
      let test : nat_lt room (n + 32) ≡ true = grind (arith, nat_tests) in
      ap (λ (b : Bool). cond {A = Option SaveFault} b (Some (Full (n + 32) room)) None) test
