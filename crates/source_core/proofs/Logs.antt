-- The log of a source: where it stands, how many tuples lie below a time, and what was emitted of it.
use Rattle.std.proofs.Common.{◌≡◌, ℕ, zero, suc, ◌+◌, ◌-◌, ◌≤◌, ◌<◌, true, false, List, [], ◌∷◌, map, take, drop, length, refl, sym, arith, slice_index_or, nat_le, min}
use Rattle.std.proofs.lemmas.Grind.{common_steps}
use Rattle.std.proofs.lemmas.List.{drop-take, length-take}
use Rattle.dpc_lists.specs.Lists.{nth}
use Rattle.dpc_model.specs.declared.plans.SourceSpec.{SourceSpec}

pub log-at : (sources : List SourceSpec) (s : ℕ) (d : SourceSpec) → s < length sources → (slice_index_or sources s d).log ≡ nth [] (map (λ (x : SourceSpec). x.log) sources) s
log-at [] s d low = absurd (omega (arith, low))
log-at (x ∷ sources) zero d low = refl
log-at (x ∷ sources) (suc s) d low = log-at sources s d (omega (arith, low))

-- a part of the log
pub part : {X : Type 0} (i n : ℕ) (xs : List X) → i ≤ n → take (n - i) (drop i xs) ≡ drop i (take n xs)
part i n xs low = let all : i + (n - i) ≡ n = omega (arith, low) in rw all at (sym (drop-take i (n - i) xs))

drop-end : {X : Type 0} (n : ℕ) (xs : List X) → length xs ≤ n → drop n xs ≡ []
drop-end zero [] h = refl
drop-end (suc n) [] h = refl
drop-end zero (x ∷ xs) h = absurd (omega (arith, h))
drop-end (suc n) (x ∷ xs) h = drop-end n xs (omega (arith, h))

-- .. from a number on that may lie past it
pub part-from : {X : Type 0} (i n : ℕ) (xs : List X) → take (n - min i n) (drop (min i n) xs) ≡ drop i (take n xs)
part-from i n xs =
    (elim (nat_le i n) as (λ c. nat_le i n ≡ c → take (n - min i n) (drop (min i n) xs) ≡ drop i (take n xs)) [
      | true ↦ λ e.
          let low : i ≤ n = grind (arith, common_steps) in
          let first : min i n ≡ i = omega arith in
          rw first (part i n xs low)
      | false ↦ λ e.
          let high : n < i = grind (arith, common_steps) in
          let first : min i n ≡ n = omega arith in
          let none : n - n ≡ 0 = omega arith in
          let short = length-take n xs in
          rw (first, none) (sym (drop-end i (take n xs) (omega (arith, short, high))))
    ]) refl
