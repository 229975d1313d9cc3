-- A seat more watches one client more.
use Rattle.std.proofs.Common.{◌≡◌, ◌≢◌, ℕ, zero, suc, ◌+◌, ◌≤◌, ◌<◌, true, false, ◌==◌, List, [], ◌∷◌, ◌++◌, length, replicate, get_or, set, refl, sym, ap, ◌∙◌, arith}
use Rattle.std.proofs.lemmas.List.{get_or-set_same, get_or-set_other, length-set, set-get_or, length-append, get_or_append_left, get_or-replicate, length-replicate}
use Rattle.std.proofs.Math.Seq.{get_or-append_seam}
use Rattle.std.specs.List.{range_with_len}
use Rattle.dpc_lists.proofs.Truths.{eq-of, eq-test, true-not-false}

-- these seats have it, and these do not have it yet
abbrev pub Done : ℕ → ℕ → ℕ → List (List ℕ) → Type 0
Done workers place n seats = (i : ℕ) (d : List ℕ) → workers ≤ i → i < place → get_or seats i d ≡ range_with_len 0 n

abbrev pub Waits : ℕ → ℕ → List (List ℕ) → Type 0
Waits place n seats = (i : ℕ) (d : List ℕ) → place ≤ i → i < length seats → get_or seats i d ≡ range_with_len 0 n

range-more : (a n : ℕ) → range_with_len a (suc n) ≡ range_with_len a n ++ (a + n) ∷ []
range-more a zero = let here : a ≡ a + 0 = omega arith in ap (λ k. k ∷ []) here
range-more a (suc n) = let next : a + 1 + n ≡ a + suc n = omega arith in ap (λ l. a ∷ l) (range-more (a + 1) n ∙ ap (λ k. range_with_len (a + 1) n ++ k ∷ []) next)

range-next : (n : ℕ) → range_with_len 0 n ++ n ∷ [] ≡ range_with_len 0 (n + 1)
range-next n =
    let here : 0 + n ≡ n = omega arith in
    let next : suc n ≡ n + 1 = omega arith in
    ap (λ k. range_with_len 0 n ++ k ∷ []) (sym here) ∙ sym (range-more 0 n) ∙ ap (range_with_len 0) next

pub placed : (workers place n : ℕ) (seats after : List (List ℕ)) (mine before : List ℕ) → after ≡ set seats place mine → mine ≡ before ++ n ∷ [] → before ≡ get_or seats place before → place < length seats
    → Done workers place (n + 1) seats → Waits place n seats → Done workers (place + 1) (n + 1) after × Waits (place + 1) n after
placed workers place n seats after mine before is more was within done waits =
    let whole : mine ≡ range_with_len 0 (n + 1) = more ∙ ap (λ l. l ++ n ∷ []) (was ∙ waits place before (omega arith) within) ∙ range-next n in (
      λ i d low high.
          (elim (i == place) as (λ t. (i == place) ≡ t → get_or after i d ≡ range_with_len 0 (n + 1)) [
            | true ↦ λ e. rw (eq-of i place e, is) (get_or-set_same seats place mine d within ∙ whole)
            | false ↦ λ e.
                let apart : i ≢ place = λ q. true-not-false (sym (eq-test i place q) ∙ e) in
                let below : i < place = omega (arith, high, apart) in
                rw is (get_or-set_other seats place i mine d apart ∙ done i d low below)
          ]) refl,
      λ i d low high.
          let apart : i ≢ place = omega (arith, low) in
          let inside : i < length seats = omega (arith, high, ap length is, length-set seats place mine) in
          rw is (get_or-set_other seats place i mine d apart ∙ waits i d (omega (arith, low)) inside),
    )

-- what holds of each holds of the last, and of those before it
pub each-last : {X : Type 0} (f : X → ℕ) (c : ℕ) (old new : List X) (last : X) → old ≡ new ++ last ∷ [] → ((i : ℕ) (d : X) → i < length old → f (get_or old i d) ≡ c)
    → (f last ≡ c) × ((i : ℕ) (d : X) → i < length new → f (get_or new i d) ≡ c)
each-last f c old new last is each =
    let long : length old ≡ length new + 1 = ap length is ∙ length-append new (last ∷ []) in (
      ap f (sym (get_or-append_seam new last [] last)) ∙ ap (λ l. f (get_or l (length new) last)) (sym is) ∙ each (length new) last (omega (arith, long)),
      λ i d h. ap f (sym (get_or_append_left new (last ∷ []) d i h)) ∙ ap (λ l. f (get_or l i d)) (sym is) ∙ each i d (omega (arith, h, long)),
    )

pub all-alike : {X : Type 0} (f : X → ℕ) (c n : ℕ) (xs : List X) (x : X) → xs ≡ replicate n x → f x ≡ c → (i : ℕ) (d : X) → i < length xs → f (get_or xs i d) ≡ c
all-alike f c n xs x is e i d h =
    let low : i < n = omega (arith, h, ap length is, length-replicate n x) in ap (λ l. f (get_or l i d)) is ∙ ap f (get_or-replicate n i x d low) ∙ e

-- nothing is changed by the same again
pub set-back : {X : Type 0} (xs : List X) (i : ℕ) (x y : X) → y ≡ x → x ≡ get_or xs i x → set xs i y ≡ xs
set-back xs i x y same was = ap (set xs i) (same ∙ was) ∙ set-get_or xs i x
