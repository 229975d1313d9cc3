-- A stable sort by a number gives the definition's list.
use Rattle.std.proofs.Common.{◌≡◌, ℕ, suc, ◌<◌, ◌≤◌, Bool, true, false, cond, ◌==◌, List, [], ◌∷◌, length, get_or, refl, sym, ◌∙◌, arith, nat_lt}
use Rattle.std.proofs.lemmas.Grind.{common_steps}
use Rattle.std.specs.List.{filter}
use Rattle.std.specs.List.Sorted.{IsNonDecreasingBy, ties}
use Rattle.std.specs.Ordering.{is_lt, nat_cmp}
use Rattle.dpc_lists.specs.Lists.{sort_by}
use Rattle.dpc_model.specs.Streams.{NoneBelow, IsOrdered}
use Rattle.dpc_model.proofs.Causality.{IsOrdered-sort, filter-sort, sort_by-ordered}

module _ {X : Type 0} (key : X → ℕ) where
  -- whether the element has this number
  abbrev has_key : ℕ → X → Bool
  has_key n x = key x == n

  equal_keys : (x : X) → has_key (key x) x ≡ true
  equal_keys x = grind (arith, common_steps)

  -- elements of one number are in order
  ties-none_below : (n : ℕ) (xs : List X) → NoneBelow key n (filter (has_key n) xs)
  ties-none_below n [] = tt
  ties-none_below n (x ∷ xs) =
      (elim (has_key n x) as (λ c. has_key n x ≡ c → NoneBelow key n (cond c (x ∷ filter (has_key n) xs) (filter (has_key n) xs))) [
        | true ↦ λ e. let same : key x ≡ n = grind (arith, common_steps) in (omega (arith, same), ties-none_below n xs)
        | false ↦ λ e. ties-none_below n xs
      ]) refl

  ties-ordered : (n : ℕ) (xs : List X) → IsOrdered key (filter (has_key n) xs)
  ties-ordered n [] = tt
  ties-ordered n (x ∷ xs) =
      (elim (has_key n x) as (λ c. has_key n x ≡ c → IsOrdered key (cond c (x ∷ filter (has_key n) xs) (filter (has_key n) xs))) [
        | true ↦ λ e. let same : key x ≡ n = grind (arith, common_steps) in (rw same (ties-none_below n xs), ties-ordered n xs)
        | false ↦ λ e. ties-ordered n xs
      ]) refl

  -- sorting leaves the elements of one number as they stood
  pub sort_by-ties : (n : ℕ) (xs : List X) → filter (has_key n) (sort_by key xs) ≡ filter (has_key n) xs
  sort_by-ties n xs = filter-sort key (has_key n) xs ∙ sort_by-ordered key (filter (has_key n) xs) (ties-ordered n xs)

  none_tied : (m n : ℕ) (xs : List X) → n < m → NoneBelow key m xs → filter (has_key n) xs ≡ []
  none_tied m n [] h s = refl
  none_tied m n (x ∷ xs) h s = grind (arith, common_steps, s.0, none_tied m n xs h s.1)

  -- an element that stands first is not missing
  first_tied : (x : X) (xs : List X) → filter (has_key (key x)) (x ∷ xs) ≡ x ∷ filter (has_key (key x)) xs
  first_tied x xs = rw (equal_keys x) refl

  first_numbered : (n : ℕ) (x : X) (xs : List X) → key x ≡ n → filter (has_key n) (x ∷ xs) ≡ x ∷ filter (has_key n) xs
  first_numbered n x xs e = grind (arith, common_steps, e)

  -- the first elements of two ordered lists with the same elements of each number
  no_less : (x y : X) (xs ys : List X) → NoneBelow key (key y) ys → filter (has_key (key x)) (x ∷ xs) ≡ filter (has_key (key x)) (y ∷ ys) → nat_lt (key x) (key y) ≡ false
  no_less x y xs ys s h =
      (elim (nat_lt (key x) (key y)) as (λ c. nat_lt (key x) (key y) ≡ c → c ≡ false) [
        | true ↦ λ e.
            let less : key x < key y = grind (arith, common_steps) in
            let whole : NoneBelow key (key y) (y ∷ ys) = (omega arith, s) in
            let none = none_tied (key y) (key x) (y ∷ ys) less whole in
            let first = first_tied x xs in
            absurd (cc)
        | false ↦ λ e. refl
      ]) refl

  tied_tails : (x y z : X) (xs ys : List X) → x ≡ y → filter (has_key (key z)) (x ∷ xs) ≡ filter (has_key (key z)) (y ∷ ys) →
      filter (has_key (key z)) xs ≡ filter (has_key (key z)) ys
  tied_tails x y z xs ys e h = grind (arith, common_steps, e, h)

  -- two ordered lists with the same elements of each number are one list
  pub ordered-same : (xs ys : List X) → IsOrdered key xs → IsOrdered key ys → ((z : X) → filter (has_key (key z)) xs ≡ filter (has_key (key z)) ys) → xs ≡ ys
  ordered-same [] [] o p h = refl
  ordered-same [] (y ∷ ys) o p h = let first = first_tied y ys in let none = h y in absurd (cc)
  ordered-same (x ∷ xs) [] o p h = let first = first_tied x xs in let none = h x in absurd (cc)
  ordered-same (x ∷ xs) (y ∷ ys) o p h =
      let up = no_less x y xs ys p.0 (h x) in
      let down = no_less y x ys xs o.0 (sym (h y)) in
      let number : key y ≡ key x = grind (arith, common_steps) in
      let left = first_tied x xs in
      let right : filter (has_key (key x)) (y ∷ ys) ≡ y ∷ filter (has_key (key x)) ys = first_numbered (key x) y ys number in
      let both = h x in
      let one : x ≡ y = cc in
      let rest = ordered-same xs ys o.1 p.1 (λ z. tied_tails x y z xs ys one (h z)) in
      cc

  -- from numbers that do not fall
  none_below-from : (n : ℕ) (xs : List X) → ((i : ℕ) (d : X) → i < length xs → n ≤ key (get_or xs i d)) → NoneBelow key n xs
  none_below-from n [] h = tt
  none_below-from n (x ∷ xs) h = (h 0 x (omega arith), none_below-from n xs (λ i d low. h (suc i) d (omega (arith, low))))

  pub IsOrdered-from : (xs : List X) → IsNonDecreasingBy key xs → IsOrdered key xs
  IsOrdered-from [] h = tt
  IsOrdered-from (x ∷ xs) h = (
    none_below-from (key x) xs (λ i d low. h 0 (suc i) d (omega arith) (omega (arith, low))),
    IsOrdered-from xs (λ i j d low high. h (suc i) (suc j) d (omega (arith, low)) (omega (arith, high))),
  )

  tie_is : (x y : X) → ties (λ (a b : X). is_lt (nat_cmp (key a) (key b))) x y ≡ has_key (key x) y
  tie_is x y = grind (arith, common_steps)

  filter-same : (p q : X → Bool) → ((x : X) → p x ≡ q x) → (xs : List X) → filter p xs ≡ filter q xs
  filter-same p q h [] = refl
  filter-same p q h (x ∷ xs) = grind (arith, common_steps, h x, filter-same p q h xs)

  -- what a stable sort by the number gives
  pub sorted-is : (xs ys : List X) → IsNonDecreasingBy key ys →
      ((z : X) → filter (ties (λ (a b : X). is_lt (nat_cmp (key a) (key b))) z) ys ≡ filter (ties (λ (a b : X). is_lt (nat_cmp (key a) (key b))) z) xs) → ys ≡ sort_by key xs
  sorted-is xs ys up stable =
      ordered-same ys (sort_by key xs) (IsOrdered-from ys up) (IsOrdered-sort key xs)
      (λ z.
      let tied = filter-same (ties (λ (a b : X). is_lt (nat_cmp (key a) (key b))) z) (has_key (key z)) (tie_is z) in
      sym (tied ys) ∙ stable z ∙ tied xs ∙ sym (sort_by-ties (key z) xs))
