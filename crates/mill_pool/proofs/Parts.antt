-- A list with one element changed, against the same list without it.
use Rattle.std.proofs.Common.{◌≡◌, ◌≢◌, ℕ, zero, suc, ◌+◌, ◌<◌, List, [], ◌∷◌, ◌++◌, length, set, sym, refl, ap, ◌∙◌, subst, append_assoc, arith}
use Rattle.std.specs.List.{flat_map, sum_by}
use Rattle.std.specs.List.Sorted.{IsPermutation}
use Rattle.std.proofs.lemmas.List.{set_comm}
use Rattle.std.proofs.lemmas.List.Sorted.{IsPermutation-refl, IsPermutation-sym, IsPermutation-trans, IsPermutation-append_left, IsPermutation-append_right, IsPermutation-append_comm}
use Rattle.std.proofs.lemmas.List.Sums.{sum_by-cons}
use mathlib.Core.Option.{some, some-injective, some-ne-none}
use lib.ListN.{get_elem?}
use Rattle.crossbeam_queue.proofs.Lists.{set_here, set_else}

module _ {X : Type 0} where
  -- the list without the element at a place
  abbrev pub others : List X → ℕ → List X
  others [] n = []
  others (x ∷ xs) zero = xs
  others (x ∷ xs) (suc n) = x ∷ others xs n

  others-set : (xs : List X) (n : ℕ) (y : X) → others (set xs n y) n ≡ others xs n
  others-set [] n y = refl
  others-set (x ∷ xs) zero y = refl
  others-set (x ∷ xs) (suc n) y = ap (λ l. x ∷ l) (others-set xs n y)

  pub inside : (xs : List X) (n : ℕ) (x : X) → get_elem? xs n ≡ some x → n < length xs
  inside [] n x e = absurd (some-ne-none x (sym e))
  inside (z ∷ xs) zero x e = omega arith
  inside (z ∷ xs) (suc n) x e = let h = inside xs n x e in omega arith

  there-set : (xs : List X) (n : ℕ) (x y : X) → get_elem? xs n ≡ some x → get_elem? (set xs n y) n ≡ some y
  there-set xs n x y e = set_here xs n y (inside xs n x e)

  -- ---- sums

  pub sum-there : (f : X → ℕ) (xs : List X) (n : ℕ) (x : X) → get_elem? xs n ≡ some x → sum_by f xs ≡ f x + sum_by f (others xs n)
  sum-there f [] n x e = absurd (some-ne-none x (sym e))
  sum-there f (z ∷ xs) zero x e = sum_by-cons f z xs ∙ ap (λ y. f y + sum_by f xs) (some-injective z x e)
  sum-there f (z ∷ xs) (suc n) x e =
      let h = sum-there f xs n x e in
      let a = sum_by-cons f z xs in
      let b = sum_by-cons f z (others xs n) in omega arith

  pub sum-set : (f : X → ℕ) (xs : List X) (n : ℕ) (x y : X) → get_elem? xs n ≡ some x → sum_by f (set xs n y) + f x ≡ sum_by f xs + f y
  sum-set f xs n x y e =
      let a = sum-there f xs n x e in
      let b = sum-there f (set xs n y) n y (there-set xs n x y e) in
      let c : sum_by f (others (set xs n y) n) ≡ sum_by f (others xs n) = ap (λ l. sum_by f l) (others-set xs n y) in omega arith

-- ---- the same elements in another order

module _ {A : Type 0} where
  pub then_moves : {a b c : List A} → IsPermutation a b → IsPermutation b c → IsPermutation a c
  then_moves {a} {b} {c} p q = IsPermutation-trans a b c p q

  pub back : {a b : List A} → IsPermutation a b → IsPermutation b a
  back {a} {b} p = IsPermutation-sym a b p

  pub same_list : (a b : List A) → a ≡ b → IsPermutation a b
  same_list a b e = subst (λ l. IsPermutation a l) e (IsPermutation-refl a)

  -- the first two of three blocks change places
  pub blocks : (a b c : List A) → IsPermutation (a ++ (b ++ c)) (b ++ (a ++ c))
  blocks a b c =
      then_moves (same_list (a ++ (b ++ c)) ((a ++ b) ++ c) (sym (append_assoc a b c)))
      (then_moves (IsPermutation-append_left c (a ++ b) (b ++ a) (IsPermutation-append_comm a b))
      (same_list ((b ++ a) ++ c) (b ++ (a ++ c)) (append_assoc b a c)))

  -- the second of three blocks goes to the end
  to_end : (a b c : List A) → IsPermutation ((a ++ b) ++ c) ((a ++ c) ++ b)
  to_end a b c =
      then_moves (same_list ((a ++ b) ++ c) (a ++ (b ++ c)) (append_assoc a b c))
      (then_moves (IsPermutation-append_right a (b ++ c) (c ++ b) (IsPermutation-append_comm b c))
      (same_list (a ++ (c ++ b)) ((a ++ c) ++ b) (sym (append_assoc a c b))))

-- ---- lists that the elements have, one behind another

module _ {X A : Type 0} (f : X → List A) where
  -- an element's list comes first
  pub flat-there : (xs : List X) (n : ℕ) (x : X) → get_elem? xs n ≡ some x → IsPermutation (flat_map f xs) (f x ++ flat_map f (others xs n))
  flat-there [] n x e = absurd (some-ne-none x (sym e))
  flat-there (z ∷ xs) zero x e = same_list (f z ++ flat_map f xs) (f x ++ flat_map f xs) (ap (λ y. f y ++ flat_map f xs) (some-injective z x e))
  flat-there (z ∷ xs) (suc n) x e =
      then_moves (IsPermutation-append_right (f z) (flat_map f xs) (f x ++ flat_map f (others xs n)) (flat-there xs n x e))
      (blocks (f z) (f x) (flat_map f (others xs n)))

  pub flat-set : (xs : List X) (n : ℕ) (x y : X) → get_elem? xs n ≡ some x → IsPermutation (flat_map f (set xs n y)) (f y ++ flat_map f (others xs n))
  flat-set xs n x y e =
      subst (λ l. IsPermutation (flat_map f (set xs n y)) (f y ++ flat_map f l)) (others-set xs n y)
      (flat-there (set xs n y) n y (there-set xs n x y e))

  -- an element's list grows
  pub flat-more : (xs : List X) (n : ℕ) (x y : X) (more : List A) → get_elem? xs n ≡ some x → f y ≡ f x ++ more → IsPermutation (flat_map f (set xs n y)) (flat_map f xs ++ more)
  flat-more xs n x y more e grown =
      let rest : List A = flat_map f (others xs n) in
      then_moves (subst (λ l. IsPermutation (flat_map f (set xs n y)) (l ++ rest)) grown (flat-set xs n x y e))
      (then_moves (to_end (f x) more rest)
      (IsPermutation-append_left more (f x ++ rest) (flat_map f xs) (back (flat-there xs n x e))))

  -- an element's list stays
  pub flat-same : (xs : List X) (n : ℕ) (x y : X) → get_elem? xs n ≡ some x → f y ≡ f x → IsPermutation (flat_map f (set xs n y)) (flat_map f xs)
  flat-same xs n x y e same =
      let rest : List A = flat_map f (others xs n) in
      then_moves (subst (λ l. IsPermutation (flat_map f (set xs n y)) (l ++ rest)) same (flat-set xs n x y e)) (back (flat-there xs n x e))

  -- one element's list goes to the end of another's
  pub flat-join : (xs : List X) (i j : ℕ) (a b c d : X) → get_elem? xs i ≡ some a → get_elem? xs j ≡ some b → j ≢ i → f c ≡ f a ++ f b → f d ≡ []
      → IsPermutation (flat_map f (set (set xs i c) j d)) (flat_map f xs)
  flat-join xs i j a b c d ei ej apart joined none =
      let rest : List A = flat_map f (others xs j) in
      let ys : List X = set xs j d in
      let at : get_elem? ys i ≡ some a = set_else xs j i d (λ e. apart (sym e)) ∙ ei in
      let gone : IsPermutation (flat_map f ys) rest = subst (λ l. IsPermutation (flat_map f ys) (l ++ rest)) none (flat-set xs j b d ej) in
      subst (λ l. IsPermutation (flat_map f l) (flat_map f xs)) (sym (set_comm xs i j c d (λ e. apart (sym e))))
      (then_moves (flat-more ys i a c (f b) at joined)
      (then_moves (IsPermutation-append_left (f b) (flat_map f ys) rest gone)
      (then_moves (IsPermutation-append_comm rest (f b)) (back (flat-there xs j b ej)))))
