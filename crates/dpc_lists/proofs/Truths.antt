-- Tests that hold, taken apart and put together.
use Rattle.std.proofs.Common.{◌≡◌, ℕ, ◌<◌, ◌≤◌, Bool, true, false, not, cond, ◌&&◌, ◌==◌, nat_lt, nat_le, List, [], ◌∷◌, ◌++◌, map, refl, arith, ◌-◌, ◌||◌, ◌⊎◌, inl, inr, sym, ap, ◌∙◌, zero, suc, drop, ◌+◌, subst}
use Rattle.std.proofs.lemmas.Grind.{common_steps}
use Rattle.std.specs.List.{filter}
use Rattle.std.specs.Ordering.{is_eq}
use Rattle.std.specs.declared.cmp.Ordering.{Ordering}
use Rattle.std.specs.declared.cmp.Ordering.TheVariants.{Less, Equal, Greater}
use Rattle.dpc_lists.specs.Lists.{list_all, sort_by, insert_by, list_any, range_with_len}

pub both : (a b : Bool) → (a && b) ≡ true → (a ≡ true) × (b ≡ true)
both true b e = (refl, e)
both false b e = cc

pub both-of : (a b : Bool) → a ≡ true → b ≡ true → (a && b) ≡ true
both-of a b e f = rw (e, f) refl

pub le-of : (a b : ℕ) → nat_le a b ≡ true → a ≤ b
le-of a b e = grind (arith, common_steps)

pub le-test : (a b : ℕ) → a ≤ b → nat_le a b ≡ true
le-test a b e = grind (arith, common_steps)

pub lt-of : (a b : ℕ) → nat_lt a b ≡ true → a < b
lt-of a b e = grind (arith, common_steps)

pub lt-test : (a b : ℕ) → a < b → nat_lt a b ≡ true
lt-test a b e = grind (arith, common_steps)

pub eq-of : (a b : ℕ) → (a == b) ≡ true → a ≡ b
eq-of a b e = grind (arith, common_steps)

pub eq-test : (a b : ℕ) → a ≡ b → (a == b) ≡ true
eq-test a b e = grind (arith, common_steps)

pub not-lt : (a b : ℕ) → nat_lt a b ≡ false → b ≤ a
not-lt a b e = grind (arith, common_steps)

pub not-of : (a : Bool) → not a ≡ true → a ≡ false
not-of true e = cc
not-of false e = refl

-- ---- a test of each element

module _ {X : Type 0} (q : X → Bool) where
  pub all-append : (xs ys : List X) → list_all q xs ≡ true → list_all q ys ≡ true → list_all q (xs ++ ys) ≡ true
  all-append [] ys h k = k
  all-append (x ∷ xs) ys h k = let p = both (q x) (list_all q xs) h in both-of (q x) (list_all q (xs ++ ys)) p.0 (all-append xs ys p.1 k)

  pub all-insert : (key : X → ℕ) (x : X) (ys : List X) → q x ≡ true → list_all q ys ≡ true → list_all q (insert_by key x ys) ≡ true
  all-insert key x [] h k = both-of (q x) true h refl
  all-insert key x (y ∷ ys) h k =
      let p = both (q y) (list_all q ys) k in
      elim (nat_lt (key y) (key x)) as (λ c. list_all q (cond c (y ∷ insert_by key x ys) (x ∷ y ∷ ys)) ≡ true) [
        | true ↦ both-of (q y) (list_all q (insert_by key x ys)) p.0 (all-insert key x ys h p.1)
        | false ↦ both-of (q x) (q y && list_all q ys) h k
      ]

  pub all-sort : (key : X → ℕ) (xs : List X) → list_all q xs ≡ true → list_all q (sort_by key xs) ≡ true
  all-sort key [] h = refl
  all-sort key (x ∷ xs) h = let p = both (q x) (list_all q xs) h in all-insert key x (sort_by key xs) p.0 (all-sort key xs p.1)

  -- a filter by a test that is at least as strong
  pub all-filter : (r : X → Bool) (xs : List X) → ((x : X) → r x ≡ true → q x ≡ true) → list_all q (filter r xs) ≡ true
  all-filter r [] h = refl
  all-filter r (x ∷ xs) h =
      (elim (r x) as (λ c. r x ≡ c → list_all q (cond c (x ∷ filter r xs) (filter r xs)) ≡ true) [
        | true ↦ λ e. both-of (q x) (list_all q (filter r xs)) (h x e) (all-filter r xs h)
        | false ↦ λ e. all-filter r xs h
      ]) refl

  -- and of any filter, where it holds of all
  pub all-part : (r : X → Bool) (xs : List X) → list_all q xs ≡ true → list_all q (filter r xs) ≡ true
  all-part r [] h = refl
  all-part r (x ∷ xs) h =
      let p = both (q x) (list_all q xs) h in
      elim (r x) as (λ c. list_all q (cond c (x ∷ filter r xs) (filter r xs)) ≡ true) [
        | true ↦ both-of (q x) (list_all q (filter r xs)) p.0 (all-part r xs p.1)
        | false ↦ all-part r xs p.1
      ]

  pub all-weaker : (r : X → Bool) (xs : List X) → ((x : X) → r x ≡ true → q x ≡ true) → list_all r xs ≡ true → list_all q xs ≡ true
  all-weaker r [] h k = refl
  all-weaker r (x ∷ xs) h k = let p = both (r x) (list_all r xs) k in both-of (q x) (list_all q xs) (h x p.0) (all-weaker r xs h p.1)

  pub all-map : {Y : Type 0} (f : Y → X) (ys : List Y) → ((y : Y) → q (f y) ≡ true) → list_all q (map f ys) ≡ true
  all-map f [] h = refl
  all-map f (y ∷ ys) h = both-of (q (f y)) (list_all q (map f ys)) (h y) (all-map f ys h)

pub not-false : (b : Bool) → not b ≡ false → b ≡ true
not-false true e = refl
not-false false e = absurd cc

pub not-less : (a b : ℕ) → b ≤ a → nat_lt a b ≡ false
not-less a b l = grind (arith, common_steps)

pub never-below : (n : ℕ) → nat_lt n 0 ≡ false
never-below n = grind (arith, common_steps)

pub not-zero : (k : ℕ) → (k == 0) ≡ false → 1 ≤ k
not-zero k d = grind (arith, common_steps)

pub or-left : (a b : Bool) → a ≡ true → (a || b) ≡ true
or-left true b e = refl
or-left false b e = cc

pub or-right : (a b : Bool) → b ≡ true → (a || b) ≡ true
or-right true b e = refl
or-right false b e = e

pub or-of : (a b : Bool) → (a || b) ≡ true → (a ≡ true) ⊎ (b ≡ true)
or-of true b e = inl refl
or-of false b e = inr e

pub neither : (a b : Bool) → (a || b) ≡ false → (a ≡ false) × (b ≡ false)
neither true b e = cc
neither false b e = (refl, e)

pub or-true : (x : Bool) → (x || true) ≡ true
or-true true = refl
or-true false = refl

pub or-none : (b : Bool) → (b || false) ≡ b
or-none true = refl
or-none false = refl

pub or-second : (a b c : Bool) → (a || (b || c)) ≡ (b || (a || c))
or-second true true c = refl
or-second true false c = refl
or-second false b c = refl

pub and-false : (b c : Bool) → c ≡ false → (b && c) ≡ false
and-false true c d = d
and-false false c d = refl

pub and-none : (b : Bool) → (b && false) ≡ false
and-none true = refl
and-none false = refl

pub and-true : (t : Bool) → (t && true) ≡ t
and-true true = refl
and-true false = refl

pub not-second : (a b : Bool) → a ≡ true → (a && b) ≡ false → b ≡ false
not-second true b c d = d
not-second false b c d = cc

pub not-first : (a b c : Bool) → (not a || b || c) ≡ false → a ≡ true
not-first true b c e = refl
not-first false b c e = cc

pub not-twice : (b c : Bool) → c ≡ not b → b ≡ not c
not-twice true c e = ap not (sym e)
not-twice false c e = ap not (sym e)

pub not-both : (b : Bool) → b ≡ true → b ≡ false → ⊥
not-both b e f = let no_way : true ≡ false = sym e ∙ f in cc

pub true-not-false : true ≡ false → ⊥
true-not-false x = cc

pub equal_from : (o : Ordering) → is_eq o ≡ true → o ≡ Equal
equal_from Less e = absurd (cc)
equal_from Equal e = refl
equal_from Greater e = absurd (cc)

pub all-drop : {X : Type 0} (q : X → Bool) (k : ℕ) (xs : List X) → list_all q xs ≡ true → list_all q (drop k xs) ≡ true
all-drop q zero xs h = h
all-drop q (suc k) [] h = refl
all-drop q (suc k) (x ∷ xs) h = all-drop q k xs (both (q x) (list_all q xs) h).1

pub any-same : {X : Type 0} (p q : X → Bool) (xs : List X) → ((x : X) → p x ≡ q x) → list_any p xs ≡ list_any q xs
any-same p q [] h = refl
any-same p q (x ∷ xs) h = rw (h x) (ap (λ b. q x || b) (any-same p q xs h))

pub in-range : (test : ℕ → Bool) (k n b : ℕ) → list_all test (range_with_len k n) ≡ true → k ≤ b → b < k + n → test b ≡ true
in-range test k zero b h low high = absurd (omega (arith, low, high))
in-range test k (suc n) b h low high =
    let p = both (test k) (list_all test (range_with_len (k + 1) n)) h in
    (elim (nat_lt k b) as (λ t. nat_lt k b ≡ t → test b ≡ true) [
      | true ↦ λ e. let more = lt-of k b e in in-range test (k + 1) n b p.1 (omega (arith, more)) (omega (arith, high))
      | false ↦ λ e. let few = not-lt k b e in let same : k ≡ b = omega (arith, few, low) in subst (λ (c : ℕ). test c ≡ true) same p.0
    ]) refl
