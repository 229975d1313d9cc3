-- Places of elements that pass a test, and pairs of places.
use Rattle.std.proofs.Common.{◌≡◌, ℕ, zero, suc, ◌+◌, ◌<◌, ◌≤◌, Bool, true, false, cond, ◌==◌, List, [], ◌∷◌, ◌++◌, map, length, drop, refl, sym, ◌∙◌, ap, arith, Option, Some, None, All}
use Rattle.std.proofs.lemmas.Grind.{common_steps, flat_map-append}
use Rattle.std.proofs.lemmas.List.{append-nil, length-drop}
use Rattle.std.proofs.lemmas.List.Elements.{All-from_recursion, filter-append}
use Rattle.std.specs.List.{filter, flat_map, slice_get, AllByRecursion}
use Rattle.dpc_lists.specs.Lists.{sort_by}
use Rattle.dpc_model.specs.Streams.{NoneBelow, IsOrdered}
use Rattle.dpc_model.specs.Operators.{are_partners, paired, pairs_with}
use Rattle.dpc_model.specs.declared.tuples.Tuple.{Tuple}
use Rattle.dpc_model.proofs.Causality.{IsOrdered-sort}
use Rattle.dpc_model.proofs.Cuts.{ordered-append}
use Rattle.dpc_model.proofs.Sorting.{ordered-same, sort_by-ties}
use Rattle.ops_join.specs.Sides.{places_from, at_places, pairs_by_right, row_at}

-- the list from place n on
abbrev StandsFrom : {X : Type 0} → List X → ℕ → List X → Type 0
StandsFrom all n xs = (k : ℕ) → slice_get all (n + k) ≡ slice_get xs k

below-step : (c : Bool) (n m : ℕ) (ps : List ℕ) → n < m → AllByRecursion (λ p. p < m) ps → AllByRecursion (λ p. p < m) (cond c (n ∷ ps) ps)
below-step true n m ps h s = (h, s)
below-step false n m ps h s = s

module _ {X : Type 0} where
  stands-first : (all : List X) (n : ℕ) (x : X) (xs : List X) → StandsFrom all n (x ∷ xs) → slice_get all n ≡ Some x
  stands-first all n x xs h = let e : n + 0 ≡ n = omega arith in rw e at (h 0)

  stands-next : (all : List X) (n : ℕ) (x : X) (xs : List X) → StandsFrom all n (x ∷ xs) → StandsFrom all (n + 1) xs
  stands-next all n x xs h = λ k. let e : n + 1 + k ≡ n + suc k = omega arith in rw e (h (suc k))

  stands-whole : (all : List X) → StandsFrom all 0 all
  stands-whole all = λ k. let e : 0 + k ≡ k = omega arith in rw e refl

  stands-drop : (all : List X) (n : ℕ) → StandsFrom all n (drop n all)
  stands-drop all zero k = stands-whole all k
  stands-drop [] (suc n) k = refl
  stands-drop (x ∷ all) (suc n) k = let e : suc n + k ≡ suc (n + k) = omega arith in rw e (stands-drop all n k)

  -- places lie within the list
  pub places-below : (test : X → Bool) (n m : ℕ) (xs : List X) → n + length xs ≤ m → AllByRecursion (λ p. p < m) (places_from test n xs)
  places-below test n m [] h = tt
  places-below test n m (x ∷ xs) h = below-step (test x) n m (places_from test (n + 1) xs) (omega (arith, h)) (places-below test (n + 1) m xs (omega (arith, h)))

  -- the elements at the places of those that pass
  at-step : (all : List X) (c : Bool) (n : ℕ) (x : X) (ps : List ℕ) (rest : List X) → slice_get all n ≡ Some x → at_places all ps ≡ rest → at_places all (cond c (n ∷ ps) ps) ≡ cond c (x ∷ rest) rest
  at-step all true n x ps rest h e = rw (h, e) refl
  at-step all false n x ps rest h e = e

  at_places-from : (test : X → Bool) (n : ℕ) (all xs : List X) → StandsFrom all n xs → at_places all (places_from test n xs) ≡ filter test xs
  at_places-from test n all [] h = refl
  at_places-from test n all (x ∷ xs) h =
      at-step all (test x) n x (places_from test (n + 1) xs) (filter test xs) (stands-first all n x xs h) (at_places-from test (n + 1) all xs (stands-next all n x xs h))

  pub at_places-is : (test : X → Bool) (xs : List X) → at_places xs (places_from test 0 xs) ≡ filter test xs
  at_places-is test xs = at_places-from test 0 xs xs (stands-whole xs)

-- ---- pairs in order of the left place

abbrev first : ℕ × ℕ → ℕ
first pair = pair.0

-- the places of the pairs that pass a test, in order of the left place and then of the right one
abbrev pub pairs_by_left : {X Y : Type 0} → (X → Y → Bool) → ℕ → List X → ℕ → List Y → List (ℕ × ℕ)
pairs_by_left test m [] n ys = []
pairs_by_left test m (x ∷ xs) n ys = map (λ q. (m, q)) (places_from (test x) n ys) ++ pairs_by_left test (m + 1) xs n ys

abbrev one_if : Bool → ℕ × ℕ → List (ℕ × ℕ)
one_if b pair = cond b (pair ∷ []) []

-- those of one left place
abbrev pairs_at : {X Y : Type 0} → (X → Y → Bool) → ℕ → Option X → ℕ → List Y → List (ℕ × ℕ)
pairs_at test k None n ys = []
pairs_at test k (Some x) n ys = map (λ q. (k, q)) (places_from (test x) n ys)

all-append : {X : Type 0} (P : X → Type 0) (xs ys : List X) → AllByRecursion P xs → AllByRecursion P ys → AllByRecursion P (xs ++ ys)
all-append P [] ys h g = g
all-append P (x ∷ xs) ys h g = (h.0, all-append P xs ys h.1 g)

-- pairs of one left place
block-here : (m : ℕ) (qs : List ℕ) → filter (λ (pair : ℕ × ℕ). pair.0 == m) (map (λ q. (m, q)) qs) ≡ map (λ q. (m, q)) qs
block-here m [] = refl
block-here m (q ∷ qs) = let same : (m == m) ≡ true = grind (arith, common_steps) in rw same (ap (λ (ps : List (ℕ × ℕ)). (m, q) ∷ ps) (block-here m qs))

block-apart : (m k : ℕ) (qs : List ℕ) → (m == k) ≡ false → filter (λ (pair : ℕ × ℕ). pair.0 == k) (map (λ q. (m, q)) qs) ≡ []
block-apart m k [] e = refl
block-apart m k (q ∷ qs) e = rw e (block-apart m k qs e)

block-none_below : (m : ℕ) (qs : List ℕ) → NoneBelow first m (map (λ q. (m, q)) qs)
block-none_below m [] = tt
block-none_below m (q ∷ qs) = (omega arith, block-none_below m qs)

block-ordered : (m : ℕ) (qs : List ℕ) → IsOrdered first (map (λ q. (m, q)) qs)
block-ordered m [] = tt
block-ordered m (q ∷ qs) = (block-none_below m qs, block-ordered m qs)

block-below : (m : ℕ) (qs : List ℕ) → AllByRecursion (λ (pair : ℕ × ℕ). pair.0 < m + 1) (map (λ q. (m, q)) qs)
block-below m [] = tt
block-below m (q ∷ qs) = (omega arith, block-below m qs)

block-from : (k m : ℕ) (qs : List ℕ) → k ≤ m → AllByRecursion (λ (pair : ℕ × ℕ). k ≤ pair.0) (map (λ q. (m, q)) qs)
block-from k m [] h = tt
block-from k m (q ∷ qs) h = (omega (arith, h), block-from k m qs h)

block-inside : (m a b : ℕ) (qs : List ℕ) → m < a → AllByRecursion (λ q. q < b) qs → AllByRecursion (λ (pair : ℕ × ℕ). (pair.0 < a) × (pair.1 < b)) (map (λ q. (m, q)) qs)
block-inside m a b [] h s = tt
block-inside m a b (q ∷ qs) h s = ((h, s.0), block-inside m a b qs h s.1)

module _ {X Y : Type 0} (test : X → Y → Bool) where
  -- of the pairs of one right element, one alone has a left place
  none-before : (t : X → Bool) (k m n : ℕ) (xs : List X) → k < m → filter (λ (pair : ℕ × ℕ). pair.0 == k) (map (λ p. (p, n)) (places_from t m xs)) ≡ []
  none-before t k m n [] h = refl
  none-before t k m n (x ∷ xs) h =
      let other : (m == k) ≡ false = grind (arith, common_steps) in
      let rest = none-before t k (m + 1) n xs (omega (arith, h)) in
      elim (t x) as (λ b. filter (λ (pair : ℕ × ℕ). pair.0 == k) (map (λ p. (p, n)) (cond b (m ∷ places_from t (m + 1) xs) (places_from t (m + 1) xs))) ≡ []) [
        | true ↦ rw other rest
        | false ↦ rest
      ]

  abbrev passing : (X → Bool) → Option X → ℕ × ℕ → List (ℕ × ℕ)
  passing t None pair = []
  passing t (Some x) pair = one_if (t x) pair

  one-left : (t : X → Bool) (m j n : ℕ) (xs : List X) → filter (λ (pair : ℕ × ℕ). pair.0 == (m + j)) (map (λ p. (p, n)) (places_from t m xs)) ≡ passing t (slice_get xs j) (m + j, n)
  one-left t m j n [] = refl
  one-left t m zero n (x ∷ xs) =
      let here : m + 0 ≡ m = omega arith in
      let same : (m == m) ≡ true = grind (arith, common_steps) in
      let rest = none-before t m (m + 1) n xs (omega arith) in
      rw here (elim (t x) as (λ b. filter (λ (pair : ℕ × ℕ). pair.0 == m) (map (λ p. (p, n)) (cond b (m ∷ places_from t (m + 1) xs) (places_from t (m + 1) xs))) ≡ one_if b (m, n)) [
        | true ↦ rw (same, rest) refl
        | false ↦ rest
      ])
  one-left t m (suc j) n (x ∷ xs) =
      let next : m + suc j ≡ m + 1 + j = omega arith in
      let other : (m == (m + 1 + j)) ≡ false = grind (arith, common_steps) in
      let rest = one-left t (m + 1) j n xs in
      rw next (elim (t x) as (λ b. filter (λ (pair : ℕ × ℕ). pair.0 == (m + 1 + j)) (map (λ p. (p, n)) (cond b (m ∷ places_from t (m + 1) xs) (places_from t (m + 1) xs))) ≡ passing t (slice_get xs j) (m + 1 + j, n)) [
        | true ↦ rw other rest
        | false ↦ rest
      ])

  right-step : (k n : ℕ) (o : Option X) (y : Y) (ys : List Y) → passing (λ x. test x y) o (k, n) ++ pairs_at test k o (n + 1) ys ≡ pairs_at test k o n (y ∷ ys)
  right-step k n None y ys = refl
  right-step k n (Some x) y ys = elim (test x y) as (λ b. one_if b (k, n) ++ map (λ q. (k, q)) (places_from (test x) (n + 1) ys) ≡ map (λ q. (k, q)) (cond b (n ∷ places_from (test x) (n + 1) ys) (places_from (test x) (n + 1) ys))) [
    | true ↦ refl
    | false ↦ refl
  ]

  no-pairs : (k n : ℕ) (o : Option X) → [] ≡ pairs_at test k o n []
  no-pairs k n None = refl
  no-pairs k n (Some x) = refl

  of-right : (xs : List X) (k n : ℕ) (ys : List Y) → filter (λ (pair : ℕ × ℕ). pair.0 == k) (pairs_by_right test xs n ys) ≡ pairs_at test k (slice_get xs k) n ys
  of-right xs k n [] = no-pairs k n (slice_get xs k)
  of-right xs k n (y ∷ ys) =
      let start : 0 + k ≡ k = omega arith in
      filter-append (λ (pair : ℕ × ℕ). pair.0 == k) (map (λ p. (p, n)) (places_from (λ x. test x y) 0 xs)) (pairs_by_right test xs (n + 1) ys)
      ∙ rw (of-right xs k (n + 1) ys) (ap (λ (ps : List (ℕ × ℕ)). ps ++ pairs_at test k (slice_get xs k) (n + 1) ys) (rw start at (one-left (λ x. test x y) 0 k n xs)))
      ∙ right-step k n (slice_get xs k) y ys

  -- and of the pairs in order
  none-left : (k m n : ℕ) (xs : List X) (ys : List Y) → k < m → filter (λ (pair : ℕ × ℕ). pair.0 == k) (pairs_by_left test m xs n ys) ≡ []
  none-left k m n [] ys h = refl
  none-left k m n (x ∷ xs) ys h =
      let other : (m == k) ≡ false = grind (arith, common_steps) in
      filter-append (λ (pair : ℕ × ℕ). pair.0 == k) (map (λ q. (m, q)) (places_from (test x) n ys)) (pairs_by_left test (m + 1) xs n ys)
      ∙ rw (block-apart m k (places_from (test x) n ys) other) (none-left k (m + 1) n xs ys (omega (arith, h)))

  of-left : (m j n : ℕ) (xs : List X) (ys : List Y) → filter (λ (pair : ℕ × ℕ). pair.0 == (m + j)) (pairs_by_left test m xs n ys) ≡ pairs_at test (m + j) (slice_get xs j) n ys
  of-left m j n [] ys = refl
  of-left m zero n (x ∷ xs) ys =
      let here : m + 0 ≡ m = omega arith in
      let block : List (ℕ × ℕ) = map (λ q. (m, q)) (places_from (test x) n ys) in
      rw here
      (filter-append (λ (pair : ℕ × ℕ). pair.0 == m) block (pairs_by_left test (m + 1) xs n ys)
      ∙ rw (block-here m (places_from (test x) n ys), none-left m (m + 1) n xs ys (omega arith)) (append-nil block))
  of-left m (suc j) n (x ∷ xs) ys =
      let next : m + suc j ≡ m + 1 + j = omega arith in
      let other : (m == (m + 1 + j)) ≡ false = grind (arith, common_steps) in
      let block : List (ℕ × ℕ) = map (λ q. (m, q)) (places_from (test x) n ys) in
      rw next
      (filter-append (λ (pair : ℕ × ℕ). pair.0 == (m + 1 + j)) block (pairs_by_left test (m + 1) xs n ys)
      ∙ rw (block-apart m (m + 1 + j) (places_from (test x) n ys) other) (of-left (m + 1) j n xs ys))

  left-from : (k m n : ℕ) (xs : List X) (ys : List Y) → k ≤ m → AllByRecursion (λ (pair : ℕ × ℕ). k ≤ pair.0) (pairs_by_left test m xs n ys)
  left-from k m n [] ys h = tt
  left-from k m n (x ∷ xs) ys h =
      all-append (λ (pair : ℕ × ℕ). k ≤ pair.0) (map (λ q. (m, q)) (places_from (test x) n ys)) (pairs_by_left test (m + 1) xs n ys)
      (block-from k m (places_from (test x) n ys) h) (left-from k (m + 1) n xs ys (omega (arith, h)))

  left-ordered : (m n : ℕ) (xs : List X) (ys : List Y) → IsOrdered first (pairs_by_left test m xs n ys)
  left-ordered m n [] ys = tt
  left-ordered m n (x ∷ xs) ys =
      let qs = places_from (test x) n ys in
      ordered-append first (m + 1) (map (λ q. (m, q)) qs) (pairs_by_left test (m + 1) xs n ys) (block-ordered m qs) (left-ordered (m + 1) n xs ys) (block-below m qs)
      (left-from (m + 1) (m + 1) n xs ys (omega arith))

  -- the sort by the left place gives them
  pub by_left-is : (n : ℕ) (xs : List X) (ys : List Y) → sort_by first (pairs_by_right test xs n ys) ≡ pairs_by_left test 0 xs n ys
  by_left-is n xs ys =
      ordered-same first (sort_by first (pairs_by_right test xs n ys)) (pairs_by_left test 0 xs n ys) (IsOrdered-sort first (pairs_by_right test xs n ys)) (left-ordered 0 n xs ys)
      (λ z.
      let start : 0 + z.0 ≡ z.0 = omega arith in
      sort_by-ties first z.0 (pairs_by_right test xs n ys) ∙ of-right xs z.0 n ys ∙ sym (rw start at (of-left 0 z.0 n xs ys)))

  left-inside : (m n a b : ℕ) (xs : List X) (ys : List Y) → m + length xs ≤ a → n + length ys ≤ b → AllByRecursion (λ (pair : ℕ × ℕ). (pair.0 < a) × (pair.1 < b)) (pairs_by_left test m xs n ys)
  left-inside m n a b [] ys h g = tt
  left-inside m n a b (x ∷ xs) ys h g =
      all-append (λ (pair : ℕ × ℕ). (pair.0 < a) × (pair.1 < b)) (map (λ q. (m, q)) (places_from (test x) n ys)) (pairs_by_left test (m + 1) xs n ys)
      (block-inside m a b (places_from (test x) n ys) (omega (arith, h)) (places-below (test x) n b ys g))
      (left-inside (m + 1) n a b xs ys (omega (arith, h)) g)

-- ---- their rows

pub row-one : (ls rs : List Tuple) (pair : ℕ × ℕ) (l r : Tuple) → slice_get ls pair.0 ≡ Some l → slice_get rs pair.1 ≡ Some r → row_at ls rs pair ≡ paired l r ∷ []
row-one ls rs pair l r h g = rw (h, g) refl

block-rows : (test : Tuple → Bool) (ls rs : List Tuple) (m n : ℕ) (l : Tuple) (ys : List Tuple) → slice_get ls m ≡ Some l → StandsFrom rs n ys →
    flat_map (row_at ls rs) (map (λ q. (m, q)) (places_from test n ys)) ≡ map (paired l) (filter test ys)
block-rows test ls rs m n l [] h g = refl
block-rows test ls rs m n l (y ∷ ys) h g =
    let rest = block-rows test ls rs m (n + 1) l ys h (stands-next rs n y ys g) in
    let row = row-one ls rs (m, n) l y h (stands-first rs n y ys g) in
    elim (test y) as (λ b. flat_map (row_at ls rs) (map (λ q. (m, q)) (cond b (n ∷ places_from test (n + 1) ys) (places_from test (n + 1) ys))) ≡ map (paired l) (cond b (y ∷ filter test ys) (filter test ys))) [
      | true ↦ rw (row, rest) refl
      | false ↦ rest
    ]

left-rows : (w : ℕ) (keys : List (ℕ × ℕ)) (ls rs : List Tuple) (m n : ℕ) (xs ys : List Tuple) → StandsFrom ls m xs → StandsFrom rs n ys →
    flat_map (row_at ls rs) (pairs_by_left (are_partners w keys) m xs n ys) ≡ flat_map (pairs_with w keys ys) xs
left-rows w keys ls rs m n [] ys h g = refl
left-rows w keys ls rs m n (x ∷ xs) ys h g =
    flat_map-append (row_at ls rs) (map (λ q. (m, q)) (places_from (are_partners w keys x) n ys)) (pairs_by_left (are_partners w keys) (m + 1) xs n ys)
    ∙ rw (block-rows (are_partners w keys x) ls rs m n x ys (stands-first ls m x xs h) g) (ap (λ (ts : List Tuple). pairs_with w keys ys x ++ ts) (left-rows w keys ls rs (m + 1) n xs ys (stands-next ls m x xs h) g))

pub late-rows : (w : ℕ) (keys : List (ℕ × ℕ)) (ls rs : List Tuple) (from : ℕ) →
    flat_map (row_at ls rs) (pairs_by_left (are_partners w keys) 0 ls from (drop from rs)) ≡ flat_map (pairs_with w keys (drop from rs)) ls
late-rows w keys ls rs from = left-rows w keys ls rs 0 from ls (drop from rs) (stands-whole ls) (stands-drop rs from)

pub late-inside : (w : ℕ) (keys : List (ℕ × ℕ)) (ls rs : List Tuple) (from : ℕ) → from ≤ length rs →
    All (λ (pair : ℕ × ℕ). (pair.0 < length ls) × (pair.1 < length rs)) (pairs_by_left (are_partners w keys) 0 ls from (drop from rs))
late-inside w keys ls rs from h =
    All-from_recursion (λ (pair : ℕ × ℕ). (pair.0 < length ls) × (pair.1 < length rs)) (pairs_by_left (are_partners w keys) 0 ls from (drop from rs))
    (left-inside (are_partners w keys) 0 from (length ls) (length rs) ls (drop from rs) (omega arith) (omega (arith, h, length-drop from rs)))
