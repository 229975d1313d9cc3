-- The elements of a list and of its parts, by number.
use Rattle.std.specs.Prelude.{unwrap_or}
use Rattle.std.proofs.Common.{◌≡◌, ℕ, zero, suc, ◌+◌, ◌<◌, true, List, [], ◌∷◌, ◌++◌, map, take, drop, length, refl, ap, arith, Some, slice_get, slice_index_or, slice_set, zero-add, suc-add, ◌⊎◌, inl, inr, sym, ◌≤◌, ◌∙◌, ◌-◌}
use Rattle.std.proofs.lemmas.Option.{slice_get_past}
use Rattle.dpc_lists.specs.Lists.{changed, is_nil, nth, range_with_len}

pub get-take : {X : Type 0} (m j : ℕ) (xs : List X) (t : X) → slice_get (take m xs) j ≡ Some t → slice_get xs j ≡ Some t
get-take zero j xs t e = cc
get-take (suc m) j [] t e = e
get-take (suc m) zero (x ∷ xs) t e = e
get-take (suc m) (suc j) (x ∷ xs) t e = get-take m j xs t e

pub get-drop : {X : Type 0} (k i : ℕ) (xs : List X) → slice_get (drop k xs) i ≡ slice_get xs (k + i)
get-drop zero i xs = rw (zero-add i) refl
get-drop (suc k) i [] = refl
get-drop (suc k) i (x ∷ xs) = rw (suc-add k i) (get-drop k i xs)

pub get-map : {X Y : Type 0} (f : X → Y) (xs : List X) (i : ℕ) (x : X) → slice_get xs i ≡ Some x → slice_get (map f xs) i ≡ Some (f x)
get-map f [] i x e = cc
get-map f (y ∷ xs) zero x e = let same : y ≡ x = cc in rw same refl
get-map f (y ∷ xs) (suc i) x e = get-map f xs i x e

pub get-first : {X : Type 0} (xs ys : List X) (i : ℕ) (x : X) → slice_get xs i ≡ Some x → slice_get (xs ++ ys) i ≡ Some x
get-first [] ys i x e = cc
get-first (y ∷ xs) ys zero x e = e
get-first (y ∷ xs) ys (suc i) x e = get-first xs ys i x e

-- one element is set to what it becomes
pub set-changed : {X : Type 0} (xs : List X) (i : ℕ) (f : X → X) (old new : X) → i < length xs → old ≡ slice_index_or xs i old → new ≡ f old → slice_set xs i new ≡ changed i f xs
set-changed [] i f old new low e k = absurd (omega (arith, low))
set-changed (x ∷ xs) zero f old new low e k = rw (k, e) refl
set-changed {X = X} (x ∷ xs) (suc i) f old new low e k = ap (λ (ys : List X). x ∷ ys) (set-changed xs i f old new (omega (arith, low)) e k)

pub length-changed : {X : Type 0} (i : ℕ) (f : X → X) (xs : List X) → length (changed i f xs) ≡ length xs
length-changed i f [] = refl
length-changed zero f (x ∷ xs) = refl
length-changed (suc i) f (x ∷ xs) = ap suc (length-changed i f xs)

-- ---- an element more, or none

-- an element is an old one, or the one that was added
pub get-added : {X : Type 0} (xs : List X) (a : X) (j : ℕ) (x : X) → slice_get (xs ++ a ∷ []) j ≡ Some x → (slice_get xs j ≡ Some x) ⊎ ((j ≡ length xs) × (a ≡ x))
get-added [] a zero x e = inr (refl, cc)
get-added [] a (suc j) x e = cc
get-added (y ∷ xs) a zero x e = inl e
get-added (y ∷ xs) a (suc j) x e = elim (get-added xs a j x e) [ inl old ↦ inl old | inr new ↦ inr (ap suc new.0, new.1) ]

pub get-last : {X : Type 0} (xs : List X) (a : X) → slice_get (xs ++ a ∷ []) (length xs) ≡ Some a
get-last [] a = refl
get-last (y ∷ xs) a = get-last xs a

pub get-only : {X : Type 0} (a b : X) (i : ℕ) → slice_get (a ∷ []) i ≡ Some b → i ≡ 0
get-only a b zero e = refl
get-only a b (suc i) e = cc

pub none-there : {X : Type 0} (i : ℕ) (x : X) (xs : List X) → xs ≡ [] → slice_get xs i ≡ Some x → ⊥
none-there i x [] same e = cc
none-there i x (y ∷ xs) same e = cc

pub nil-of : {X : Type 0} (xs : List X) → is_nil xs ≡ true → xs ≡ []
nil-of [] e = refl
nil-of (x ∷ xs) e = cc

pub get-changed : {X : Type 0} (i : ℕ) (f : X → X) (xs : List X) (x : X) → slice_get xs i ≡ Some x → slice_get (changed i f xs) i ≡ Some (f x)
get-changed i f [] x e = cc
get-changed zero f (y ∷ xs) x e = let same : y ≡ x = cc in rw same refl
get-changed (suc i) f (y ∷ xs) x e = get-changed i f xs x e

pub nth-here : {X : Type 0} (d : X) (i : ℕ) (f : X → X) (xs : List X) → i < length xs → nth d (changed i f xs) i ≡ f (nth d xs i)
nth-here d i f [] l = absurd (omega (arith, l))
nth-here d zero f (x ∷ xs) l = refl
nth-here d (suc i) f (x ∷ xs) l = nth-here d i f xs (omega (arith, l))

-- an element that is put where it stands
pub changed-to-same : {X : Type 0} (d : X) (i : ℕ) (xs : List X) → changed i (λ _. nth d xs i) xs ≡ xs
changed-to-same d i [] = refl
changed-to-same d zero (x ∷ xs) = refl
changed-to-same {X = X} d (suc i) (x ∷ xs) = ap (λ (ys : List X). x ∷ ys) (changed-to-same d i xs)

-- an element that is there
pub nth-is : {X : Type 0} (d x : X) (i : ℕ) (xs : List X) → i < length xs → x ≡ slice_index_or xs i x → nth d xs i ≡ x
nth-is d x i [] low e = absurd (omega (arith, low))
nth-is d x zero (y ∷ xs) low e = sym e
nth-is d x (suc i) (y ∷ xs) low e = nth-is d x i xs (omega (arith, low)) e

pub nth-past : {X : Type 0} (d : X) (xs : List X) (i : ℕ) → length xs ≤ i → nth d xs i ≡ d
nth-past d xs i far = ap (λ o. unwrap_or o d) (slice_get_past xs i far)

pub get-there : {X : Type 0} (d : X) (k : ℕ) (xs : List X) → k < length xs → slice_get xs k ≡ Some (nth d xs k)
get-there d k [] h = absurd (omega (arith, h))
get-there d zero (x ∷ xs) h = refl
get-there d (suc k) (x ∷ xs) h = get-there d k xs (omega (arith, h))

pub some-there : {X : Type 0} (xs : List X) (i : ℕ) → i < length xs → (x : X) × (slice_get xs i ≡ Some x)
some-there [] i low = absurd (omega (arith, low))
some-there (x ∷ xs) zero low = (x, refl)
some-there (x ∷ xs) (suc i) low = some-there xs i (omega (arith, low))

pub get-behind : {X : Type 0} (xs ys : List X) (i : ℕ) → slice_get (xs ++ ys) (length xs + i) ≡ slice_get ys i
get-behind [] ys i = let none : 0 + i ≡ i = omega arith in ap (λ (j : ℕ). slice_get ys j) none
get-behind (x ∷ xs) ys i = let next : length (x ∷ xs) + i ≡ suc (length xs + i) = omega arith in ap (λ (j : ℕ). slice_get (x ∷ xs ++ ys) j) next ∙ get-behind xs ys i

pub no-elements : {X : Type 0} (xs : List X) → length xs ≡ 0 → xs ≡ []
no-elements [] h = refl
no-elements (x ∷ xs) h = absurd (omega (arith, h))

pub nil-map : {X Y : Type 0} (f : X → Y) (xs : List X) → is_nil (map f xs) ≡ is_nil xs
nil-map f [] = refl
nil-map f (x ∷ xs) = refl

pub map-map : {X Y Z : Type 0} (g : Y → Z) (f : X → Y) (xs : List X) → map g (map f xs) ≡ map (λ x. g (f x)) xs
map-map g f [] = refl
map-map g f (x ∷ xs) = ap (λ l. g (f x) ∷ l) (map-map g f xs)

pub map-same : {X Y : Type 0} (f g : X → Y) (xs : List X) → ((x : X) → f x ≡ g x) → map f xs ≡ map g xs
map-same f g [] h = refl
map-same f g (x ∷ xs) h = rw (h x, map-same f g xs h) refl

pub range-at : (k n j v : ℕ) → slice_get (range_with_len k n) j ≡ Some v → v ≡ k + j
range-at k zero j v e = cc
range-at k (suc n) zero v e = let same : k ≡ v = cc in omega (arith, same)
range-at k (suc n) (suc j) v e = let far = range-at (k + 1) n j v e in omega (arith, far)

pub range-more : (a n : ℕ) → range_with_len a (n + 1) ≡ range_with_len a n ++ (a + n) ∷ []
range-more a zero = let none : a + 0 ≡ a = omega arith in rw none refl
range-more a (suc n) =
    let next : a + suc n ≡ a + 1 + n = omega arith in let step : suc n + 1 ≡ suc (n + 1) = omega arith in rw (step, next) (ap (λ (ns : List ℕ). a ∷ ns) (range-more (a + 1) n))

pub nth-middle : (before : List (List ℕ)) (w : List ℕ) (ws : List (List ℕ)) → nth [] (before ++ w ∷ ws) (length before) ≡ w
nth-middle [] w ws = refl
nth-middle (x ∷ before) w ws = nth-middle before w ws
