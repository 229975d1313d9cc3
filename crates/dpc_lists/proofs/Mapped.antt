-- Lists whose elements are mapped one by one, in place or into another list.
use Rattle.std.proofs.Common.{◌≡◌, ℕ, zero, suc, ◌+◌, ◌<◌, List, [], ◌∷◌, ◌++◌, map, take, drop, length, refl, ap, ◌∙◌, arith, append-nil, slice_index_or, slice_set}
use Rattle.std.proofs.lemmas.List.{length-map, take_all}
use Rattle.std.proofs.Math.Seq.{drop-length}
use Rattle.dpc_lists.specs.Lists.{nth}

-- the first i elements are mapped, the others not yet
abbrev pub mapped_to : {X : Type 0} → (X → X) → ℕ → List X → List X
mapped_to f i xs = map f (take i xs) ++ drop i xs

pub mapped-more : {X : Type 0} (f : X → X) (i : ℕ) (xs : List X) (x d : X) → i < length xs → x ≡ f (slice_index_or (mapped_to f i xs) i d) →
    slice_set (mapped_to f i xs) i x ≡ mapped_to f (i + 1) xs
mapped-more f i [] x d low e = absurd (omega (arith, low))
mapped-more f zero (y ∷ xs) x d low e = rw e refl
mapped-more {X = X} f (suc i) (y ∷ xs) x d low e =
    let next : suc i + 1 ≡ suc (i + 1) = omega arith in rw next (ap (λ (ys : List X). f y ∷ ys) (mapped-more f i xs x d (omega (arith, low)) e))

-- one more element of another list is that of what is mapped
pub set-mapped : {X Y : Type 0} (f : X → Y) (i : ℕ) (ys : List Y) (xs : List X) (y : Y) (x : X) → i < length ys → i < length xs →
    x ≡ slice_index_or xs i x → y ≡ f x → take i ys ≡ map f (take i xs) → take (i + 1) (slice_set ys i y) ≡ map f (take (i + 1) xs)
set-mapped f i [] xs y x low within e k h = absurd (omega (arith, low))
set-mapped f i (z ∷ ys) [] y x low within e k h = absurd (omega (arith, within))
set-mapped f zero (z ∷ ys) (w ∷ xs) y x low within e k h = rw (k, e) refl
set-mapped {Y = Y} f (suc i) (z ∷ ys) (w ∷ xs) y x low within e k h =
    let next : suc i + 1 ≡ suc (i + 1) = omega arith in
    let first : z ≡ f w = cc in
    let rest : take i ys ≡ map f (take i xs) = cc in
    rw (next, first) (ap (λ (rs : List Y). f w ∷ rs) (set-mapped f i ys xs y x (omega (arith, low)) (omega (arith, within)) e k rest))

-- one more element of another list is that of what is mapped
pub noted-more : {X Y : Type 0} (f : X → Y) (d : X) (i : ℕ) (ys : List Y) (xs : List X) (y : Y) → i < length ys → i < length xs → y ≡ f (nth d xs i) →
    take i ys ≡ map f (take i xs) → take (i + 1) (slice_set ys i y) ≡ map f (take (i + 1) xs)
noted-more f d i [] xs y low within k h = absurd (omega (arith, low))
noted-more f d i (z ∷ ys) [] y low within k h = absurd (omega (arith, within))
noted-more f d zero (z ∷ ys) (w ∷ xs) y low within k h = rw k refl
noted-more {Y = Y} f d (suc i) (z ∷ ys) (w ∷ xs) y low within k h =
    let next : suc i + 1 ≡ suc (i + 1) = omega arith in
    let first : z ≡ f w = cc in
    let rest : take i ys ≡ map f (take i xs) = cc in
    rw (next, first) (ap (λ (rs : List Y). f w ∷ rs) (noted-more f d i ys xs y (omega (arith, low)) (omega (arith, within)) k rest))

-- a list that is written back as a whole
pub written-back : {X : Type 0} (len : ℕ) (f : X → X) (xs new : List X) → len ≡ length xs → new ≡ map f xs → take len (new ++ drop (length new) xs) ≡ map f xs
written-back len f xs new long made =
    let same : length new ≡ length xs = ap length made ∙ length-map xs f in
    ap (λ (k : ℕ). take len (new ++ drop k xs)) same ∙ ap (λ (ys : List _). take len (new ++ ys)) (drop-length xs) ∙ ap (λ (ys : List _). take len ys) (append-nil new)
    ∙ take_all len new (omega (arith, long, same)) ∙ made
