-- Lists of which the first so many elements went on, one after another.
use Rattle.std.proofs.Common.{◌≡◌, ℕ, zero, suc, ◌+◌, ◌<◌, ◌≤◌, List, [], ◌∷◌, length, get_or, set, refl, sym, ap, subst, ◌∙◌, arith}
use Rattle.std.specs.List.{AllZip}

abbrev pub GoneTo : {X : Type 0} → (X → X → Type 0) → ℕ → List X → List X → Type 0
GoneTo R k [] [] = Unit {0}
GoneTo R k [] (y ∷ ys) = ⊥
GoneTo R k (x ∷ xs) [] = ⊥
GoneTo R zero (x ∷ xs) (y ∷ ys) = (y ≡ x) × GoneTo R zero xs ys
GoneTo R (suc k) (x ∷ xs) (y ∷ ys) = R x y × GoneTo R k xs ys

pub gone-none : {X : Type 0} (R : X → X → Type 0) (xs : List X) → GoneTo R 0 xs xs
gone-none R [] = tt
gone-none R (x ∷ xs) = (refl, gone-none R xs)

pub gone-more : {X : Type 0} (R : X → X → Type 0) (xs ys : List X) (k : ℕ) (y z : X) → GoneTo R k xs ys → k < length ys → get_or ys k y ≡ y → R y z → GoneTo R (suc k) xs (set ys k z)
gone-more R [] [] k y z h low at r = absurd (omega (arith, low))
gone-more R [] (w ∷ ys) k y z h low at r = absurd h
gone-more R (x ∷ xs) [] k y z h low at r = absurd h
gone-more R (x ∷ xs) (w ∷ ys) zero y z h low at r = (subst (λ v. R v z) (sym at ∙ h.0) r, h.1)
gone-more R (x ∷ xs) (w ∷ ys) (suc k) y z h low at r = (h.0, gone-more R xs ys k y z h.1 (omega (arith, low)) at r)

pub gone-next : {X : Type 0} (R : X → X → Type 0) (xs ys : List X) (k : ℕ) (y z : X) → GoneTo R k xs ys → k < length ys → y ≡ get_or ys k y → R y z → GoneTo R (k + 1) xs (set ys k z)
gone-next R xs ys k y z h low at r = let next : suc k ≡ k + 1 = omega arith in subst (λ n. GoneTo R n xs (set ys k z)) next (gone-more R xs ys k y z h low (sym at) r)

pub gone-all : {X : Type 0} (R : X → X → Type 0) (xs ys : List X) (k : ℕ) → GoneTo R k xs ys → length ys ≤ k → AllZip R xs ys
gone-all R [] [] k h low = tt
gone-all R [] (y ∷ ys) k h low = absurd h
gone-all R (x ∷ xs) [] k h low = absurd h
gone-all R (x ∷ xs) (y ∷ ys) zero h low = absurd (omega (arith, low))
gone-all R (x ∷ xs) (y ∷ ys) (suc k) h low = (h.0, gone-all R xs ys k h.1 (omega (arith, low)))

pub gone-still : {X : Type 0} (R : X → X → Type 0) → ((x : X) → R x x) → (xs ys : List X) (k : ℕ) → GoneTo R k xs ys → AllZip R xs ys
gone-still R same [] [] k h = tt
gone-still R same [] (y ∷ ys) k h = absurd h
gone-still R same (x ∷ xs) [] k h = absurd h
gone-still R same (x ∷ xs) (y ∷ ys) zero h = (subst (λ v. R x v) (sym h.0) (same x), gone-still R same xs ys zero h.1)
gone-still R same (x ∷ xs) (y ∷ ys) (suc k) h = (h.0, gone-still R same xs ys k h.1)

pub zip-same : {X : Type 0} (R : X → X → Type 0) → ((x : X) → R x x) → (xs : List X) → AllZip R xs xs
zip-same R same [] = tt
zip-same R same (x ∷ xs) = (same x, zip-same R same xs)

pub zip-weaker : {X : Type 0} (P Q : X → X → Type 0) → ((x y : X) → P x y → Q x y) → (xs ys : List X) → AllZip P xs ys → AllZip Q xs ys
zip-weaker P Q f [] [] h = tt
zip-weaker P Q f [] (y ∷ ys) h = absurd h
zip-weaker P Q f (x ∷ xs) [] h = absurd h
zip-weaker P Q f (x ∷ xs) (y ∷ ys) h = (f x y h.0, zip-weaker P Q f xs ys h.1)

pub zip-both : {X : Type 0} (P Q : X → X → Type 0) (xs ys : List X) → AllZip P xs ys → AllZip Q xs ys → AllZip (λ x y. P x y × Q x y) xs ys
zip-both P Q [] [] h i = tt
zip-both P Q [] (y ∷ ys) h i = absurd h
zip-both P Q (x ∷ xs) [] h i = absurd h
zip-both P Q (x ∷ xs) (y ∷ ys) h i = ((h.0, i.0), zip-both P Q xs ys h.1 i.1)

pub zip-then : {X : Type 0} (P Q R : X → X → Type 0) → ((x y z : X) → P x y → Q y z → R x z) → (xs ys zs : List X) → AllZip P xs ys → AllZip Q ys zs → AllZip R xs zs
zip-then P Q R f [] [] [] h i = tt
zip-then P Q R f [] [] (z ∷ zs) h i = absurd i
zip-then P Q R f [] (y ∷ ys) zs h i = absurd h
zip-then P Q R f (x ∷ xs) [] zs h i = absurd h
zip-then P Q R f (x ∷ xs) (y ∷ ys) [] h i = absurd i
zip-then P Q R f (x ∷ xs) (y ∷ ys) (z ∷ zs) h i = (f x y z h.0 i.0, zip-then P Q R f xs ys zs h.1 i.1)

pub gone-length : {X : Type 0} (R : X → X → Type 0) (xs ys : List X) (k : ℕ) → GoneTo R k xs ys → length ys ≡ length xs
gone-length R [] [] k h = refl
gone-length R [] (y ∷ ys) k h = absurd h
gone-length R (x ∷ xs) [] k h = absurd h
gone-length R (x ∷ xs) (y ∷ ys) zero h = ap suc (gone-length R xs ys zero h.1)
gone-length R (x ∷ xs) (y ∷ ys) (suc k) h = ap suc (gone-length R xs ys k h.1)
