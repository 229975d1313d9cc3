-- Parts of a text, one behind another.
use Rattle.std.proofs.Common.{◌≡◌, Bool, false, cond, ℕ, zero, suc, ◌+◌, ◌-◌, List, [], ◌∷◌, ◌++◌, take, length, refl, sym, ap, ◌∙◌, arith, append_assoc, Some, slice_get}
use Rattle.std.specs.Prelude.{flat_map}
use Rattle.std.proofs.lemmas.List.{flat_map_more}

pub two_parts : (old a b : List ℕ) → (old ++ a) ++ b ≡ old ++ (a ++ b)
two_parts old a b = append_assoc old a b

pub three_parts : (old a b c : List ℕ) → ((old ++ a) ++ b) ++ c ≡ old ++ ((a ++ b) ++ c)
three_parts old a b c = simp append_assoc

pub four_parts : (old a b c d : List ℕ) → (((old ++ a) ++ b) ++ c) ++ d ≡ old ++ (((a ++ b) ++ c) ++ d)
four_parts old a b c d = simp append_assoc

pub five_parts : (old a b c d e : List ℕ) → ((((old ++ a) ++ b) ++ c) ++ d) ++ e ≡ old ++ ((((a ++ b) ++ c) ++ d) ++ e)
five_parts old a b c d e = simp append_assoc

-- the whole text, put together part by part
pub all_parts : (head axis lanes marks legend end a b c d e f g : List ℕ) → a ≡ head → b ≡ a ++ axis → c ≡ b ++ lanes → d ≡ c ++ marks → e ≡ d ++ legend → f ≡ e ++ end → g ≡ f ++ 10 ∷ [] →
    g ≡ (((((head ++ axis) ++ lanes) ++ marks) ++ legend) ++ end) ++ 10 ∷ []
all_parts head axis lanes marks legend end a b c d e f g p q r s t u v =
    v ∙ ap (λ (x : List ℕ). x ++ 10 ∷ [])
    (u ∙ ap (λ (x : List ℕ). x ++ end)
    (t ∙ ap (λ (x : List ℕ). x ++ legend) (s ∙ ap (λ (x : List ℕ). x ++ marks) (r ∙ ap (λ (x : List ℕ). x ++ lanes) (q ∙ ap (λ (x : List ℕ). x ++ axis) p)))))

pub take-none : {X : Type 0} (n : ℕ) → ◌≡◌ {A = List X} (take n []) []
take-none zero = refl
take-none (suc n) = refl

-- the first so many of two lists
pub take-both : {X : Type 0} (n : ℕ) (xs ys : List X) → take n xs ++ take (n - length xs) ys ≡ take n (xs ++ ys)
take-both zero [] ys = refl
take-both (suc n) [] ys = let all : suc n - 0 ≡ suc n = omega arith in rw all refl
take-both zero (x ∷ xs) ys = let none : 0 - suc (length xs) ≡ 0 = omega arith in rw none refl
take-both (suc n) (x ∷ xs) ys = let fewer : suc n - suc (length xs) ≡ n - length xs = omega arith in rw fewer (ap (λ zs. x ∷ zs) (take-both n xs ys))

pub take-got : {X : Type 0} (xs : List X) (i : ℕ) (x : X) → slice_get xs i ≡ Some x → take (suc i) xs ≡ take i xs ++ x ∷ []
take-got [] i x e = cc
take-got (y ∷ xs) zero x e = let same : y ≡ x = cc in ap (λ z. z ∷ []) same
take-got (y ∷ xs) (suc i) x e = ap (λ zs. y ∷ zs) (take-got xs i x e)

-- one element more
pub flat-got : {X Y : Type 0} (f : X → List Y) (xs : List X) (i : ℕ) (x : X) → slice_get xs i ≡ Some x → flat_map f (take (i + 1) xs) ≡ flat_map f (take i xs) ++ f x
flat-got f xs i x e =
    let next : i + 1 ≡ suc i = omega arith in
    ap (λ n. flat_map f (take n xs)) next ∙ ap (flat_map f) (take-got xs i x e) ∙ sym (flat_map_more f [] (take i xs) x)

pub seven_parts : (old a b c d e f : List ℕ) → ((((((old ++ a) ++ b) ++ c) ++ d) ++ e) ++ f) ++ 10 ∷ [] ≡ old ++ ((((((a ++ b) ++ c) ++ d) ++ e) ++ f) ++ 10 ∷ [])
seven_parts old a b c d e f = simp append_assoc

-- where it is not left out
pub where_shown : (left_out : Bool) (old part whole : List ℕ) → left_out ≡ false → whole ≡ old ++ part → whole ≡ old ++ cond left_out [] part
where_shown left_out old part whole shown is = is ∙ ap (λ b. old ++ cond b [] part) (sym shown)
