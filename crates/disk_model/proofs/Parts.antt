-- Parts of an image, and writes that stand one behind another.
use Rattle.std.proofs.Common.{◌≡◌, inl, inr, ⊎_elim, ℕ, zero, suc, ◌+◌, ◌-◌, ◌<◌, ◌≤◌, List, [], ◌∷◌, ◌++◌, length, take, drop, get_or, refl, sym, ◌∙◌, ap, subst, arith, length-append}
use Rattle.std.proofs.lemmas.List.{length-take-le}
use Rattle.std.proofs.lemmas.Bool.{cases_lt}
use Rattle.std.proofs.lemmas.List.{get_or_append_left, get_or-append_right}
use Rattle.disk_model.specs.Disk.{Image, part, Holds}

pub length-part : (image : Image) (at n : ℕ) → length (part image at n) ≡ n
length-part image at zero = refl
length-part image at (suc n) = ap suc (length-part image (at + 1) n)

pub get-part : (image : Image) (at n i : ℕ) → i < n → get_or (part image at n) i 0 ≡ image (at + i)
get-part image at zero i low = absurd (omega arith)
get-part image at (suc n) zero low = ap image (omega arith)
get-part image at (suc n) (suc i) low = let next : at + 1 + i ≡ at + suc i = omega arith in get-part image (at + 1) n i (omega arith) ∙ ap image next

pub part_is : (image : Image) (at : ℕ) (bytes : List ℕ) (n : ℕ) → length bytes ≡ n → ((k : ℕ) → k < n → get_or bytes k 0 ≡ image (at + k)) → bytes ≡ part image at n
part_is image at [] zero same each = refl
part_is image at [] (suc n) same each = absurd (omega arith)
part_is image at (b ∷ bytes) zero same each = absurd (omega arith)
part_is image at (b ∷ bytes) (suc n) same each =
    let here : b ≡ image at = each 0 (omega arith) ∙ ap image (omega arith) in
    let rest : bytes ≡ part image (at + 1) n = part_is image (at + 1) bytes n (omega arith) (λ k low. each (suc k) (omega arith) ∙ ap image (omega arith)) in
    λ i. here i ∷ rest i

pub part_alike : (a b : Image) (at n : ℕ) → ((i : ℕ) → at ≤ i → i < at + n → a i ≡ b i) → part a at n ≡ part b at n
part_alike a b at zero each = refl
part_alike a b at (suc n) each =
    let here : a at ≡ b at = each at (omega arith) (omega arith) in
    let rest : part a (at + 1) n ≡ part b (at + 1) n = part_alike a b (at + 1) n (λ i low high. each i (omega arith) (omega arith)) in
    λ i. here i ∷ rest i

-- nothing is written
pub holds_none : (a : Image) (at : ℕ) → Holds a at [] a
holds_none a at = record { inside = λ i low. absurd (omega arith); outside = λ i out. refl }

-- one write behind another
pub holds_joined : (a b c : Image) (at next : ℕ) (xs ys : List ℕ) → at + length xs ≡ next → Holds a at xs b → Holds b next ys c → Holds a at (xs ++ ys) c
holds_joined a b c at next xs ys is first second = record {
  inside = λ i low. elim (cases_lt i (length xs)) [
    | inl left ↦ second.outside (at + i) (inl (omega arith)) ∙ first.inside i left ∙ sym (get_or_append_left xs ys 0 i left)
    | inr right ↦
        let place : at + i ≡ next + (i - length xs) = omega arith in
        ap c place ∙ second.inside (i - length xs) (omega (arith, length-append xs ys)) ∙ sym (get_or-append_right xs ys (length xs) i 0 refl right)
  ];
  outside = λ i. ⊎_elim
      (λ below. second.outside i (inl (omega arith)) ∙ first.outside i (inl below))
      (λ above. second.outside i (inr (omega (arith, length-append xs ys))) ∙ first.outside i (inr (omega (arith, length-append xs ys))));
}

take_nil : (n : ℕ) → take {A = ℕ} n [] ≡ []
take_nil zero = refl
take_nil (suc n) = refl

take_on : (n more : ℕ) (xs : List ℕ) → take (n + more) xs ≡ take n xs ++ take more (drop n xs)
take_on zero more xs = let same : 0 + more ≡ more = omega arith in ap (λ k. take k xs) same
take_on (suc n) more [] = take_nil (suc n + more) ∙ sym (take_nil more)
take_on (suc n) more (x ∷ xs) = let next : suc n + more ≡ suc (n + more) = omega arith in ap (λ k. take k (x ∷ xs)) next ∙ ap (λ (rest : List ℕ). x ∷ rest) (take_on n more xs)

-- one part more is written
pub put_on : (a b c : Image) (at done more : ℕ) (bytes : List ℕ) → done ≤ length bytes → Holds a at (take done bytes) b → Holds b (at + done) (take more (drop done bytes)) c → Holds a at (take (done + more) bytes) c
put_on a b c at done more bytes low first second =
    subst (λ (xs : List ℕ). Holds a at xs c) (sym (take_on done more bytes))
    (holds_joined a b c at (at + done) (take done bytes) (take more (drop done bytes)) (omega (arith, length-take-le done bytes low)) first second)

-- one part more is read
pub filled_more : (image : Image) (at done next : ℕ) (old new : List ℕ) → done ≤ next → ((k : ℕ) → k < done → get_or old k 0 ≡ image (at + k))
    → Holds (λ k. get_or old k 0) done (part image (at + done) (next - done)) (λ k. get_or new k 0) → (k : ℕ) → k < next → get_or new k 0 ≡ image (at + k)
filled_more image at done next old new low so_far holds k under = elim (cases_lt k done) [
  | inl before ↦ holds.outside k (inl before) ∙ so_far k before
  | inr from ↦
      let here : done + (k - done) ≡ k = omega arith in
      let place : at + done + (k - done) ≡ at + k = omega arith in
      ap (λ j. get_or new j 0) (sym here) ∙ holds.inside (k - done) (omega (arith, length-part image (at + done) (next - done)))
      ∙ get-part image (at + done) (next - done) (k - done) (omega arith) ∙ ap image place
]
