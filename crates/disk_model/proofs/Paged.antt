-- What is read of a page.
use Rattle.std.proofs.Common.{◌≡◌, ℕ, zero, suc, ◌+◌, ◌*◌, ◌/◌, ◌%◌, ◌<◌, ◌≤◌, List, ◌∷◌, length, take, drop, replicate, get_or, Option, Vec, refl, ◌∙◌, ap, arith}
use Rattle.std.proofs.lemmas.List.{get_or-take, get_or-drop, length-take-le, length-drop}
use Rattle.std.proofs.lemmas.Nat.{div-add-mod', div-mul-add, mod-mul-add}
use Rattle.std.specs.BTreeMap.{get}
use Rattle.std.specs.Ordering.{nat_cmp}
use Rattle.std.specs.declared.alloc.Global.{Global}
use Rattle.disk_model.specs.Disk.{Image, part}
use Rattle.disk_model.specs.Paging.{PageMap, byte_in, image_of}
use Rattle.disk_model.proofs.Parts.{part_is}

-- further on in the same page
same_page : (p i : ℕ) → p % 4096 + i < 4096 → (p + i) / 4096 ≡ p / 4096
same_page p i low =
    let place : p + i ≡ p / 4096 * 4096 + (p % 4096 + i) = omega (arith, div-add-mod' p 4096) in
    ap (λ n. n / 4096) place ∙ div-mul-add (p / 4096) 4096 (p % 4096 + i) low

offset_page : (p i : ℕ) → p % 4096 + i < 4096 → (p + i) % 4096 ≡ p % 4096 + i
offset_page p i low =
    let place : p + i ≡ p / 4096 * 4096 + (p % 4096 + i) = omega (arith, div-add-mod' p 4096) in
    ap (λ n. n % 4096) place ∙ mod-mul-add (p / 4096) 4096 (p % 4096 + i) low

part_moved : (a b : Image) (at from n : ℕ) → ((i : ℕ) → i < n → a (at + i) ≡ b (from + i)) → part a at n ≡ part b from n
part_moved a b at from zero each = refl
part_moved a b at from (suc n) each =
    let first : at ≡ at + 0 = omega arith in
    let other : from + 0 ≡ from = omega arith in
    let here : a at ≡ b from = ap a first ∙ each 0 (omega arith) ∙ ap b other in
    let rest : part a (at + 1) n ≡ part b (from + 1) n =
    part_moved a b (at + 1) (from + 1) n (λ i low. let one : at + 1 + i ≡ at + suc i = omega arith in let two : from + suc i ≡ from + 1 + i = omega arith in ap a one ∙ each (suc i) (omega arith) ∙ ap b two) in
    λ i. here i ∷ rest i

pub page_part : (map : PageMap) (place count : ℕ) (o : Option (Vec ℕ Global)) → get nat_cmp map (place / 4096) ≡ o → place % 4096 + count ≤ 4096 → part (image_of map) place count ≡ part (byte_in o) (place % 4096) count
page_part map place count o found fits =
    part_moved (image_of map) (byte_in o) place (place % 4096) count
    (λ i low. let here : place % 4096 + i < 4096 = omega arith in
    (λ j. byte_in (get nat_cmp map (same_page place i here j)) (offset_page place i here j)) ∙ ap (λ (p : Option (Vec ℕ Global)). byte_in p (place % 4096 + i)) found)

pub zeros_part : (at count : ℕ) → part (λ _. 0) at count ≡ replicate count 0
zeros_part at zero = refl
zeros_part at (suc count) = ap (λ (rest : List ℕ). 0 ∷ rest) (zeros_part (at + 1) count)

pub cut_is : (bytes : List ℕ) (from count : ℕ) → from + count ≤ length bytes → take count (drop from bytes) ≡ part (λ k. get_or bytes k 0) from count
cut_is bytes from count within =
    part_is (λ k. get_or bytes k 0) from (take count (drop from bytes)) count (length-take-le count (drop from bytes) (omega (arith, length-drop from bytes)))
    (λ k low. get_or-take count (drop from bytes) k 0 low ∙ get_or-drop from bytes k 0)
