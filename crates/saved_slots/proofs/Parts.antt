-- Parts of images that are alike, and what a write puts into them.
use Rattle.std.proofs.Common.{◌≡◌, inl, inr, ℕ, suc, ◌+◌, ◌-◌, ◌^◌, ◌<◌, ◌≤◌, Bool, cond, leb, eqb, List, [], ◌∷◌, ◌++◌, length, get_or, refl, sym, ◌∙◌, ap, arith, length-append}
use Rattle.std.proofs.lemmas.Bool.{leb-true, cases_Bool}
use Rattle.std.proofs.lemmas.List.{get_or_append_left, get_or-append_right}
use Rattle.std.proofs.lemmas.Nat.{from_be_bytes-to_be_bytes_8}
use Rattle.std.specs.Int.{w64, to_be_bytes, from_be_bytes}
use Rattle.disk_model.specs.Disk.{Image, part}
use Rattle.disk_model.proofs.Parts.{part_alike}
use Rattle.saved_slots.specs.Slots.{start_of, is_open, number_at, length_at, payload_at, read_slot, Holding, Unreadable, head_of, written_slot}

-- alike in so many places from one on
pub record AreAlike (at n : ℕ) (a b : Image) : Type 0 where
  pub each : (i : ℕ) → at ≤ i → i < at + n → a i ≡ b i

module _ (room : ℕ) (roomy : 64 ≤ room) (a b : Image) where
  pub number_alike : (at : ℕ) → AreAlike at room a b → number_at a at ≡ number_at b at
  number_alike at alike = ap (from_be_bytes w64) (part_alike a b (at + 16) 8 (λ i low high. alike.each i (omega arith) (omega arith)))

  pub length_alike : (at : ℕ) → AreAlike at room a b → length_at a at ≡ length_at b at
  length_alike at alike = ap (from_be_bytes w64) (part_alike a b (at + 24) 8 (λ i low high. alike.each i (omega arith) (omega arith)))

  pub open_alike : (at : ℕ) → AreAlike at room a b → is_open a at ≡ is_open b at
  open_alike at alike = ap (λ (gate : ℕ). eqb gate 1) (alike.each at (omega arith) (omega arith))

  payload_alike : (at : ℕ) → AreAlike at room a b → length_at b at + 32 ≤ room → payload_at a at ≡ payload_at b at
  payload_alike at alike fits =
      ap (part a (at + 32)) (length_alike at alike) ∙ part_alike a b (at + 32) (length_at b at) (λ i low high. alike.each i (omega arith) (omega arith))

  pub slot_alike : (second : Bool) → AreAlike (start_of room second) room a b → read_slot room a second ≡ read_slot room b second
  unfolding read_slot
  slot_alike second alike =
      let at = start_of room second in
      let same = length_alike at alike in
      ap (λ (n : ℕ). cond (leb (n + 32) room) (Holding (payload_at a at)) (Unreadable second)) same
      ∙ elim (cases_Bool (leb (length_at b at + 32) room)) [
        | inl fits ↦ ap (λ (p : List ℕ). cond (leb (length_at b at + 32) room) (Holding p) (Unreadable second)) (payload_alike at alike (leb-true _ _ fits))
        | inr not_so ↦
            ap (λ (test : Bool). cond test (Holding (payload_at a at)) (Unreadable second)) not_so
            ∙ sym (ap (λ (test : Bool). cond test (Holding (payload_at b at)) (Unreadable second)) not_so)
      ]

-- these bytes stand from a place on
pub record Stand (image : Image) (at : ℕ) (bytes : List ℕ) : Type 0 where
  pub each : (i : ℕ) → i < length bytes → image (at + i) ≡ get_or bytes i 0

stand_front : (image : Image) (at : ℕ) (xs ys : List ℕ) → Stand image at (xs ++ ys) → Stand image at xs
stand_front image at xs ys all = record { each = λ i low. all.each i (omega (arith, length-append xs ys)) ∙ get_or_append_left xs ys 0 i low }

stand_back : (image : Image) (at next : ℕ) (xs ys : List ℕ) → at + length xs ≡ next → Stand image at (xs ++ ys) → Stand image next ys
stand_back image at next xs ys is all = record {
  each = λ i low.
      let here : next + i ≡ at + (length xs + i) = omega arith in
      let back : length xs + i - length xs ≡ i = omega arith in
      ap image here ∙ all.each (length xs + i) (omega (arith, length-append xs ys)) ∙ get_or-append_right xs ys (length xs) (length xs + i) 0 refl (omega arith) ∙ ap (λ (k : ℕ). get_or ys k 0) back;
}

part_stands : (image : Image) (at : ℕ) (bytes : List ℕ) → Stand image at bytes → part image at (length bytes) ≡ bytes
part_stands image at [] all = refl
part_stands image at (b ∷ bytes) all =
    let same : at ≡ at + 0 = omega arith in
    let here : image at ≡ b = ap image same ∙ all.each 0 (omega arith) in
    let shifted : Stand image (at + 1) bytes = record { each = λ i low. let next : at + 1 + i ≡ at + suc i = omega arith in ap image next ∙ all.each (suc i) (omega arith) } in
    let rest : part image (at + 1) (length bytes) ≡ bytes = part_stands image (at + 1) bytes shifted in
    λ i. here i ∷ rest i

pub length-head : (n count : ℕ) → length (head_of n count) ≡ 16
length-head n count = omega (arith, length-append (to_be_bytes w64 n) (to_be_bytes w64 count))

-- what a slot holds once number, length and payload are written
pub record IsWritten (image : Image) (at n : ℕ) (bytes : List ℕ) : Type 0 where
  pub number : number_at image at ≡ n
  pub count : length_at image at ≡ length bytes
  pub payload : payload_at image at ≡ bytes

pub is_written : (image : Image) (at n : ℕ) (bytes : List ℕ) → n < 2 ^ 64 → length bytes < 2 ^ 64 → Stand image (at + 16) (written_slot n bytes) → IsWritten image at n bytes
is_written image at n bytes small short all =
    let head = stand_front image (at + 16) (head_of n (length bytes)) bytes all in
    let last = stand_back image (at + 16) (at + 32) (head_of n (length bytes)) bytes (omega (arith, length-head n (length bytes))) all in
    let front = stand_front image (at + 16) (to_be_bytes w64 n) (to_be_bytes w64 (length bytes)) head in
    let middle = stand_back image (at + 16) (at + 24) (to_be_bytes w64 n) (to_be_bytes w64 (length bytes)) (omega arith) head in
    let many : length_at image at ≡ length bytes = ap (from_be_bytes w64) (part_stands image (at + 24) _ middle) ∙ from_be_bytes-to_be_bytes_8 (length bytes) short in
    record {
      number = ap (from_be_bytes w64) (part_stands image (at + 16) _ front) ∙ from_be_bytes-to_be_bytes_8 n small;
      count = many;
      payload = ap (part image (at + 32)) many ∙ part_stands image (at + 32) bytes last;
    }
