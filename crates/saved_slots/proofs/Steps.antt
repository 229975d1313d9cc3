-- What an image stands for in each of the three steps of a save.
use Rattle.std.proofs.Common.{◌≡◌, ◌⊎◌, inl, inr, ℕ, ◌+◌, ◌≤◌, Bool, true, false, not, cond, leb, eqb, List, length, Option, Some, None, refl, sym, ◌∙◌, ap, subst, arith}
use Rattle.std.specs.Int.{w64, from_be_bytes}
use Rattle.std.proofs.lemmas.Bool.{cases_Bool, cases_eq, cases_lt, eqb-true, le-leb}
use Rattle.disk_model.specs.Disk.{Image, part}
use Rattle.saved_slots.specs.Slots.{start_of, is_open, number_at, length_at, payload_at, chosen, given, read_slot, read_given, number_of, next_of, Holding, Unreadable}
use Rattle.saved_slots.specs.Standing.{StandsAlike, HasPoint}
use Rattle.disk_model.specs.Synced.{DiffersWithin}
use Rattle.disk_model.proofs.Parts.{part_alike}
use Rattle.saved_slots.proofs.Choices.{shut_first, shut_second, open_first, open_second}
use Rattle.saved_slots.proofs.Parts.{AreAlike, number_alike, open_alike, slot_alike, IsWritten}

module _ (room : ℕ) (roomy : 64 ≤ room) (base image : Image) where
  given_alike : (g : Option Bool) → AreAlike (start_of room (not (next_of g))) room image base → read_given room image g ≡ read_given room base g
  given_alike None alike = refl
  given_alike (Some true) alike = slot_alike room roomy image base true alike
  given_alike (Some false) alike = slot_alike room roomy image base false alike

  numbers_alike : (g : Option Bool) → AreAlike (start_of room (not (next_of g))) room image base → number_of room image g ≡ number_of room base g
  numbers_alike None alike = refl
  numbers_alike (Some true) alike = number_alike room roomy image base room alike
  numbers_alike (Some false) alike = number_alike room roomy image base 0 alike

  stands_alike : given room image ≡ given room base → AreAlike (start_of room (not (next_of (given room base)))) room image base → StandsAlike room base image
  stands_alike same alike = record {
    slot = same;
    number = ap (number_of room image) same ∙ numbers_alike (given room base) alike;
    reading = ap (read_given room image) same ∙ given_alike (given room base) alike;
  }

  shut_given : (t : Bool) → next_of (given room base) ≡ t → AreAlike (start_of room (not t)) room image base → is_open image (start_of room t) ≡ false → given room image ≡ given room base
  unfolding given
  shut_given false next alike shut =
      let other = open_alike room roomy image base room alike in
      (λ i. chosen (shut i) (other i) (number_at image 0) (number_at image room))
      ∙ shut_first (is_open base 0) (is_open base room) (number_at base 0) (number_at base room) (number_at image 0) (number_at image room) next
  shut_given true next alike shut =
      let other = open_alike room roomy image base 0 alike in
      (λ i. chosen (other i) (shut i) (number_at image 0) (number_at image room))
      ∙ shut_second (is_open base 0) (is_open base room) (number_at base 0) (number_at base room) (number_at image 0) (number_at image room) next

  -- a slot that is shut leaves the other one's reading
  pub shut_stands : (t : Bool) → next_of (given room base) ≡ t → AreAlike (start_of room (not t)) room image base → is_open image (start_of room t) ≡ false → StandsAlike room base image
  shut_stands t next alike shut =
      stands_alike (shut_given t next alike shut) (subst (λ (s : Bool). AreAlike (start_of room (not s)) room image base) (sym next) alike)

  opened_given : (t : Bool) → next_of (given room base) ≡ t → AreAlike (start_of room (not t)) room image base → is_open image (start_of room t) ≡ true
      → number_at image (start_of room t) ≡ number_of room base (given room base) + 1 → given room image ≡ Some t
  unfolding given
  opened_given false next alike is more =
      let other = open_alike room roomy image base room alike in
      let number = number_alike room roomy image base room alike in
      (λ i. chosen (is i) (other i) (number_at image 0) (number_at image room))
      ∙ open_first (is_open base 0) (is_open base room) (number_at base 0) (number_at base room) (number_at image 0) (number_at image room) next
      (λ was. let last = ap (number_of room base) was in omega (arith, last, number, more))
  opened_given true next alike is more =
      let other = open_alike room roomy image base 0 alike in
      let number = number_alike room roomy image base 0 alike in
      (λ i. chosen (other i) (is i) (number_at image 0) (number_at image room))
      ∙ open_second (is_open base 0) (is_open base room) (number_at base 0) (number_at base room) (number_at image 0) (number_at image room) next
      (λ was. let last = ap (number_of room base) was in omega (arith, last, number, more))

  -- a slot that is opened with a greater number is given
  pub opened_has : (t : Bool) (payload : List ℕ) → next_of (given room base) ≡ t → AreAlike (start_of room (not t)) room image base → is_open image (start_of room t) ≡ true
      → number_at image (start_of room t) ≡ number_of room base (given room base) + 1 → read_slot room image t ≡ Holding payload
      → HasPoint room image t (number_of room base (given room base) + 1) payload
  opened_has t payload next alike is more holds =
      let slot = opened_given t next alike is more in
      record { slot = slot; number = ap (number_of room image) slot ∙ more; reading = ap (read_given room image) slot ∙ holds }

  alike_elsewhere : (t : Bool) (at n : ℕ) → start_of room t ≤ at → at + n ≤ start_of room t + room → DiffersWithin at n base image → AreAlike (start_of room (not t)) room image base
  alike_elsewhere false at n low high differs = record { each = λ i from to. differs.outside i (inr (omega arith)) }
  alike_elsewhere true at n low high differs = record { each = λ i from to. differs.outside i (inl (omega arith)) }

  same_image : (at : ℕ) → DiffersWithin at 1 base image → image at ≡ base at → (i : ℕ) → image i ≡ base i
  same_image at differs same i = elim (cases_lt i at) [
    | inl below ↦ differs.outside i (inl below)
    | inr above ↦ elim (cases_eq i at) [
      | inl is ↦ ap image is ∙ same ∙ ap base (sym is)
      | inr other ↦ differs.outside i (inr (omega arith))
    ]
  ]

  pub stands_itself : ((i : ℕ) → image i ≡ base i) → StandsAlike room base image
  stands_itself same =
      let whole : image ≡ base = λ j i. same i j in
      subst (λ (other : Image). StandsAlike room base other) (sym whole) (record { slot = refl; number = refl; reading = refl })

  -- the first step: an open gate is shut
  pub first_step : (t : Bool) → next_of (given room base) ≡ t → base (start_of room t) ≡ 1 → DiffersWithin (start_of room t) 1 base image → StandsAlike room base image
  first_step t next was differs = elim (cases_Bool (is_open image (start_of room t))) [
    | inl still ↦ stands_itself (same_image (start_of room t) differs (eqb-true _ _ still ∙ sym was))
    | inr shut ↦ shut_stands t next (alike_elsewhere t (start_of room t) 1 (omega arith) (omega arith) differs) shut
  ]

  -- the second: the slot is filled behind a gate that is shut
  pub second_step : (t : Bool) (n : ℕ) → next_of (given room base) ≡ t → is_open base (start_of room t) ≡ false → n + 16 ≤ room → DiffersWithin (start_of room t + 16) n base image
      → StandsAlike room base image
  second_step t n next shut fits differs =
      let gate : image (start_of room t) ≡ base (start_of room t) = differs.outside (start_of room t) (inl (omega arith)) in
      shut_stands t next (alike_elsewhere t (start_of room t + 16) n (omega arith) (omega arith) differs) (ap (λ (g : ℕ). eqb g 1) gate ∙ shut)

  part_behind : (at from n : ℕ) → at + 1 ≤ from → DiffersWithin at 1 base image → part image from n ≡ part base from n
  part_behind at from n low differs = part_alike image base from n (λ i after to. differs.outside i (inr (omega arith)))

  still_written : (at n : ℕ) (payload : List ℕ) → IsWritten base at n payload → DiffersWithin at 1 base image → IsWritten image at n payload
  still_written at n payload written differs =
      let many : length_at image at ≡ length_at base at = ap (from_be_bytes w64) (part_behind at (at + 24) 8 (omega arith) differs) in
      record {
        number = ap (from_be_bytes w64) (part_behind at (at + 16) 8 (omega arith) differs) ∙ written.number;
        count = many ∙ written.count;
        payload = ap (part image (at + 32)) many ∙ part_behind at (at + 32) (length_at base at) (omega arith) differs ∙ written.payload;
      }

  read_written : (t : Bool) (n : ℕ) (payload : List ℕ) → IsWritten image (start_of room t) n payload → length payload + 32 ≤ room → read_slot room image t ≡ Holding payload
  unfolding read_slot
  read_written t n payload written fits =
      let test : leb (length_at image (start_of room t) + 32) room ≡ true = ap (λ (k : ℕ). leb (k + 32) room) written.count ∙ le-leb _ _ fits in
      ap (λ (b : Bool). cond b (Holding (payload_at image (start_of room t))) (Unreadable t)) test ∙ ap (λ (p : List ℕ). Holding p) written.payload

  pub third_opened : (t : Bool) (payload : List ℕ) → next_of (given room base) ≡ t → IsWritten base (start_of room t) (number_of room base (given room base) + 1) payload → length payload + 32 ≤ room
      → DiffersWithin (start_of room t) 1 base image → is_open image (start_of room t) ≡ true → HasPoint room image t (number_of room base (given room base) + 1) payload
  third_opened t payload next written fits differs is =
      let still = still_written (start_of room t) _ payload written differs in
      opened_has t payload next (alike_elsewhere t (start_of room t) 1 (omega arith) (omega arith) differs) is still.number (read_written t _ payload still fits)

  -- the third: the gate is opened, and a crash leaves it open or not
  pub third_step : (t : Bool) (payload : List ℕ) → next_of (given room base) ≡ t → IsWritten base (start_of room t) (number_of room base (given room base) + 1) payload → length payload + 32 ≤ room
      → DiffersWithin (start_of room t) 1 base image → StandsAlike room base image ⊎ HasPoint room image t (number_of room base (given room base) + 1) payload
  third_step t payload next written fits differs = elim (cases_Bool (is_open image (start_of room t))) [
    | inl is ↦ inr (third_opened t payload next written fits differs is)
    | inr shut ↦ inl (shut_stands t next (alike_elsewhere t (start_of room t) 1 (omega arith) (omega arith) differs) shut)
  ]
