-- Two slots on a disk, and what they stand for.
use Rattle.std.specs.Prelude.{◌≡◌, ℕ, ◌+◌, ◌==◌, nat_lt, nat_le, Bool, true, false, if◌then◌else◌, List, ◌++◌, length, Option, Some, None}
use Rattle.std.specs.Int.{w64, from_be_bytes, to_be_bytes}
use Rattle.disk_model.specs.Disk.{Image, part}

-- where a slot begins: the first at 0, the second behind the first one's room
abbrev pub start_of : ℕ → Bool → ℕ
start_of room second = if second then room else 0

abbrev pub is_open : Image → ℕ → Bool
is_open image at = image at == 1

abbrev pub number_at : Image → ℕ → ℕ
number_at image at = from_be_bytes w64 (part image (at + 16) 8)

abbrev pub length_at : Image → ℕ → ℕ
length_at image at = from_be_bytes w64 (part image (at + 24) 8)

abbrev pub payload_at : Image → ℕ → List ℕ
payload_at image at = part image (at + 32) (length_at image at)

-- the open slot with the greater number, and the first where they are equal
abbrev pub chosen : Bool → Bool → ℕ → ℕ → Option Bool
chosen true true m n = Some (nat_lt m n)
chosen true false m n = Some false
chosen false true m n = Some true
chosen false false m n = None

unfoldable pub given : ℕ → Image → Option Bool
given room image = chosen (is_open image 0) (is_open image room) (number_at image 0) (number_at image room)

pub data Reading : Type 0 where
  Nothing : Reading
  Unreadable : (second : Bool) → Reading
  Holding : (payload : List ℕ) → Reading

unfoldable pub read_slot : ℕ → Image → Bool → Reading
read_slot room image second =
    let at = start_of room second in
    if nat_le (length_at image at + 32) room then Holding (payload_at image at) else Unreadable second

abbrev pub read_given : ℕ → Image → Option Bool → Reading
read_given room image None = Nothing
read_given room image (Some second) = read_slot room image second

-- what an image stands for
abbrev pub read_of : ℕ → Image → Reading
read_of room image = read_given room image (given room image)

-- the number of the slot last given, 0 where there is none
abbrev pub number_of : ℕ → Image → Option Bool → ℕ
number_of room image None = 0
number_of room image (Some second) = number_at image (start_of room second)

-- the slot that the next save goes to: the other one, the first where there is none
abbrev pub next_of : Option Bool → Bool
next_of None = false
next_of (Some second) = if second then false else true

-- number and length
abbrev pub head_of : ℕ → ℕ → List ℕ
head_of number count = to_be_bytes w64 number ++ to_be_bytes w64 count

-- what stands behind the gate's sixteen bytes
abbrev pub written_slot : ℕ → List ℕ → List ℕ
written_slot number payload = head_of number (length payload) ++ payload

abbrev pub slot_number : Bool → ℕ
slot_number second = if second then 1 else 0

-- the slot that is given has no reading, and this is its number
abbrev pub IsBroken : ℕ → Image → ℕ → Type 0
IsBroken room image slot = (second : Bool) × (slot ≡ slot_number second) × (read_of room image ≡ Unreadable second)
