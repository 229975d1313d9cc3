-- The bytes of a frame, and the frame that stands in front of bytes.
use Rattle.std.specs.Prelude.{◌≡◌, ℕ, zero, suc, ◌+◌, ◌-◌, ◌/◌, ◌%◌, ◌^◌, ◌==◌, nat_lt, nat_le, ◌&&◌, not, Bool, true, false, ℤ, pos, negsuc, int_le, if◌then◌else◌, List, [], ◌∷◌, ◌++◌, flat_map, length, take, drop, slice_index, Option, Some, None, Result, Ok, Err}
use Rattle.std.specs.Int.{w64, cast_unsigned, cast_signed}
use Rattle.dpc_lists.specs.Lists.{list_all}
use Rattle.byteorder.specs.Endian.{big_bytes, big_number}
use Rattle.dpc_model.specs.Operators.{tuple_of}
use Rattle.dpc_model.specs.declared.messages.Event.{Event}
use Rattle.dpc_model.specs.declared.messages.Event.TheVariants as entry
use Rattle.dpc_model.specs.declared.tuples.Item.{Item}
use Rattle.dpc_model.specs.declared.tuples.Item.TheVariants as item
use Rattle.dpc_model.specs.declared.tuples.Tuple.{Tuple}
use Rattle.stream_codec.specs.Kinds.{width, holds, byte_of, kind_of, fields, has_columns}
use Rattle.stream_codec.specs.declared.faults.DecodeFault.{DecodeFault}
use Rattle.stream_codec.specs.declared.faults.DecodeFault.TheVariants.{NoMemory, Short, BadKind, BadLength, BadValue}
use Rattle.stream_codec.specs.declared.frames.Frame.{Frame}
use Rattle.stream_codec.specs.declared.frames.Frame.TheVariants as frame
use Rattle.stream_codec.specs.declared.kinds.Kind.{Kind}
use Rattle.stream_codec.specs.declared.kinds.Kind.TheVariants as kind
use Rattle.stream_codec.specs.declared.kinds.Field.{Field}

-- ---- a frame's kind, and what stands in its fields

abbrev pub item_kind : Item → Kind
item_kind (item.Stable k t) = kind.Stable
item_kind (item.Tentative t) = kind.Tentative
item_kind (item.Passed b) = kind.Passed
item_kind (item.Boundary b m) = kind.Boundary
item_kind (item.Undo n) = kind.Undo
item_kind item.RecDone = kind.RecDone

abbrev pub item_numbers : Item → List ℕ
item_numbers (item.Stable k t) = k ∷ t.stime ∷ []
item_numbers (item.Tentative t) = t.stime ∷ []
item_numbers (item.Passed b) = b ∷ []
item_numbers (item.Boundary b m) = b ∷ m ∷ []
item_numbers (item.Undo n) = n ∷ []
item_numbers item.RecDone = []

abbrev pub item_values : Item → List ℤ
item_values (item.Stable k t) = t.vals
item_values (item.Tentative t) = t.vals
item_values _ = []

abbrev pub entry_kind : Event → Kind
entry_kind (entry.Phase p) = kind.Phase
entry_kind (entry.Emit s t) = kind.Emit
entry_kind (entry.Release s t) = kind.Release
entry_kind (entry.Cut a b) = kind.Cut
entry_kind (entry.Heal a b) = kind.Heal
entry_kind (entry.Crash n) = kind.Crash
entry_kind (entry.Restart n inc) = kind.Restart
entry_kind (entry.Deliver k) = kind.Deliver
entry_kind (entry.Tick a now) = kind.Tick
entry_kind (entry.Mill n r) = kind.Mill

abbrev pub entry_numbers : Event → List ℕ
entry_numbers (entry.Phase p) = p ∷ []
entry_numbers (entry.Emit s t) = s ∷ t ∷ []
entry_numbers (entry.Release s t) = s ∷ t ∷ []
entry_numbers (entry.Cut a b) = a ∷ b ∷ []
entry_numbers (entry.Heal a b) = a ∷ b ∷ []
entry_numbers (entry.Crash n) = n ∷ []
entry_numbers (entry.Restart n inc) = n ∷ inc ∷ []
entry_numbers (entry.Deliver k) = k ∷ []
entry_numbers (entry.Tick a now) = a ∷ now ∷ []
entry_numbers (entry.Mill n r) = n ∷ r ∷ []

abbrev pub kind_in : Frame → Kind
kind_in (frame.Item x) = item_kind x
kind_in (frame.Head c) = kind.Head
kind_in (frame.Tail stable bound tentative) = kind.Tail
kind_in (frame.Entry e) = entry_kind e

abbrev pub numbers_in : Frame → List ℕ
numbers_in (frame.Item x) = item_numbers x
numbers_in (frame.Head c) = c ∷ []
numbers_in (frame.Tail stable bound tentative) = stable ∷ bound ∷ tentative ∷ []
numbers_in (frame.Entry e) = entry_numbers e

abbrev pub values_in : Frame → List ℤ
values_in (frame.Item x) = item_values x
values_in _ = []

-- ---- lengths

abbrev pub widths : List Field → ℕ
widths [] = 0
widths (f ∷ fs) = width f + widths fs

-- how many bytes stand in front of a tuple's values, where there is one
abbrev pub fixed_length : Kind → ℕ
fixed_length k = widths (fields k) + (if has_columns k then 1 else 0)

-- whether a frame of a kind may have a length: a tuple has 1 to 8 columns
abbrev pub may_have_length : Kind → ℕ → Bool
may_have_length k n =
    if has_columns k then nat_le (fixed_length k + 8) n && nat_le n (fixed_length k + 64) && (n - fixed_length k) % 8 == 0
    else n == fixed_length k

-- ---- the bytes of a frame

abbrev pub number_bytes : List Field → List ℕ → List ℕ
number_bytes [] ns = []
number_bytes (f ∷ fs) [] = []
number_bytes (f ∷ fs) (n ∷ ns) = big_bytes (width f) n ++ number_bytes fs ns

abbrev pub value_bytes : List ℤ → List ℕ
value_bytes vs = flat_map (λ z. big_bytes 8 (cast_unsigned w64 z)) vs

abbrev pub column_bytes : Kind → List ℤ → List ℕ
column_bytes k vs = if has_columns k then big_bytes 1 (length vs) ++ value_bytes vs else []

abbrev pub body_of : Kind → List ℕ → List ℤ → List ℕ
body_of k ns vs = number_bytes (fields k) ns ++ column_bytes k vs

-- the byte of the kind, the length of what follows in four bytes, the fields, and a tuple's columns
abbrev pub bytes_of_parts : Kind → List ℕ → List ℤ → List ℕ
bytes_of_parts k ns vs = byte_of k ∷ big_bytes 4 (length (body_of k ns vs)) ++ body_of k ns vs

unfoldable pub frame_bytes : Frame → List ℕ
frame_bytes f = bytes_of_parts (kind_in f) (numbers_in f) (values_in f)

-- those of a tuple alone, as of a tentative item
abbrev pub tuple_bytes : Tuple → List ℕ
tuple_bytes t = frame_bytes (frame.Item (item.Tentative t))

-- ---- the frames that can be told by bytes

abbrev pub is_i64 : ℤ → Bool
is_i64 z = int_le (negsuc (2 ^ 63 - 1)) z && int_le z (pos (2 ^ 63 - 1))

abbrev pub all_hold : List Field → List ℕ → Bool
all_hold [] ns = true
all_hold (f ∷ fs) [] = false
all_hold (f ∷ fs) (n ∷ ns) = holds f n && all_hold fs ns

abbrev pub has_some_columns : Kind → List ℤ → Bool
has_some_columns k vs = if has_columns k then nat_le 1 (length vs) && nat_le (length vs) 8 && list_all is_i64 vs else true

-- each number is in its field's range, and a tuple has 1 to 8 columns, each a number of i64
unfoldable pub is_in_range : Frame → Bool
is_in_range f = all_hold (fields (kind_in f)) (numbers_in f) && has_some_columns (kind_in f) (values_in f)

-- ---- the frame that stands in front of bytes, and how many they are, or why there is none

-- the frame of these parts
abbrev pub frame_of : Kind → List ℕ → List ℤ → Frame
frame_of kind.Stable ns vs = frame.Item (item.Stable (slice_index ns 0) (tuple_of (slice_index ns 1) vs))
frame_of kind.Tentative ns vs = frame.Item (item.Tentative (tuple_of (slice_index ns 0) vs))
frame_of kind.Boundary ns vs = frame.Item (item.Boundary (slice_index ns 0) (slice_index ns 1))
frame_of kind.Undo ns vs = frame.Item (item.Undo (slice_index ns 0))
frame_of kind.RecDone ns vs = frame.Item item.RecDone
frame_of kind.Head ns vs = frame.Head (slice_index ns 0)
frame_of kind.Tail ns vs = frame.Tail (slice_index ns 0) (slice_index ns 1) (slice_index ns 2)
frame_of kind.Passed ns vs = frame.Item (item.Passed (slice_index ns 0))
frame_of kind.Phase ns vs = frame.Entry (entry.Phase (slice_index ns 0))
frame_of kind.Deliver ns vs = frame.Entry (entry.Deliver (slice_index ns 0))
frame_of kind.Tick ns vs = frame.Entry (entry.Tick (slice_index ns 0) (slice_index ns 1))
frame_of kind.Mill ns vs = frame.Entry (entry.Mill (slice_index ns 0) (slice_index ns 1))
frame_of kind.Cut ns vs = frame.Entry (entry.Cut (slice_index ns 0) (slice_index ns 1))
frame_of kind.Heal ns vs = frame.Entry (entry.Heal (slice_index ns 0) (slice_index ns 1))
frame_of kind.Crash ns vs = frame.Entry (entry.Crash (slice_index ns 0))
frame_of kind.Restart ns vs = frame.Entry (entry.Restart (slice_index ns 0) (slice_index ns 1))
frame_of kind.Emit ns vs = frame.Entry (entry.Emit (slice_index ns 0) (slice_index ns 1))
frame_of kind.Release ns vs = frame.Entry (entry.Release (slice_index ns 0) (slice_index ns 1))

-- the numbers in the fields, one behind the other
abbrev pub numbers_at : List Field → List ℕ → List ℕ
numbers_at [] bs = []
numbers_at (f ∷ fs) bs = big_number (width f) bs ∷ numbers_at fs (drop (width f) bs)

-- so many values, one behind the other
abbrev pub values_at : ℕ → List ℕ → List ℤ
values_at zero bs = []
values_at (suc c) bs = cast_signed w64 (big_number 8 bs) ∷ values_at c (drop 8 bs)

-- the place of the first field that is out of its range, where the fields begin at a place
abbrev pub bad_place : ℕ → List Field → List ℕ → Option ℕ
bad_place place [] bs = None
bad_place place (f ∷ fs) bs = if holds f (big_number (width f) bs) then bad_place (place + width f) fs (drop (width f) bs) else Some place

-- a tuple of so many columns, behind the fields
abbrev pub columns_at : Kind → ℕ → List ℕ → List ℤ
columns_at k n bs = if has_columns k then values_at ((n - fixed_length k) / 8) (drop (fixed_length k) bs) else []

-- whether the count of columns is not the one that the length says
abbrev pub has_wrong_count : Kind → ℕ → List ℕ → Bool
has_wrong_count k n bs = has_columns k && not (slice_index bs (widths (fields k)) == (n - fixed_length k) / 8)

-- of the n bytes of the fields, and all behind them
abbrev pub decoded_body : Kind → ℕ → List ℕ → Result (Frame × ℕ) DecodeFault
decoded_body k n bs =
    elim (bad_place 5 (fields k) bs) [
      | Some place ↦ Err (BadValue place)
      | None ↦ if has_wrong_count k n bs then Err (BadValue (5 + widths (fields k)))
          else Ok (frame_of k (numbers_at (fields k) bs) (columns_at k n bs), 5 + n)
    ]

abbrev pub decoded_rest : Kind → ℕ → List ℕ → Result (Frame × ℕ) DecodeFault
decoded_rest k n bs =
    if not (may_have_length k n) then Err (BadLength n)
    else if nat_lt (length bs) n then Err Short
    else decoded_body k n bs

abbrev pub decoded_of : Kind → List ℕ → Result (Frame × ℕ) DecodeFault
decoded_of k bs = if nat_lt (length bs) 4 then Err Short else decoded_rest k (big_number 4 bs) (drop 4 bs)

unfoldable pub decoded : List ℕ → Result (Frame × ℕ) DecodeFault
decoded [] = Err Short
decoded (b ∷ bs) = elim (kind_of b) [ None ↦ Err (BadKind b) | Some k ↦ decoded_of k bs ]

-- the frame and its length, or the fault of the bytes; want of memory only where there is a frame
abbrev pub IsDecoding : Result (Frame × ℕ) DecodeFault → Result (Frame × ℕ) DecodeFault → Type 0
IsDecoding told (Ok x) = told ≡ Ok x
IsDecoding told (Err NoMemory) = (x : Frame × ℕ) × (told ≡ Ok x)
IsDecoding told (Err fault) = told ≡ Err fault

-- ---- what the parts of a reader tell

-- these begin with the numbers in the fields, each in its range
pub record AreNumbers (fs : List Field) (bs : List ℕ) (ns : List ℕ) : Type 0 where
  pub size : length ns ≡ 3
  pub good : bad_place 5 fs bs ≡ None
  pub read : take (length fs) ns ≡ numbers_at fs bs

-- the fault names the place of the first field that is out of its range
pub record IsBadField (fs : List Field) (bs : List ℕ) (e : DecodeFault) : Type 0 where
  pub place : ℕ
  pub bad : bad_place 5 fs bs ≡ Some place
  pub told : e ≡ BadValue place

-- these are a tuple's values, and their count is right
pub record AreColumns (k : Kind) (n : ℕ) (bs : List ℕ) (vs : List ℤ) : Type 0 where
  pub right : has_wrong_count k n bs ≡ false
  pub read : vs ≡ columns_at k n bs

-- the count of columns is wrong, and the fault names its place, or it is right, and there is no memory
abbrev pub IsBadCount : Kind → ℕ → List ℕ → DecodeFault → Type 0
IsBadCount k n bs NoMemory = has_wrong_count k n bs ≡ false
IsBadCount k n bs e = (has_wrong_count k n bs ≡ true) × (e ≡ BadValue (5 + widths (fields k)))
