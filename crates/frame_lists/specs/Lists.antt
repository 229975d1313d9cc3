-- Frames that stand one behind another.
use Rattle.std.specs.Prelude.{⊤, ◌≡◌, ℕ, zero, suc, Bool, if◌then◌else◌, List, [], ◌∷◌, ◌++◌, flat_map, length, drop, Option, Some, None, Result, Ok, Err, Vec}
use Rattle.std.specs.declared.alloc.Global.{Global}
use Rattle.dpc_model.specs.declared.messages.Event.{Event}
use Rattle.dpc_model.specs.declared.tuples.Item.{Item}
use Rattle.dpc_model.specs.declared.tuples.Item.TheVariants.{Passed}
use Rattle.stream_codec.specs.Frames.{frame_bytes, decoded}
use Rattle.stream_codec.specs.declared.faults.DecodeFault.{DecodeFault}
use Rattle.stream_codec.specs.declared.frames.Frame.{Frame}
use Rattle.stream_codec.specs.declared.frames.Frame.TheVariants as frame
use Rattle.frame_lists.specs.declared.faults.ListFault.{ListFault}
use Rattle.frame_lists.specs.declared.faults.ListFault.TheVariants.{NoMemory, NoFrame}

-- ---- lists of frames

abbrev pub frames_bytes : List Frame → List ℕ
frames_bytes fs = flat_map frame_bytes fs

-- the entries of a journal
unfoldable pub entry_frames : List Event → List ℕ
entry_frames events = flat_map (λ e. frame_bytes (frame.Entry e)) events

-- items
unfoldable pub item_frames : List Item → List ℕ
item_frames items = flat_map (λ i. frame_bytes (frame.Item i)) items

-- ---- what a frame of a sort holds

abbrev pub entry_in : Frame → Option Event
entry_in (frame.Entry e) = Some e
entry_in (frame.Item i) = None
entry_in (frame.Head c) = None
entry_in (frame.Tail stable bound tentative) = None

-- no item but where the plan has passing tells how far tentative output goes
abbrev pub item_in : Bool → Frame → Option Item
item_in passing (frame.Item (Passed b)) = if passing then Some (Passed b) else None
item_in passing (frame.Item i) = Some i
item_in passing (frame.Head c) = None
item_in passing (frame.Tail stable bound tentative) = None
item_in passing (frame.Entry e) = None

-- ---- what the frames of a sort hold that stand one behind another

module _ {T : Type 0} (part : Frame → Option T) where
  -- what a frame holds that was read, and its length
  abbrev pub part_of : Result (Frame × ℕ) DecodeFault → Option (T × ℕ)
  part_of (Err fault) = None
  part_of (Ok x) = elim (part x.0) [ None ↦ None | Some t ↦ Some (t, x.1) ]

  -- what the first frame holds, and its length
  abbrev pub part_at : List ℕ → Option (T × ℕ)
  part_at bytes = part_of (decoded bytes)

  -- behind those before, up to the end of the bytes; or how many stand in front of the place where there is none. A frame has at
  -- least one byte, so that as many steps as there are bytes are enough
  abbrev pub parts_from : ℕ → List T → List ℕ → Result (List T) ℕ
  parts_from steps before [] = Ok before
  parts_from zero before (b ∷ bytes) = Err (length before)
  parts_from (suc steps) before (b ∷ bytes) =
      elim (part_at (b ∷ bytes)) [
        | None ↦ Err (length before)
        | Some x ↦ parts_from steps (before ++ x.0 ∷ []) (drop x.1 (b ∷ bytes))
      ]

  unfoldable pub parts_of : List ℕ → Result (List T) ℕ
  parts_of bytes = parts_from (length bytes) [] bytes

-- ---- what code answers

-- bytes begin with a frame, of whatever sort
abbrev pub BeginWithFrame : List ℕ → Type 0
BeginWithFrame bytes = (x : Frame × ℕ) × (decoded bytes ≡ Ok x)

-- there is no frame of the sort, or memory was wanting, of which `WantsMemory` speaks
abbrev pub IsNone : {T : Type 0} → Option (T × ℕ) → ℕ → ListFault → Type 0
IsNone told count NoMemory = ⊤
IsNone told count (NoFrame n) = (told ≡ None) × (n ≡ count)

-- memory was wanting only where the bytes begin with a frame
abbrev pub WantsMemory : List ℕ → ListFault → Type 0
WantsMemory bytes NoMemory = BeginWithFrame bytes
WantsMemory bytes (NoFrame n) = ⊤

-- all that the bytes hold, or where there is no frame of the sort; want of memory only where the bytes begin with a frame
abbrev pub IsList : {T : Type 0} → Result (List T) ℕ → List ℕ → Result (Vec T Global) ListFault → Type 0
IsList told bytes (Ok parts) = told ≡ Ok parts.items
IsList told bytes (Err NoMemory) = BeginWithFrame bytes
IsList told bytes (Err (NoFrame n)) = told ≡ Err n
