-- What a disk keeps, as a snapshot of a plan's fragment.
use Rattle.std.specs.Prelude.{◌≡◌, ◌⊎◌, ℕ, Bool, Option, Some, None}
use Rattle.dpc_model.specs.declared.plans.Plan.{Plan}
use Rattle.node_model.specs.Stands.{SnapValue}
use Rattle.fragment_mill.specs.Mills.{MillState}
use Rattle.disk_model.specs.Disk.{Image, History, LeavesOnly}
use Rattle.disk_model.specs.declared.disk.Disk.{Ghosts}
use Rattle.saved_slots.specs.Slots.{Reading, Nothing, Unreadable, Holding, given, read_of, slot_number}
use Rattle.saved_slots.specs.Resting as slots
use Rattle.snapshot_form.specs.Reading.{snapshot_in}
use Rattle.saved_point.specs.declared.point.SavedPoint.{SavedPoint}

pub data Kept : Type 0 where
  NoPoint : Kept
  -- a slot is open, and what it holds is no snapshot of the fragment
  Damaged : Kept
  Point : (snapshot : SnapValue MillState) → Kept

-- what was read of bytes
abbrev pub point_read : Option (SnapValue MillState) → Kept
point_read None = Damaged
point_read (Some s) = Point s

-- what a reading is
abbrev pub point_of : Plan → ℕ → Reading → Kept
point_of plan frag Nothing = NoPoint
point_of plan frag (Unreadable second) = Damaged
point_of plan frag (Holding payload) = point_read (snapshot_in plan frag payload)

-- what an image stands for
abbrev pub point_at : Plan → ℕ → ℕ → Image → Kept
point_at plan frag room image = point_of plan frag (read_of room image)

-- what an opening gives
abbrev pub point_given : Option (SnapValue MillState) → Kept
point_given None = NoPoint
point_given (Some s) = Point s

-- the slot of this number is the one that would be given, and it has no reading
pub record IsBroken (plan : Plan) (frag room : ℕ) (image : Image) (slot : ℕ) : Type 0 where
  pub second : Bool
  pub number : slot ≡ slot_number second
  pub given : given room image ≡ Some second
  pub damaged : point_at plan frag room image ≡ Damaged

-- What a save of a snapshot may leave: what was kept before, or the snapshot.
abbrev pub IsOldOrNew : Plan → ℕ → ℕ → Kept → SnapValue MillState → Image → Type 0
IsOldOrNew plan frag room kept s image = (point_at plan frag room image ≡ kept) ⊎ (point_at plan frag room image ≡ Point s)

module _ {D : Type 0} {g : Ghosts D} where
  -- its disk, the bytes that a read of it gives, what a crash may leave of it, and how often it has failed
  abbrev pub disk_in : SavedPoint D g → D
  disk_in p = slots.disk_in p.slots

  abbrev pub seen_in : SavedPoint D g → Image
  seen_in p = slots.seen_in p.slots

  abbrev pub history_in : SavedPoint D g → History
  history_in p = slots.history_in p.slots

  abbrev pub faults_in : SavedPoint D g → ℕ
  faults_in p = slots.faults_in p.slots

  -- how many bytes a slot has
  abbrev pub room_in : SavedPoint D g → ℕ
  room_in p = slots.room_in p.slots

  -- the number of the last save
  abbrev pub number_in : SavedPoint D g → ℕ
  number_in p = slots.number_in p.slots

  -- whether a save was stopped, so that the disk is to be opened again
  abbrev pub must_reopen : SavedPoint D g → Bool
  must_reopen p = slots.must_reopen p.slots

  -- what it keeps: what an opening would read of its disk
  abbrev pub kept_in : Plan → ℕ → SavedPoint D g → Kept
  kept_in plan frag p = point_of plan frag (slots.kept_in p.slots)

  -- A crash leaves what it keeps, it knows which slot has that, and its disk keeps to the model.
  abbrev pub IsResting : SavedPoint D g → Type 0
  IsResting p = slots.IsResting p.slots

  -- nothing of it changed
  abbrev pub IsUnchanged : SavedPoint D g → SavedPoint D g → Type 0
  IsUnchanged old new = slots.IsUnchanged old.slots new.slots

  -- A crash at any moment since leaves what was kept, or the snapshot.
  abbrev pub SavesOver : Plan → ℕ → SavedPoint D g → SavedPoint D g → SnapValue MillState → Type 0
  SavesOver plan frag old new s = LeavesOnly (history_in old) (history_in new) (IsOldOrNew plan frag (room_in old) (kept_in plan frag old) s)
