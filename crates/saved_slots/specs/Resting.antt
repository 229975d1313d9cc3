-- What stands of a `SavedSlots`, in words that crates above cite.
use Rattle.std.specs.Prelude.{◌≡◌, ℕ, Bool, false, Option, List}
use Rattle.disk_model.specs.Disk.{Image, History, LeavesOnly}
use Rattle.disk_model.specs.Synced.{IsSynced}
use Rattle.disk_model.specs.declared.disk.Disk.{Ghosts}
use Rattle.saved_slots.specs.Slots.{given, number_of, read_of, Reading}
use Rattle.saved_slots.specs.Standing.{IsOldOrNew}
use Rattle.saved_slots.specs.declared.slots.SavedSlots.{SavedSlots}

module _ {D : Type 0} {g : Ghosts D} where
  -- its disk
  abbrev pub disk_in : SavedSlots D g → D
  disk_in slots = slots.disk

  -- the bytes that a read of its disk gives
  abbrev pub seen_in : SavedSlots D g → Image
  seen_in slots = g.seen slots.disk

  -- what a crash may leave of its disk, now and at each moment before
  abbrev pub history_in : SavedSlots D g → History
  history_in slots = g.history slots.disk

  -- how often its disk has failed
  abbrev pub faults_in : SavedSlots D g → ℕ
  faults_in slots = g.faults slots.disk

  -- how many bytes a slot has
  abbrev pub room_in : SavedSlots D g → ℕ
  room_in slots = slots.room

  -- the slot that was saved to or given last, whether it is the second one
  abbrev pub slot_in : SavedSlots D g → Option Bool
  slot_in slots = slots.last

  -- the number of the payload that was saved or given last, 0 where there is none
  abbrev pub number_in : SavedSlots D g → ℕ
  number_in slots = slots.number

  -- whether a save was stopped, so that the disk is to be opened again
  abbrev pub must_reopen : SavedSlots D g → Bool
  must_reopen slots = slots.spent

  -- what it keeps: what an opening would read of its disk
  abbrev pub kept_in : SavedSlots D g → Reading
  kept_in slots = read_of slots.room (g.seen slots.disk)

  -- A crash leaves what it keeps, it knows which slot has that, and its disk keeps to the model.
  pub record IsResting (slots : SavedSlots D g) : Type 0 where
    pub honest : g.is_honest slots.disk
    pub synced : IsSynced (g.history slots.disk) (g.seen slots.disk)
    pub fresh : slots.spent ≡ false
    pub slot : given slots.room (g.seen slots.disk) ≡ slots.last
    pub number : number_of slots.room (g.seen slots.disk) slots.last ≡ slots.number

  -- nothing of it changed
  pub record IsUnchanged (old new : SavedSlots D g) : Type 0 where
    pub disk : new.disk ≡ old.disk
    pub last : new.last ≡ old.last
    pub number : new.number ≡ old.number
    pub spent : new.spent ≡ old.spent

  -- A crash at any moment since leaves what was kept, or the payload.
  abbrev pub SavesOver : SavedSlots D g → SavedSlots D g → List ℕ → Type 0
  SavesOver old new payload = LeavesOnly (g.history old.disk) (g.history new.disk) (IsOldOrNew old.room (read_of old.room (g.seen old.disk)) payload)
