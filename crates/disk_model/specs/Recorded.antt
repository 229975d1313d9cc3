-- How a call of a disk in memory is answered.
use Rattle.std.specs.Prelude.{◌≡◌, true, false, [], ◌∷◌, ◌++◌, length, Result, Ok, Err}
use Rattle.disk_model.specs.Calls.{is_listed}
use Rattle.disk_model.specs.declared.disk.DiskStop.{DiskStop}
use Rattle.disk_model.specs.declared.disk.DiskStop.TheVariants.{Failed, NoMemory}
use Rattle.disk_model.specs.declared.call.Kind.{Kind}
use Rattle.disk_model.specs.declared.call.Kind.TheVariants.{Sync}
use Rattle.disk_model.specs.declared.mem_disk.MemDisk.{MemDisk}
use Rattle.disk_model.specs.declared.pages.Pages.{Pages}
use Rattle.std.specs.declared.snapshot.Snapshot.{Snapshot}

-- It fails where its number is listed, and nowhere else; a call that finds no memory has no number.
abbrev pub IsAnswered : {T : Type 0} → MemDisk → MemDisk → Kind → Result T DiskStop → Type 0
IsAnswered old new kind (Ok done) = (new.calls.items ≡ old.calls.items ++ record { kind = kind; done = true } ∷ []) × (is_listed old.fails.items (length old.calls.items) ≡ false)
IsAnswered old new kind (Err Failed) = (new.calls.items ≡ old.calls.items ++ record { kind = kind; done = false } ∷ []) × (is_listed old.fails.items (length old.calls.items) ≡ true)
IsAnswered old new kind (Err NoMemory) = new.calls.items ≡ old.calls.items

-- a sync is on record with what could be read then
abbrev pub IsSyncAnswered : {T : Type 0} → MemDisk → MemDisk → Result T DiskStop → Type 0
IsSyncAnswered old new result = (seen : Snapshot Pages) × (seen.value ≡ old.pages) × IsAnswered old new (Sync seen) result
