-- Why a save fails.
use Rattle.std.specs.Prelude.{◌≡◌, ◌⊎◌, ℕ, ◌+◌, nat_lt, Bool, true, false, if◌then◌else◌, Option, Some, None}
use Rattle.disk_model.specs.declared.disk.DiskStop.{DiskStop}
use Rattle.disk_model.specs.declared.disk.DiskStop.TheVariants.{Failed, NoMemory as NoRoom}
use Rattle.saved_slots.specs.declared.fault.SaveFault.{SaveFault}
use Rattle.saved_slots.specs.declared.fault.SaveFault.TheVariants.{NoMemory, DiskFault, Full, Reopen}

abbrev pub fault_of : DiskStop → SaveFault
fault_of NoRoom = NoMemory
fault_of Failed = DiskFault

-- what refuses a save of so many bytes before it begins
abbrev pub refusal_of : Bool → ℕ → ℕ → Option SaveFault
refusal_of true room n = Some Reopen
refusal_of false room n = if nat_lt room (n + 32) then Some (Full (n + 32) room) else None

-- a stop at the disk, or for want of memory
abbrev pub IsStop : SaveFault → Type 0
IsStop fault = (fault ≡ NoMemory) ⊎ (fault ≡ DiskFault)
