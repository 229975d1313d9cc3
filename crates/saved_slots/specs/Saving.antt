-- What a save finds, and what it leaves.
use Rattle.std.specs.Prelude.{◌≡◌, ◌⊎◌, ◌<◌, ◌≤◌, ◌^◌, ℕ, ◌+◌, Bool, List, length}
use Rattle.disk_model.specs.Disk.{Image, History}
use Rattle.disk_model.specs.Synced.{IsSynced, DiffersWithin}
use Rattle.saved_slots.specs.Slots.{given, number_of, next_of}

-- Nothing changed, or a gate that was open did.
abbrev pub MayBeShut : ℕ → Image → Image → Type 0
MayBeShut at old new = ((i : ℕ) → new i ≡ old i) ⊎ ((old at ≡ 1) × DiffersWithin at 1 old new)

-- the slot is the next one, and this is the next number
pub record IsReady (room : ℕ) (second : Bool) (next_number : ℕ) (payload : List ℕ) (h : History) (image : Image) : Type 0 where
  pub roomy : 64 ≤ room
  pub synced : IsSynced h image
  pub next : next_of (given room image) ≡ second
  pub number : next_number ≡ number_of room image (given room image) + 1
  pub fits : length payload + 32 ≤ room
  pub small : next_number < 2 ^ 64
  pub short : room < 2 ^ 64
