-- What an image keeps of what another stood for.
use Rattle.std.specs.Prelude.{◌≡◌, ◌⊎◌, ℕ, Bool, List, Some}
use Rattle.disk_model.specs.Disk.{Image}
use Rattle.saved_slots.specs.Slots.{given, number_of, read_of, Reading, Holding}

-- the same slot is given, with its number and what it holds
pub record StandsAlike (room : ℕ) (base image : Image) : Type 0 where
  pub slot : given room image ≡ given room base
  pub number : number_of room image (given room image) ≡ number_of room base (given room base)
  pub reading : read_of room image ≡ read_of room base

-- this slot is given, with this number and payload
pub record HasPoint (room : ℕ) (image : Image) (second : Bool) (n : ℕ) (payload : List ℕ) : Type 0 where
  pub slot : given room image ≡ Some second
  pub number : number_of room image (given room image) ≡ n
  pub reading : read_of room image ≡ Holding payload

-- What a save of the payload may leave: what was kept before, or the payload.
abbrev pub IsOldOrNew : ℕ → Reading → List ℕ → Image → Type 0
IsOldOrNew room kept payload image = (read_of room image ≡ kept) ⊎ (read_of room image ≡ Holding payload)
