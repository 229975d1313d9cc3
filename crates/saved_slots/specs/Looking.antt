-- What reading leaves of a disk, and what it finds.
use Rattle.std.specs.Prelude.{◌≡◌, ℕ, Option, Some, None, Vec}
use Rattle.std.specs.declared.alloc.Global.{Global}
use Rattle.disk_model.specs.Disk.{Image}
use Rattle.saved_slots.specs.Slots.{is_open, number_at, length_at, Reading, Nothing, Holding}
use Rattle.saved_slots.specs.declared.reads.Header.{Header}

pub record IsHeaderOf (image : Image) (at : ℕ) (header : Header) : Type 0 where
  pub gate : header.opened ≡ is_open image at
  pub number : header.number ≡ number_at image at
  pub count : header.length ≡ length_at image at

-- what was read, as a reading
abbrev pub reading_of : Option (Vec ℕ Global) → Reading
reading_of None = Nothing
reading_of (Some payload) = Holding payload.items
