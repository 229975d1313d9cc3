-- Writes within a range of a disk of which a crash left what a read gave.
use Rattle.std.specs.Prelude.{◌≡◌, ◌⊎◌, ◌<◌, ◌≤◌, ℕ, ◌+◌}
use Rattle.disk_model.specs.Disk.{Image, Moment, settled, IsOutside, History, LeavesOnly}

-- a crash leaves what a read gives
abbrev pub IsSynced : History → Image → Type 0
IsSynced h image = h.now ≡ settled image

-- nothing but this range may have changed
pub record DiffersWithin (at n : ℕ) (old new : Image) : Type 0 where
  pub outside : (i : ℕ) → (i < at) ⊎ (at + n ≤ i) → new i ≡ old i

-- what was written since the base was synced lies within this range
pub record IsLoose (at n : ℕ) (base : Image) (m : Moment) : Type 0 where
  pub synced : m.synced ≡ base
  pub outside : (i : ℕ) → (i < at) ⊎ (at + n ≤ i) → IsOutside m.loose i

-- so it was at each moment
pub record WritesWithin (at n : ℕ) (base : Image) (old new : History) : Type 0 where
  pub run : LeavesOnly old new (DiffersWithin at n base)
  pub loose : IsLoose at n base new.now

-- From the one to the other nothing was done but writes within this range.
abbrev pub WritesAt : ℕ → ℕ → History → History → Type 0
WritesAt at n old new =
    (begun : History) (base : Image) (from count : ℕ) → from ≤ at → at + n ≤ from + count → WritesWithin from count base begun old → WritesWithin from count base begun new
