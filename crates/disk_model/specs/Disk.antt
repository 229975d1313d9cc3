-- What a disk holds, what a crash may leave of it, and at which moments.
use Rattle.std.specs.Prelude.{◌≡◌, ◌⊎◌, ◌<◌, ◌≤◌, ℕ, zero, suc, ◌+◌, List, [], ◌∷◌, ◌++◌, length, slice_index, Result, IsErrOf}
use Rattle.std.specs.List.{AllByRecursion}
use Rattle.disk_model.specs.declared.disk.DiskStop.{DiskStop}
use Rattle.disk_model.specs.declared.disk.DiskStop.TheVariants.{Failed}

-- the byte at each place
abbrev pub Image : Type 0
Image = ℕ → ℕ

-- so many bytes from a place on
abbrev pub part : Image → ℕ → ℕ → List ℕ
part image at zero = []
part image at (suc n) = image at ∷ part image (at + 1) n

-- these bytes stand at a place of the new image, and elsewhere nothing changed
pub record Holds (old : Image) (at : ℕ) (bytes : List ℕ) (new : Image) : Type 0 where
  pub inside : (i : ℕ) → i < length bytes → new (at + i) ≡ slice_index bytes i
  pub outside : (i : ℕ) → (i < at) ⊎ (at + length bytes ≤ i) → new i ≡ old i

-- what the last successful sync left, and the ranges written since, each by its place and its length
pub record Moment : Type 0 where
  pub synced : Image
  pub loose : List (ℕ × ℕ)

abbrev pub IsOutside : List (ℕ × ℕ) → ℕ → Type 0
IsOutside [] i = Unit {0}
IsOutside (range ∷ ranges) i = ((i < range.0) ⊎ (range.0 + range.1 ≤ i)) × IsOutside ranges i

-- a crash at this moment may leave any bytes in the loose ranges, and elsewhere what was synced
abbrev pub MayLeave : Moment → Image → Type 0
MayLeave m image = (i : ℕ) → IsOutside m.loose i → image i ≡ m.synced i

abbrev pub settled : Image → Moment
settled image = record { synced = image; loose = [] }

-- whether or not the write is done
abbrev pub loosened : ℕ → ℕ → Moment → Moment
loosened at n m = record { synced = m.synced; loose = (at, n) ∷ m.loose }

-- the moment now, and those before it, the newest first
pub record History : Type 0 where
  pub now : Moment
  pub past : List Moment

abbrev pub moments : History → List Moment
moments h = h.now ∷ h.past

abbrev pub after : Moment → History → History
after m h = record { now = m; past = moments h }

-- a call that led to this moment, or one that stopped before it did anything
abbrev pub GoesOn : History → Moment → History → Type 0
GoesOn old m new = (new ≡ old) ⊎ (new ≡ after m old)

-- A crash at any moment from the old history's last one on, up to the new one's, leaves an image with P.
pub record LeavesOnly (old new : History) (P : Image → Type 0) : Type 0 where
  pub since : List Moment
  pub goes_on : moments new ≡ since ++ moments old
  pub first : (image : Image) → MayLeave old.now image → P image
  pub each : AllByRecursion (λ (m : Moment). (image : Image) → MayLeave m image → P image) since

-- `Failed` comes only where the disk has failed
pub record HasCause {T : Type 0} (before now : ℕ) (result : Result T DiskStop) : Type 0 where
  pub later : before ≤ now
  pub failed : IsErrOf result Failed → before < now
