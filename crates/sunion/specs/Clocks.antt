-- When the first tuple of each bucket came, from a bucket on.
use Rattle.std.specs.Prelude.{⊤, ◌≡◌, ℕ, ◌+◌, ◌-◌, ◌*◌, ◌/◌, ◌<◌, ◌≤◌, nat_lt, if◌then◌else◌, List, [], ◌∷◌, Option, Some, None}
use Rattle.dpc_lists.specs.Lists.{changed}
use Rattle.dpc_model.specs.Due.{Stamps}

-- what a place for each bucket from k on says
abbrev pub stamps_from : ℕ → List (Option ℕ) → Stamps
stamps_from k [] = []
stamps_from k (None ∷ clocks) = stamps_from (k + 1) clocks
stamps_from k (Some at ∷ clocks) = (k, at) ∷ stamps_from (k + 1) clocks

-- a stamp stays
abbrev pub first_stamp : ℕ → Option ℕ → Option ℕ
first_stamp now None = Some now
first_stamp now (Some at) = Some at

-- the places after a tuple of this bucket came
abbrev pub stamped_at : ℕ → ℕ → List (Option ℕ) → ℕ → List (Option ℕ)
stamped_at cursor now clocks bucket = if nat_lt bucket cursor then clocks else changed (bucket - cursor) (first_stamp now) clocks

-- the places after tuples of these times came
abbrev pub stamped : ℕ → ℕ → ℕ → List (Option ℕ) → List ℕ → List (Option ℕ)
stamped width cursor now clocks [] = clocks
stamped width cursor now clocks (time ∷ times) = stamped width cursor now (stamped_at cursor now clocks (time / width)) times

-- a time lies in the bucket that begins there
abbrev pub LiesFrom : Option ℕ → ℕ → ℕ → Type 0
LiesFrom None width time = ⊥
LiesFrom (Some begin) width time = (begin ≤ time) × (time < begin + width)

-- the tuples of the bucket that begins there came
abbrev pub HasStamped : ℕ → ℕ → ℕ → List (Option ℕ) → Option ℕ → Type 0
HasStamped width cursor now clocks None = ⊤
HasStamped width cursor now clocks (Some begin) = (bucket : ℕ) × (begin ≡ bucket * width) × (stamped_at cursor now clocks bucket ≡ clocks)
