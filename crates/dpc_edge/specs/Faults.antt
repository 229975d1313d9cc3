-- Counts of faults, which stay once they are the greatest u64.
use Rattle.std.specs.Prelude.{◌≡◌, ℕ, ◌+◌, ◌-◌, ◌^◌, ◌<◌, ◌⊎◌, min}

-- the greatest u64
abbrev pub greatest : ℕ
greatest = 2 ^ 64 - 1

-- a count that is raised by one
abbrev pub one_more : ℕ → ℕ
one_more n = min (n + 1) greatest

-- a count rose, or stands at its end
abbrev pub Rises : ℕ → ℕ → Type 0
Rises old new = (old < new) ⊎ ((old ≡ greatest) × (new ≡ greatest))
