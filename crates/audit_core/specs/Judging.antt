-- Rows beside the recorded tuples of their numbers, one behind another.
use Rattle.std.specs.Prelude.{⊤, ◌≡◌, ◌≢◌, ℕ, ◌<◌, ◌≤◌, List, ◌++◌, length, take, Option, Some, None, slice_get}
use Rattle.dpc_model.specs.declared.tuples.Tuple.{Tuple}
use Rattle.audit_core.specs.Audits.{first_difference}
use Rattle.audit_core.specs.declared.judging.Found.{Found}
use Rattle.audit_core.specs.declared.judging.Found.TheVariants as found
use Rattle.audit_core.specs.declared.reading.Recorded.{Recorded}

-- a row is told as another one, or memory was wanting for it
abbrev pub IsOther : Tuple → Found → Type 0
IsOther row (found.Other t) = t ≡ row
IsOther row found.NoMemory = ⊤
IsOther row found.Same = ⊥
IsOther row found.Longer = ⊥

-- a row differs from what is recorded of its number
abbrev pub Differs : ℕ → Option Tuple → Tuple → Type 0
Differs bound None row = row.stime < bound
Differs bound (Some had) row = had ≢ row

-- what a row of a number is
abbrev pub IsFound : Recorded → ℕ → Tuple → Found → Type 0
IsFound v n row found.Same = slice_get v.stable.items n ≡ Some row
IsFound v n row found.Longer = (slice_get v.stable.items n ≡ None) × (v.bound ≤ row.stime)
IsFound v n row (found.Other t) = (t ≡ row) × Differs v.bound (slice_get v.stable.items n) row
IsFound v n row found.NoMemory = ⊤

-- what some rows are, the first n of them being the recorded ones: all are; or, whatever comes behind them, there is no difference, or
-- this is the first one; or memory was wanting
abbrev pub AreFound : Recorded → ℕ → Found → List Tuple → Type 0
AreFound v n found.Same rows = (n ≡ length rows) × (rows ≡ take n v.stable.items)
AreFound v n found.Longer rows = (more : List Tuple) → first_difference v.bound 0 v.stable.items (rows ++ more) ≡ None
AreFound v n (found.Other t) rows =
    (more : List Tuple) → first_difference v.bound 0 v.stable.items (rows ++ more) ≡ Some (n, slice_get v.stable.items n, Some t)
AreFound v n found.NoMemory rows = ⊤
