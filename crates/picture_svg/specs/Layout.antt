-- Where things stand: phases from left to right, lanes from top to bottom, and which phases are shown.
use Rattle.std.specs.Prelude.{ℕ, ◌+◌, ◌-◌, ◌*◌, ◌/◌, min, max, List, length}
use Rattle.std.specs.Int.{div_ceil}
use Rattle.dpc_lists.specs.Lists.{nth}
use Rattle.picture_model.specs.declared.columns.Column.{Column}
use Rattle.picture_text.specs.Strips.{no_column}

-- ---- which phases are shown: each where there are at most 600, else each k-th, and the last one

abbrev pub each_of : List Column → ℕ
each_of columns = max 1 (div_ceil (length columns) 600)

abbrev pub count_of : List Column → ℕ
count_of columns = div_ceil (length columns) (each_of columns)

-- the one in the j-th place: the last of so many
abbrev pub column_at : List Column → ℕ → Column
column_at columns j = nth no_column columns (min (each_of columns * j + (each_of columns - 1)) (length columns - 1))

-- ---- from left to right

-- the width of a phase, where so many are shown
abbrev pub step_for : ℕ → ℕ
step_for count = max 6 (min 40 (1200 / max 1 count))

-- where the one in the j-th place begins
abbrev pub left_at : ℕ → ℕ → ℕ
left_at step j = 170 + step * j

-- ---- from top to bottom: events, so many sources, the links, so many replicas, so many clients with twice the height, the legend

abbrev pub source_top : ℕ → ℕ
source_top s = 96 + 24 * s

abbrev pub replica_top : ℕ → ℕ → ℕ
replica_top sources r = source_top sources + 24 * (r + 1)

abbrev pub client_top : ℕ → ℕ → ℕ → ℕ
client_top sources replicas c = replica_top sources replicas + 48 * c

-- how high a part of a whole stands in so much room
abbrev pub height_in : ℕ → ℕ → ℕ → ℕ
height_in room part whole = min room (room * part / whole)
