-- The picture as strips: one for each phase, a letter for each row.
use Rattle.std.specs.Prelude.{ℕ, zero, suc, ◌+◌, Bool, false, ◌==◌, nat_lt, min, if◌then◌else◌, List, [], ◌∷◌, ◌++◌, map, flat_map, length, drop, bytes_eq}
use Rattle.dpc_lists.specs.Lists.{nth, range_with_len}
use Rattle.picture_model.specs.Points.{first_point}
use Rattle.picture_model.specs.declared.columns.Column.{Column}
use Rattle.picture_model.specs.declared.columns.SourcePoint.{SourcePoint}
use Rattle.picture_model.specs.declared.columns.ClientPoint.{ClientPoint}
use Rattle.picture_text.specs.Signs.{number_signs, source_sign, link_sign, state_sign, client_sign, reads_sign}

-- its letters from top to bottom; none where it stands for phases that are left out
abbrev pub Strip : Type 0
Strip = List ℕ

-- ---- what is before the first phase

abbrev pub first_client : ClientPoint
first_client = record { stable = 0; bound = 0; tentative = 0; undos = 0; dones = 0; reads = 0; settled = false }

abbrev pub no_column : Column
no_column = record { number = 0; clock = 0; sources = []; replicas = []; clients = []; cuts = 0; marks = [] }

-- ---- the strip of a phase

-- the letter of the source at place i, by the phase before and this one
abbrev pub source_at : ℕ → List SourcePoint → List SourcePoint → ℕ → ℕ
source_at end before now i = source_sign end (nth first_point before i) (nth first_point now i)

abbrev pub client_at : List ClientPoint → List ClientPoint → ℕ → List ℕ
client_at before now i =
    let x = nth first_client now i in client_sign (nth first_client before i) x ∷ reads_sign x ∷ []

-- the phase's number, the sources, the links, the replicas, and two letters for each client
abbrev pub strip_of : ℕ → Column → Column → Strip
strip_of end before now =
    number_signs now.number ++ map (source_at end before.sources now.sources) (range_with_len 0 (length now.sources))
    ++ link_sign now.cuts ∷ [] ++ map state_sign now.replicas
    ++ flat_map (client_at before.clients now.clients) (range_with_len 0 (length now.clients))

-- the column before the one at place i
abbrev pub column_before : List Column → ℕ → Column
column_before columns zero = no_column
column_before columns (suc i) = nth no_column columns i

abbrev pub strip_at : ℕ → List Column → ℕ → Strip
strip_at end columns i = strip_of end (column_before columns i) (nth no_column columns i)

-- the strips of all phases
abbrev pub all_strips : ℕ → List Column → List Strip
all_strips end columns = map (strip_at end columns) (range_with_len 0 (length columns))

-- ---- quiet stretches

-- two strips look the same but for their numbers
abbrev pub looks_same : Strip → Strip → Bool
looks_same s t = bytes_eq (drop 4 s) (drop 4 t)

-- how many strips directly before the one at place i look like it, 4 where there are more
abbrev pub alike_before : List Strip → ℕ → ℕ
alike_before strips zero = 0
alike_before strips (suc i) = if looks_same (nth [] strips i) (nth [] strips (suc i)) then min 4 (alike_before strips i + 1) else 0

-- three that look the same are shown, and one without letters stands for the others
abbrev pub shown : ℕ → Strip → List Strip
shown alike strip = if nat_lt alike 3 then strip ∷ [] else (if alike == 3 then [] ∷ [] else [])

abbrev pub shown_at : List Strip → ℕ → List Strip
shown_at strips i = shown (alike_before strips i) (nth [] strips i)

abbrev pub folded : List Strip → List Strip
folded strips = flat_map (shown_at strips) (range_with_len 0 (length strips))

unfoldable pub strips_of : ℕ → List Column → List Strip
strips_of end columns = folded (all_strips end columns)
