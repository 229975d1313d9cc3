-- The cells that an aggregate can have kept, as a test, and an aggregate of such cells.
use Rattle.std.specs.Prelude.{ℕ, ◌+◌, ◌%◌, ◌==◌, ℤ, pos, Bool, true, false, ◌&&◌, nat_lt, List, [], ◌∷◌, map, length, Option, Some, None}
use Rattle.std.specs.Ordering.{int_eq, is_lt}
use Rattle.dpc_model.specs.declared.operators.Agg.{Agg}
use Rattle.ops_window.specs.Windows.{Cell as Kept, AggregateState}
use Rattle.ops_window.specs.Feeding.{cell_cmp}
use Rattle.ops_window.specs.declared.saved.Cell.{Cell}

-- a cell as an aggregate keeps it, and as it is saved
abbrev pub kept_of : Cell → Kept
kept_of c = ((c.begin, c.group), c.totals)

abbrev pub saved_of : Kept → Cell
saved_of c = record { begin = c.0.0; group = c.0.1; totals = c.1 }

abbrev pub all_kept : List Cell → List Kept
all_kept cells = map kept_of cells

abbrev pub all_saved : List Kept → List Cell
all_saved cells = map saved_of cells

-- whether a group may be: 0 alone where there is no group column
abbrev pub can_be_group : Option ℕ → ℤ → Bool
can_be_group None z = int_eq z (pos 0)
can_be_group (Some c) z = true

-- whether a cell is of a pane or window that is needed where the next bucket begins at b, and has a total for each aggregate:
-- it begins at a step, below b, and the window that begins with it ends above b
abbrev pub can_wait : ℕ → ℕ → Option ℕ → List Agg → ℕ → Cell → Bool
can_wait size step group aggs b c =
    ((c.begin % step == 0) && (nat_lt c.begin b && nat_lt b (c.begin + size))) && (can_be_group group c.group && (length c.totals == length aggs))

-- whether a key stands behind that of the cell before, if there is one
abbrev pub stands_behind : Option (ℕ × ℤ) → ℕ × ℤ → Bool
stands_behind None key = true
stands_behind (Some last) key = is_lt (cell_cmp last key)

-- whether each cell can wait, in strict order of begin and group behind this key
abbrev pub can_wait_from : ℕ → ℕ → Option ℕ → List Agg → ℕ → Option (ℕ × ℤ) → List Cell → Bool
can_wait_from size step group aggs b last [] = true
can_wait_from size step group aggs b last (c ∷ cells) =
    (stands_behind last (c.begin, c.group) && can_wait size step group aggs b c) && can_wait_from size step group aggs b (Some (c.begin, c.group)) cells

-- whether an aggregate may hold these cells where the next bucket begins at b
abbrev pub can_all_wait : ℕ → ℕ → Option ℕ → List Agg → ℕ → List Cell → Bool
can_all_wait size step group aggs b cells = can_wait_from size step group aggs b None cells

-- an aggregate with these cells, before bucket `next`
abbrev pub resumed_aggregate : AggregateState → ℕ → List Cell → AggregateState
resumed_aggregate a next cells = record {
  size = a.size;
  step = a.step;
  group = a.group;
  aggs = a.aggs;
  width = a.width;
  cells = all_kept cells;
  next = next;
  spent = false;
}
