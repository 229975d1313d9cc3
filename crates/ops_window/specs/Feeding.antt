-- The steps of an aggregate: a tuple is taken into the cells that it lies in, and the cells of windows that ended become rows.
use Rattle.std.specs.Prelude.{ℕ, ◌+◌, ◌-◌, ◌*◌, ◌/◌, ◌==◌, max, nat_lt, nat_le, ℤ, pos, ◌+ℤ◌, Bool, List, [], ◌∷◌, ◌++◌, map, filter, flat_map, Option, Some, None, if◌then◌else◌}
use Rattle.std.specs.Int.{int_min, int_max}
use Rattle.std.specs.List.{fold, range_with_len}
use Rattle.std.specs.Map.{lookup}
use Rattle.std.specs.BTreeMap.{insert_entry, is_at}
use Rattle.std.specs.declared.cmp.Ordering.{Ordering}
use Rattle.std.specs.Ordering.{nat_cmp, int_cmp, ordering_then, is_le}
use Rattle.dpc_model.specs.Values.{column, clamp}
use Rattle.dpc_model.specs.Operators.{tuple_of, window_count}
use Rattle.dpc_model.specs.declared.tuples.Tuple.{Tuple}
use Rattle.dpc_model.specs.declared.operators.Agg.{Agg}
use Rattle.dpc_model.specs.declared.operators.Agg.TheVariants.{Count, Sum, Min, Max}
use Rattle.dpc_model.specs.Fragments.{at_port}
use Rattle.dpc_model.specs.declared.tuples.Tagged.{Tagged}
use Rattle.ops_window.specs.Windows.{Cell, group_of, reach}
use Rattle.ops_window.specs.declared.cells.Shape.{Shape}

-- ---- totals

-- a total over one tuple
abbrev pub first_total : Tuple → Agg → ℤ
first_total t Count = pos 1
first_total t (Sum c) = column t c
first_total t (Min c) = column t c
first_total t (Max c) = column t c

-- a total over one tuple more
abbrev pub next_total : Tuple → Agg → ℤ → ℤ
next_total t Count z = z +ℤ pos 1
next_total t (Sum c) z = z +ℤ column t c
next_total t (Min c) z = int_min z (column t c)
next_total t (Max c) z = int_max z (column t c)

-- each total over one tuple more
abbrev pub next_totals : Tuple → List Agg → List ℤ → List ℤ
next_totals t [] zs = zs
next_totals t (a ∷ aggs) [] = []
next_totals t (a ∷ aggs) (z ∷ zs) = next_total t a z ∷ next_totals t aggs zs

-- the total over the tuples of both
abbrev pub joined_total : Agg → ℤ → ℤ → ℤ
joined_total Count z y = z +ℤ y
joined_total (Sum c) z y = z +ℤ y
joined_total (Min c) z y = int_min z y
joined_total (Max c) z y = int_max z y

abbrev pub joined_totals : List Agg → List ℤ → List ℤ → List ℤ
joined_totals [] zs ys = zs
joined_totals (a ∷ aggs) [] ys = []
joined_totals (a ∷ aggs) (z ∷ zs) [] = z ∷ zs
joined_totals (a ∷ aggs) (z ∷ zs) (y ∷ ys) = joined_total a z y ∷ joined_totals aggs zs ys

-- ---- the cells

-- the order of cells: by begin and then by group
abbrev pub cell_cmp : ℕ × ℤ → ℕ × ℤ → Ordering
cell_cmp x y = ordering_then (nat_cmp x.0 y.0) (int_cmp x.1 y.1)

-- the totals of a cell, where it stands
abbrev pub totals_at : ℕ × ℤ → List Cell → Option (List ℤ)
totals_at key cells = lookup (is_at (cell_cmp key)) cells

-- a cell's totals over one tuple more, where it had some
abbrev pub grown : List Agg → Tuple → Option (List ℤ) → List ℤ
grown aggs t None = map (first_total t) aggs
grown aggs t (Some totals) = next_totals t aggs totals

-- the cells with a tuple taken into one of them
abbrev pub take_cell : List Agg → Tuple → List Cell → ℕ × ℤ → List Cell
take_cell aggs t cells key = insert_entry cell_cmp cells key (grown aggs t (totals_at key cells))

-- the totals of a group of one pane, where it stands
abbrev pub group_totals : ℤ → List (ℤ × List ℤ) → Option (List ℤ)
group_totals group groups = lookup (is_at (int_cmp group)) groups

-- the groups of one pane with a tuple taken into one of them
abbrev pub take_group : List Agg → Tuple → List (ℤ × List ℤ) → ℤ → List (ℤ × List ℤ)
take_group aggs t groups group = insert_entry int_cmp groups group (grown aggs t (group_totals group groups))

-- the numbers of the windows of a size in which a time lies
abbrev pub window_numbers : ℕ → ℕ → ℕ → List ℕ
window_numbers size step time = range_with_len (window_count size step time) (time / step + 1 - window_count size step time)

-- the cells of a size with a tuple taken into each in which it lies
abbrev pub take_tuple : ℕ → ℕ → Option ℕ → List Agg → List Cell → Tuple → List Cell
take_tuple size step group aggs cells t =
    fold (λ cs j. take_cell aggs t cs (j * step, group_of group t)) cells (window_numbers size step t.stime)

-- the cells with these tuples taken in, one after the other
abbrev pub take_tuples : ℕ → ℕ → Option ℕ → List Agg → List Cell → List Tuple → List Cell
take_tuples size step group aggs cells ts = fold (take_tuple size step group aggs) cells ts

-- ---- rows

-- the first cells, as far as their begins pass a test
abbrev pub first_cells : (ℕ → Bool) → List Cell → List Cell
first_cells test [] = []
first_cells test (c ∷ cells) = if test c.0.0 then c ∷ first_cells test cells else []

-- the cells behind those
abbrev pub later_cells : (ℕ → Bool) → List Cell → List Cell
later_cells test [] = []
later_cells test (c ∷ cells) = if test c.0.0 then later_cells test cells else c ∷ cells

-- whether the window that begins at a time ends at or below b
abbrev pub has_ended : ℕ → ℕ → ℕ → Bool
has_ended size b begin = nat_le (begin + size) b

-- the first cells, as far as the windows that begin with them end at or below b
abbrev pub ended_cells : ℕ → ℕ → List Cell → List Cell
ended_cells size b cells = first_cells (has_ended size b) cells

-- the cells behind those
abbrev pub kept_cells : ℕ → ℕ → List Cell → List Cell
kept_cells size b cells = later_cells (has_ended size b) cells

-- a total as its row has it: a sum becomes the nearest value of i64
abbrev pub finished : Agg → ℤ → ℤ
finished Count z = z
finished (Sum c) z = clamp z
finished (Min c) z = z
finished (Max c) z = z

abbrev pub finished_totals : List Agg → List ℤ → List ℤ
finished_totals [] zs = []
finished_totals (a ∷ aggs) [] = []
finished_totals (a ∷ aggs) (z ∷ zs) = finished a z ∷ finished_totals aggs zs

-- what a row has before its totals: the group, where there is a group column
abbrev pub group_values : Option ℕ → ℤ → List ℤ
group_values None z = []
group_values (Some c) z = z ∷ []

-- a cell's row. Its time is the window's end minus 1
abbrev pub cell_row : ℕ → Option ℕ → List Agg → Cell → Tuple
cell_row size group aggs cell =
    tuple_of (cell.0.0 + size - 1) (group_values group cell.0.1 ++ finished_totals aggs cell.1)

-- ---- windows of panes

-- the first cells, as far as they begin below a time
abbrev pub cells_before : ℕ → List Cell → List Cell
cells_before time cells = first_cells (λ begin. nat_lt begin time) cells

-- the cells behind those
abbrev pub cells_behind : ℕ → List Cell → List Cell
cells_behind time cells = later_cells (λ begin. nat_lt begin time) cells

-- totals with others joined in, where there were some
abbrev pub joined : List Agg → List ℤ → Option (List ℤ) → List ℤ
joined aggs ys None = ys
joined aggs ys (Some zs) = joined_totals aggs zs ys

-- the cells of the window that begins at a time, with a pane's cell joined in
abbrev pub join_cell : List Agg → ℕ → List Cell → Cell → List Cell
join_cell aggs begin window c = insert_entry cell_cmp window (begin, c.0.1) (joined aggs c.1 (totals_at (begin, c.0.1) window))

-- the groups of one pane with totals joined into one of them
abbrev pub join_group : List Agg → List ℤ → List (ℤ × List ℤ) → ℤ → List (ℤ × List ℤ)
join_group aggs ys groups group = insert_entry int_cmp groups group (joined aggs ys (group_totals group groups))

-- the cells of the window that begins at a time: those of its first pane, with those of the others joined in
abbrev pub joined_cells : ℕ → ℕ → List Agg → ℕ → List Cell → List Cell
joined_cells size step aggs begin cells =
    fold (join_cell aggs begin) (cells_before (begin + step) (cells_behind begin cells))
    (cells_before (begin + size) (cells_behind (begin + step) cells))

-- the rows of the window of a number, joined from its panes, where it ends at or below b
abbrev pub joined_rows : ℕ → ℕ → Option ℕ → List Agg → ℕ → List Cell → ℕ → List Tuple
joined_rows size step group aggs b cells j =
    map (cell_row size group aggs) (ended_cells size b (joined_cells size step aggs (j * step) cells))

-- the rows of the windows from a number on that end at or below b, joined from their panes
abbrev pub pane_rows : ℕ → ℕ → Option ℕ → List Agg → ℕ → ℕ → List Cell → List Tuple
pane_rows size step group aggs first b cells =
    flat_map (joined_rows size step group aggs b cells) (range_with_len first (window_count size step b - first))

-- the first window from a number on, below another, that has a cell among these
abbrev pub next_window : ℕ → ℕ → ℕ → ℕ → List Cell → Option ℕ
next_window size step number behind [] = None
next_window size step number behind (c ∷ cells) =
    let next = max number (c.0.0 / step - (size / step - 1)) in (if nat_lt next behind then Some next else None)

-- the cells that are left when the windows are gone that end at or below b
abbrev pub left_cells : ℕ → ℕ → ℕ → List Cell → List Cell
left_cells size step b cells =
    if reach size step == size then kept_cells size b cells else cells_behind (window_count size step b * step) cells

-- the rows of the windows that end above b and at or below b'
abbrev pub ended_rows : ℕ → ℕ → Option ℕ → List Agg → ℕ → ℕ → List Cell → List Tuple
ended_rows size step group aggs b b' cells =
    if reach size step == size then map (cell_row size group aggs) (ended_cells size b' cells)
    else pane_rows size step group aggs (window_count size step b) b' cells

-- ---- the cells from one on

abbrev pub first_key : List Cell → Option (ℕ × ℤ)
first_key [] = None
first_key (c ∷ cells) = Some c.0

-- the cells from a key on, and none where there is no key
abbrev pub cells_from : Option (ℕ × ℤ) → List Cell → List Cell
cells_from None cells = []
cells_from (Some key) cells = filter (λ c. is_le (cell_cmp key c.0)) cells

-- ---- of a shape

-- the cells with the tuples of port 0 taken in
abbrev pub fed_cells : Shape → List Cell → List Tagged → List Cell
fed_cells shape cells xs = take_tuples (reach shape.size shape.step) shape.step shape.group shape.aggs cells (at_port 0 xs)

abbrev pub row_of : Shape → Cell → Tuple
row_of shape cell = cell_row shape.size shape.group shape.aggs cell

abbrev pub pane_rows_of : Shape → ℕ → ℕ → List Cell → List Tuple
pane_rows_of shape first b cells = pane_rows shape.size shape.step shape.group shape.aggs first b cells

abbrev pub ended_rows_of : Shape → ℕ → ℕ → List Cell → List Tuple
ended_rows_of shape b b' cells = ended_rows shape.size shape.step shape.group shape.aggs b b' cells
