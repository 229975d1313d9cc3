use Rattle.std.proofs.Common.{◌≡◌, ℕ, ◌+◌, ◌*◌, ◌++◌, List, ap, sym, ◌∙◌, arith, map}
use Rattle.std.proofs.lemmas.List.{append-nil, append_assoc}
use Rattle.std.specs.List.{fold}
use Rattle.dpc_model.specs.Operators.{window_count}
use Rattle.dpc_model.specs.declared.tuples.Tuple.{Tuple}
use Rattle.dpc_model.specs.declared.operators.Agg.{Agg}
use Rattle.ops_window.specs.Windows.{Cell}
use Rattle.ops_window.specs.Feeding.{row_of, join_cell, ended_cells, cells_before, cells_behind, next_window, pane_rows_of}
use Rattle.ops_window.proofs.Reach.{step-le, times-le}
use Rattle.ops_window.proofs.Walk.{next-ends, walk-on, walk-end, behind-more}
use Rattle.ops_window.proofs.cells.Shape.take_windows.Goals as goal

pub overflow_mul-begin : goal.overflow_mul-begin
overflow_mul-begin c =
    let end = next-ends c.args.self.now.size c.args.self.now.step c.windows.number c.ended_count-behind.result c.args.end c.windows.cells c.in-Some.next c.requires.step c.ended_count-behind.ensures c.in-Some.ensures in
    omega (arith, end)

pub overflow_add-begin : goal.overflow_add-begin
overflow_add-begin c =
    let end = next-ends c.args.self.now.size c.args.self.now.step c.windows.number c.ended_count-behind.result c.args.end c.windows.cells c.in-Some.next c.requires.step c.ended_count-behind.ensures c.in-Some.ensures in
    let short = step-le c.args.self.now.size c.args.self.now.step c.requires.size c.requires.whole in
    omega (arith, end, short)

pub overflow_add-begin-in-Some : goal.overflow_add-begin-in-Some
overflow_add-begin-in-Some c =
    let end = next-ends c.args.self.now.size c.args.self.now.step c.windows.number c.ended_count-behind.result c.args.end c.windows.cells c.in-Some.next c.requires.step c.ended_count-behind.ensures c.in-Some.ensures in
    omega (arith, end)

pub windows-preserved : goal.windows-preserved
windows-preserved c =
    let self = c.args.self.now in
    let next = c.in-Some.next in
    let rows = c.windows.rows.items in
    let later = pane_rows_of self (next + 1) c.args.end c.args.cells.now in
    let goes =
    walk-on self.size self.step self.group self.aggs c.args.end c.args.cells.now c.windows.number c.requires.size c.requires.step c.requires.whole c.windows.cells c.windows.invariant.cells
    next (ap (λ (n : ℕ). next_window self.size self.step c.windows.number n c.windows.cells) (sym c.ended_count-behind.ensures) ∙ sym c.in-Some.ensures) in
    let joined = λ (aggs : List Agg) (first others : List Cell). fold (join_cell aggs (next * self.step)) first (cells_before (next * self.step + self.size) others) in
    let first = cells_before (next * self.step + self.step) c.windows.cells in
    let others = cells_behind (next * self.step + self.step) c.windows.cells in
    let window : c.join_before.new.window ≡ joined self.aggs first others =
    c.in_ok-join_before.ensures
    ∙ ap (λ (aggs : List Agg). joined aggs c.in_ok-window.window c.take_before-in-Some.new.self) c.as_slice-aggs.ensures
    ∙ ap (λ (cs : List Cell). joined self.aggs cs c.take_before-in-Some.new.self) c.in_ok-window.ensures.taken
    ∙ ap (λ (cs : List Cell). joined self.aggs first cs) c.in_ok-window.ensures.left in
    record {
      rows =
          ap (λ (ts : List Tuple). ts ++ later) (c.in_ok-ended_rows.ensures ∙ ap (λ (cs : List Cell). rows ++ map (row_of self) (ended_cells self.size c.args.end cs)) window)
          ∙ append_assoc rows (map (row_of self) (ended_cells self.size c.args.end (joined self.aggs first others))) later
          ∙ ap (λ (ts : List Tuple). rows ++ ts) (sym goes.rows-are)
          ∙ c.windows.invariant.rows;
      cells = c.in_ok-window.ensures.left ∙ goes.left;
      below = (let high = goes.high in omega (arith, high));
    }

pub returns-clause-rows : goal.returns-clause-rows
returns-clause-rows c =
    let self = c.args.self.now in
    let none =
    walk-end self.size self.step self.group self.aggs c.args.end c.args.cells.now c.windows.number c.requires.size c.requires.step c.requires.whole c.windows.cells c.windows.invariant.cells
    (ap (λ (n : ℕ). next_window self.size self.step c.windows.number n c.windows.cells) (sym c.ended_count-behind.ensures) ∙ sym c.next_window.ensures ∙ c.in_default.is) in
    sym (append-nil c.windows.rows.items) ∙ ap (λ (ts : List Tuple). c.windows.rows.items ++ ts) (sym none) ∙ c.windows.invariant.rows

pub returns-clause-cells : goal.returns-clause-cells
returns-clause-cells c =
    let self = c.args.self.now in
    let cells = c.args.cells.now in
    let behind = window_count self.size self.step c.args.end in
    c.in_ok-take_before-2.ensures.left
    ∙ ap (λ (n : ℕ). cells_behind (n * self.step) c.windows.cells) c.ended_count-behind.ensures
    ∙ ap (λ (cs : List Cell). cells_behind (behind * self.step) cs) c.windows.invariant.cells
    ∙ behind-more (c.windows.number * self.step) (behind * self.step) cells (times-le self.step c.windows.number behind c.windows.invariant.below)
