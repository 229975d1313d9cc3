use Rattle.std.proofs.Common.{◌≡◌, ℕ, ◌-◌, ◌++◌, List, nat_lt, map, ◌∙◌, ap, rules}
use Rattle.ops_window.specs.Windows.{Cell}
use Rattle.ops_window.specs.Feeding.{row_of, has_ended, ended_cells, cells_before, cells_behind}
use Rattle.ops_window.proofs.Kept.{first-same, later-same, ended-early}
use Rattle.ops_window.proofs.cells.Shape.take_ended.Goals as goal

pub returns-clause-rows : goal.returns-clause-rows
returns-clause-rows c =
    let self = c.args.self.now in
    let cells = c.args.cells.now in
    let time : c.saturating_sub.result ≡ c.args.end - (self.size - 1) = search rules in
    c.in_ok-ended_rows.ensures
    ∙ ap (λ (cs : List Cell). c.args.rows.now.items ++ map (row_of self) (ended_cells self.size c.args.end cs))
    (c.in_ok-ended.ensures.taken
    ∙ ap (λ (n : ℕ). cells_before n cells) time)
    ∙ ap (λ (cs : List Cell). c.args.rows.now.items ++ map (row_of self) cs)
    (first-same (has_ended self.size c.args.end) (λ n. nat_lt n (c.args.end - (self.size - 1))) (λ n. ended-early self.size c.args.end n c.requires) cells)

pub returns-clause-cells : goal.returns-clause-cells
returns-clause-cells c =
    let self = c.args.self.now in
    let cells = c.args.cells.now in
    let time : c.saturating_sub.result ≡ c.args.end - (self.size - 1) = search rules in
    c.in_ok-ended.ensures.left
    ∙ ap (λ (n : ℕ). cells_behind n cells) time
    ∙ later-same (has_ended self.size c.args.end) (λ n. nat_lt n (c.args.end - (self.size - 1))) (λ n. ended-early self.size c.args.end n c.requires) cells
