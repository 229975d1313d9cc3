use Rattle.std.proofs.Common.{ℕ, length, List, ◌∙◌, ap, arith}
use Rattle.ops_window.specs.Windows.{Cell, cells_of_panes}
use Rattle.ops_window.proofs.Flat.{Groups, flat-length}
use Rattle.ops_window.proofs.cell_map.Cells.len.Goals as goal

pub loop-pane-init : goal.loop-pane-init
loop-pane-init c =
    let all =
    ap (λ (ps : List (ℕ × Groups)). length (cells_of_panes ps)) (c.into_iter-pane-iterator.ensures.into_iter_gives ∙ c.iter-pane-items.ensures.rest)
    ∙ ap (λ (cs : List Cell). length cs) c.self.view_is in
    record { sum = omega (arith, all); fits = omega arith }

pub loop-pane-preserved : goal.loop-pane-preserved
loop-pane-preserved c =
    let more =
    ap (λ (ps : List (ℕ × Groups)). length (cells_of_panes ps)) c.in-Some.ensures.steps
    ∙ flat-length c.in-Some.field-0-0.now c.in-Some.pane.now c.next.new.self in
    let pane = c.len.ensures in
    let sum = c.saturating_add-count.ensures in
    let before = c.loop-pane.invariant.sum in
    record { sum = omega (arith, more, pane, sum, before); fits = omega (arith, sum) }

pub returns : goal.returns
returns c =
    let none = ap (λ (ps : List (ℕ × Groups)). length (cells_of_panes ps)) c.in-None.ensures.steps.0 in
    let small = c.loop-pane.invariant.fits in
    let before = c.loop-pane.invariant.sum in
    omega (arith, none, small, before)
