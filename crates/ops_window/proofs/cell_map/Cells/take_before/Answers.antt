use Rattle.std.proofs.Common.{◌∙◌, ap, sym, arith, ℕ, List, []}
use Rattle.ops_window.specs.Windows.{Cell, cells_of_panes}
use Rattle.ops_window.specs.Feeding.{cells_before, cells_behind}
use Rattle.ops_window.proofs.Flat.{Groups, flat-before, flat-behind, below-time, from-time}
use Rattle.ops_window.proofs.cell_map.Cells.take_before.Goals as goal

pub returns-then-time-begin-clause-taken : goal.returns-then-time-begin-clause-taken
returns-then-time-begin-clause-taken c =
    c.new-then-time-begin.ensures
    ∙ flat-before c.args.time [] c.self.inside.panes.entries tt (from-time c.args.time c.in-Some.begin.now _ c.if-time-begin.true c.in-Some.ensures.all_from)
    ∙ ap (λ (cs : List Cell). cells_before c.args.time cs) c.self.view_is

pub returns-then-time-begin-clause-left : goal.returns-then-time-begin-clause-left
returns-then-time-begin-clause-left c =
    sym c.self.view_is
    ∙ flat-behind c.args.time [] c.self.inside.panes.entries tt (from-time c.args.time c.in-Some.begin.now _ c.if-time-begin.true c.in-Some.ensures.all_from)
    ∙ ap (λ (cs : List Cell). cells_behind c.args.time cs) c.self.view_is

pub returns-clause-taken : goal.returns-clause-taken
returns-clause-taken c =
    let below = below-time c.args.time _ c.in_ok-rest.ensures.all_below in
    let from = from-time c.args.time c.args.time _ (omega arith) c.in_ok-rest.ensures.all_from in
    ap (λ m. cells_of_panes m.entries) c.replace.ensures.value
    ∙ flat-before c.args.time _ _ below from
    ∙ ap (λ (ps : List (ℕ × Groups)). cells_before c.args.time (cells_of_panes ps)) (sym c.in_ok-rest.ensures.parts)
    ∙ ap (λ (cs : List Cell). cells_before c.args.time cs) c.self.view_is

pub returns-clause-left : goal.returns-clause-left
returns-clause-left c =
    let below = below-time c.args.time _ c.in_ok-rest.ensures.all_below in
    let from = from-time c.args.time c.args.time _ (omega arith) c.in_ok-rest.ensures.all_from in
    ap (λ m. cells_of_panes m.entries) c.replace.ensures.after
    ∙ flat-behind c.args.time _ _ below from
    ∙ ap (λ (ps : List (ℕ × Groups)). cells_behind c.args.time (cells_of_panes ps)) (sym c.in_ok-rest.ensures.parts)
    ∙ ap (λ (cs : List Cell). cells_behind c.args.time cs) c.self.view_is
