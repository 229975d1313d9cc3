use Rattle.std.proofs.Common.{arith}
use Rattle.dpc_model.proofs.WindowCausality.{window_count-le}
use Rattle.ops_window.proofs.cells.Shape.take_rows.Goals as goal

pub take_windows-requires-clause-first : goal.take_windows-requires-clause-first
take_windows-requires-clause-first c =
    let before = c.ended_count-first.ensures in
    let later = window_count-le c.args.self.now.size c.args.self.now.step c.args.begin c.args.end c.requires.step c.requires.order in
    omega (arith, before, later)
