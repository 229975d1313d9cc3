use Rattle.std.proofs.Common.{All}
use Rattle.ops_window.specs.Saving.{all_saved}
use Rattle.snapshot_form.specs.Savable.{IsCell}
use Rattle.snapshot_types.proofs.cells_fit.Given as goal

-- where those that are left fit, all do
abbrev pub invariant-loop-key : goal.invariant-loop-key
invariant-loop-key l = All IsCell (all_saved l.key-iterator) → All IsCell (all_saved l.cells)
