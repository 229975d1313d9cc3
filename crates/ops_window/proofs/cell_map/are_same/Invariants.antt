use Rattle.std.proofs.Common.{◌≡◌, ◌↔◌}
use Rattle.ops_window.proofs.cell_map.are_same.Given as goal

abbrev pub invariant-loop-key : goal.invariant-loop-key
invariant-loop-key l = (l.cells ≡ l.others) ↔ (l.key-iterator ≡ l.rest)
