use Rattle.std.proofs.Common.{◌≡◌, length}
use Rattle.ops_window.specs.Windows.{cells_left}
use Rattle.ops_window.proofs.cell_map.IterIterator.next.Given as goal

abbrev pub invariant-panes : goal.invariant-panes
invariant-panes l = cells_left l.self-inside.begin l.self-inside.groups l.self-inside.panes ≡ l.fn.self

abbrev pub decreases-panes : goal.decreases-panes
decreases-panes l = length l.self-inside.panes
