use Rattle.std.proofs.Common.{◌≡◌, take, length, ◌≤◌}
use Rattle.dpc_model.specs.Sessions.{stable_items}
use Rattle.source_core.proofs.remade.behind_stable.Given as goal

abbrev pub invariant-loop-i : goal.invariant-loop-i
invariant-loop-i l = record {
  room : length l.tuples ≤ length l.items;
  same : take l.i l.items ≡ stable_items l.first (take l.i l.tuples);
}
