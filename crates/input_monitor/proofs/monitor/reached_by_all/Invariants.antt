use Rattle.std.proofs.Common.{◌≡◌}
use Rattle.dpc_model.specs.Replicas.{after_count}
use Rattle.dpc_lists.proofs.Mapped.{mapped_to}
use Rattle.input_monitor.proofs.monitor.reached_by_all.Given as goal

abbrev pub invariant-loop-watch : goal.invariant-loop-watch
invariant-loop-watch l = l.watches ≡ mapped_to (after_count l.count) l.watch-index l.fn.watches
