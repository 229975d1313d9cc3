use Rattle.std.proofs.Common.{◌≡◌}
use Rattle.dpc_model.specs.Replicas.{after_tick}
use Rattle.dpc_lists.proofs.Mapped.{mapped_to}
use Rattle.input_monitor.proofs.monitor.tick_all.Given as goal

abbrev pub invariant-loop-watch : goal.invariant-loop-watch
invariant-loop-watch l = l.watches ≡ mapped_to after_tick l.watch-index l.fn.watches
