use Rattle.std.proofs.Common.{◌≡◌, replicate}
use Rattle.dpc_model.specs.Replicas.{new_watch}
use Rattle.input_monitor.proofs.monitor.Monitor.new.Given as goal

-- so many replicas so far
abbrev pub invariant-loop : goal.invariant-loop
invariant-loop l = l.watches.items ≡ replicate l.counter new_watch
