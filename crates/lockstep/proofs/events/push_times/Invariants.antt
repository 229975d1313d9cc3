use Rattle.std.proofs.Common.{◌≡◌, ◌++◌, replicate}
use Rattle.lockstep.proofs.events.push_times.Given as goal

abbrev pub invariant-loop : goal.invariant-loop
invariant-loop l = l.events.items ≡ l.initial.events.items ++ replicate l.counter l.event
