use Rattle.std.proofs.Common.{◌-◌, ◌≤◌, take, length}
use Rattle.dpc_model.specs.Streams.{InOrder}
use Rattle.held_tuples.specs.Runs.{joined, AllBelow}
use Rattle.held_tuples.proofs.held.first_run.Given as goal

-- all before the low place is below the time
abbrev pub invariant-loop-low : goal.invariant-loop-low
invariant-loop-low l = (l.low ≤ l.high) × (l.high ≤ length l.runs.items) × (InOrder (joined l.runs.items) → AllBelow l.time (joined (take l.low l.runs.items)))

abbrev pub decreases-loop-low : goal.decreases-loop-low
decreases-loop-low l = l.high - l.low
