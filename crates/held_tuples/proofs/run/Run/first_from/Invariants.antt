use Rattle.std.proofs.Common.{◌≤◌, ◌-◌, length}
use Rattle.dpc_model.specs.Streams.{InOrder, count_below}
use Rattle.held_tuples.proofs.run.Run.first_from.Given as goal

-- the place lies between low and high
abbrev pub invariant-loop-low : goal.invariant-loop-low
invariant-loop-low l =
    (l.low ≤ l.high) × (l.high ≤ length l.self) × (InOrder l.self → (l.low ≤ count_below l.self l.time) × (count_below l.self l.time ≤ l.high))

abbrev pub decreases-loop-low : goal.decreases-loop-low
decreases-loop-low l = l.high - l.low
