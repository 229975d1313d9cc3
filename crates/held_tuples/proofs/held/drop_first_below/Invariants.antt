use Rattle.std.proofs.Common.{◌≡◌, ◌+◌, length}
use Rattle.held_tuples.specs.Runs.{joined, from_first}
use Rattle.held_tuples.proofs.held.drop_first_below.Given as goal

-- what is left of the rest is what is left of all
abbrev pub invariant-loop-run : goal.invariant-loop-run
invariant-loop-run l =
    (from_first l.time (joined l.runs.items) ≡ from_first l.time (joined l.fn.runs.items)) × (l.gone + length (joined l.runs.items) ≡ length (joined l.fn.runs.items))

abbrev pub decreases-loop-run : goal.decreases-loop-run
decreases-loop-run l = length l.runs.items
