use Rattle.std.proofs.Common.{◌-◌, length}
use Rattle.held_tuples.proofs.Joined.{IsCounted}
use Rattle.held_tuples.proofs.held.count_runs_below.Given as goal

abbrev pub invariant-loop-place : goal.invariant-loop-place
invariant-loop-place l = IsCounted l.time l.place l.count l.runs.items

abbrev pub decreases-loop-place : goal.decreases-loop-place
decreases-loop-place l = length l.runs.items - l.place
