use Rattle.std.proofs.Common.{◌-◌, length}
use Rattle.held_tuples.proofs.Parts.{IsUnderWay}
use Rattle.held_tuples.proofs.held.push_runs.Given as goal

abbrev pub invariant-loop-place : goal.invariant-loop-place
invariant-loop-place l = IsUnderWay l.items l.place l.count l.fn.runs.items l.runs.items

abbrev pub decreases-loop-place : goal.decreases-loop-place
decreases-loop-place l = length l.items - l.place
