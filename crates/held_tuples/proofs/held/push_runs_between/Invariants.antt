use Rattle.std.proofs.Common.{◌≡◌, ◌++◌, ◌-◌, map, drop, length}
use Rattle.dpc_model.specs.Fragments.{tag}
use Rattle.dpc_model.specs.Operators.{between}
use Rattle.dpc_model.specs.Streams.{InOrder}
use Rattle.held_tuples.specs.Runs.{joined}
use Rattle.held_tuples.proofs.held.push_runs_between.Given as goal

-- with those of the runs that are left it is all that is to be there
abbrev pub invariant-loop-place : goal.invariant-loop-place
invariant-loop-place l =
    InOrder (joined l.runs.items) →
    l.tagged.items ++ map (tag l.port) (between l.from l.upto (joined (drop l.place l.runs.items))) ≡ l.fn.tagged.items ++ map (tag l.port) (between l.from l.upto (joined l.runs.items))

abbrev pub decreases-loop-place : goal.decreases-loop-place
decreases-loop-place l = length l.runs.items - l.place
