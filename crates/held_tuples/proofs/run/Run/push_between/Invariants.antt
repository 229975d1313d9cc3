use Rattle.std.proofs.Common.{◌≡◌, ◌++◌, ◌-◌, map, drop, length}
use Rattle.dpc_model.specs.Streams.{InOrder, cut}
use Rattle.dpc_model.specs.Operators.{between}
use Rattle.dpc_model.specs.Fragments.{tag}
use Rattle.held_tuples.proofs.run.Run.push_between.Given as goal

-- with those of what is left that lie below the end it is all that is to be there
abbrev pub invariant-loop-place : goal.invariant-loop-place
invariant-loop-place l =
    InOrder l.self → l.tagged.items ++ map (tag l.port) (cut (drop l.place l.self) l.upto) ≡ l.fn.tagged.items ++ map (tag l.port) (between l.from l.upto l.self)

abbrev pub decreases-loop-place : goal.decreases-loop-place
decreases-loop-place l = length l.self - l.place
