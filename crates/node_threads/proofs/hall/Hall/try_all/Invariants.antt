use Rattle.std.specs.Prelude.{◌≡◌}
use Rattle.node_threads.proofs.hall.Hall.try_all.Given as goal

abbrev pub invariant-loop-one : goal.invariant-loop-one
invariant-loop-one g l = l.share.parts ≡ l.fn.share.parts
