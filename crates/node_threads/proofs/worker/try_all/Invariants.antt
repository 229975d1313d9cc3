use Rattle.std.specs.Prelude.{◌≡◌}
use Rattle.node_threads.proofs.worker.try_all.Given as goal

abbrev pub invariant-loop-some : goal.invariant-loop-some
invariant-loop-some g l = l.share.parts ≡ l.fn.share.parts
