use Rattle.std.specs.Prelude.{◌≡◌}
use Rattle.node_threads.proofs.milling.ByHandMilling.mill_all.Given as goal

abbrev pub invariant-loop-node : goal.invariant-loop-node
invariant-loop-node g l = l.share.parts ≡ l.fn.share.parts
