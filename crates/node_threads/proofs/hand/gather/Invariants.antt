use Rattle.std.specs.Prelude.{◌≡◌, ◌+◌, vec_len}
use Rattle.std.specs.Vec.Iter.{into_iter_len}
use Rattle.node_threads.proofs.hand.gather.Given as goal

abbrev pub invariant-loop-hand : goal.invariant-loop-hand
invariant-loop-hand g l = l.rest.parts + into_iter_len l.hand-iterator ≡ l.fn.rest.parts + vec_len l.fn.hands
