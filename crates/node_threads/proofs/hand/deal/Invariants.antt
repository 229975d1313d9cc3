use Rattle.std.specs.Prelude.{◌≡◌, ◌+◌, vec_len}
use Rattle.node_threads.proofs.hand.deal.Given as goal

abbrev pub invariant-loop-worker : goal.invariant-loop-worker
invariant-loop-worker g l = (vec_len l.hands ≡ l.worker) × (l.rest.parts + l.worker ≡ l.fn.rest.parts)
