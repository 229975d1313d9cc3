use Rattle.std.proofs.Common.{◌≡◌, ◌+◌, ◌*◌, ℕ}
use Rattle.load_gen.specs.Generated.{state_after, entries_of}
use Rattle.load_gen.proofs.plan.log.Given as goal

abbrev pub invariant-loop-i : goal.invariant-loop-i
invariant-loop-i l =
    (seed first : ℕ) → l.fn.generator.state ≡ state_after seed first
    → (l.generator.state ≡ state_after seed (first + 2 * l.i)) × (l.tuples.items ≡ entries_of seed first l.i)
