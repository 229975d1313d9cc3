use Rattle.std.proofs.Common.{◌≡◌, ◌+◌, ◌*◌, ℕ, length}
use Rattle.load_gen.specs.Generated.{state_after, entries, failure_draws}
use Rattle.load_gen.proofs.phases.failure_draws.Given as goal

abbrev pub invariant-loop : goal.invariant-loop
invariant-loop l =
    (length l.draws.items ≡ l.counter)
    × ((seed : ℕ) → l.fn.generator.state ≡ state_after seed (4 * entries)
    → (l.generator.state ≡ state_after seed (4 * entries + l.counter)) × (l.draws.items ≡ failure_draws seed l.counter))
