use Rattle.std.proofs.Common.{◌≡◌, ℕ}
use Rattle.load_gen.specs.Generated.{failures, failure_draws, phases_of}
use Rattle.load_gen.proofs.phases.phases.Given as goal

abbrev pub invariant-loop-p : goal.invariant-loop-p
invariant-loop-p l = (seed : ℕ) → l.draws ≡ failure_draws seed failures → l.phases.items ≡ phases_of seed l.p
