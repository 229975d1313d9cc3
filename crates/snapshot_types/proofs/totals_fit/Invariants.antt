use Rattle.std.proofs.Common.{ℕ, ℤ, ◌<◌, slice_index_or}
use Rattle.std.specs.Prelude.{FitsSigned}
use Rattle.std.specs.Int.{w128}
use Rattle.snapshot_types.proofs.totals_fit.Given as goal

abbrev pub invariant-loop-total : goal.invariant-loop-total
invariant-loop-total l = (k : ℕ) (d : ℤ) → k < l.total-index → FitsSigned w128 (slice_index_or l.fn.totals k d)
