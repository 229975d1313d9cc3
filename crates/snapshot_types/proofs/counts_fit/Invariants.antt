use Rattle.std.proofs.Common.{ℕ, ◌<◌, ◌^◌, slice_index_or}
use Rattle.snapshot_types.proofs.counts_fit.Given as goal

abbrev pub invariant-loop-count : goal.invariant-loop-count
invariant-loop-count l = (k d : ℕ) → k < l.count-index → slice_index_or l.fn.counts k d < 2 ^ 64
