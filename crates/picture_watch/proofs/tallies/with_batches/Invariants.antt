use Rattle.std.proofs.Common.{◌≡◌, drop}
use Rattle.client_fold.specs.Folding.{all_taken}
use Rattle.picture_watch.specs.Tallies.{counted_in}
use Rattle.picture_watch.proofs.tallies.with_batches.Given as goal

-- what is counted, with what is left
abbrev pub invariant-loop-batch : goal.invariant-loop-batch
invariant-loop-batch l = counted_in l.tally (drop l.skip (all_taken (drop l.batch-index l.batches))) ≡ counted_in l.fn.tally (drop l.fn.skip (all_taken l.batches))
