use Rattle.std.proofs.Common.{◌≡◌, take}
use Rattle.client_fold.specs.Folding.{all_taken}
use Rattle.pair_run.proofs.pairing.taken_behind.Given as goal

-- the items of the first batches
abbrev pub invariant-loop-batch : goal.invariant-loop-batch
invariant-loop-batch l = l.items.items ≡ all_taken (take l.batch-index l.batches)
