use Rattle.std.proofs.Common.{◌≡◌, take}
use Rattle.client_views.proofs.ending.shares.Given as goal

abbrev pub invariant-loop-batch : goal.invariant-loop-batch
invariant-loop-batch l = l.all.items ≡ take l.batch-index l.batches
