use Rattle.std.proofs.Common.{◌≡◌, ◌++◌, drop}
use Rattle.live_view.specs.Telling.{new_tuples, new_bound, in_batches}
use Rattle.live_view.proofs.teller.news_in.Given as goal

abbrev pub invariant-loop-batch : goal.invariant-loop-batch
invariant-loop-batch l =
    (l.gathering.tuples.items ++ new_tuples l.gathering.count (in_batches (drop l.batch-index l.batches)) ≡ new_tuples l.fn.count (in_batches l.batches))
    × (new_bound l.gathering.count l.gathering.bound (in_batches (drop l.batch-index l.batches)) ≡ new_bound l.fn.count 0 (in_batches l.batches))
