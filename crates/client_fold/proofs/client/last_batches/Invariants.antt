use Rattle.std.proofs.Common.{◌≡◌, ◌≤◌, length, take}
use Rattle.client_fold.specs.Folding.{all_taken}
use Rattle.client_fold.proofs.client.last_batches.Given as goal

-- as many items stand in the batches in front
abbrev pub invariant-loop-before : goal.invariant-loop-before
invariant-loop-before l = record {
  some : l.first ≤ length l.batches;
  count : l.before ≡ length (all_taken (take l.first l.batches));
}

abbrev pub decreases-loop-before : goal.decreases-loop-before
decreases-loop-before l = l.first
