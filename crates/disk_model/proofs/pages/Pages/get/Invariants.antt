use Rattle.std.proofs.Common.{◌≡◌, ◌≤◌, ◌<◌, ◌+◌, ◌-◌, ℕ, length, slice_index}
use Rattle.disk_model.specs.Paging.{image_of}
use Rattle.disk_model.proofs.pages.Pages.get.Given as goal

abbrev pub invariant-loop-done : goal.invariant-loop-done
invariant-loop-done l = record {
  within : l.done ≤ length l.buf;
  filled : (k : ℕ) → k < l.done → slice_index l.buf k ≡ image_of l.self.map (l.at + k);
}

abbrev pub decreases-loop-done : goal.decreases-loop-done
decreases-loop-done l = length l.initial.buf - l.done
