use Rattle.std.proofs.Common.{◌≡◌, ◌++◌, take}
use Rattle.client_fold.specs.Folding.{all_taken}
use Rattle.frame_lists.specs.Lists.{item_frames}
use Rattle.client_frames.proofs.put_taken.Given as goal

abbrev pub invariant-loop-items : goal.invariant-loop-items
invariant-loop-items l = l.bytes.items ≡ l.fn.bytes.items ++ item_frames (all_taken (take l.items-index l.taken))
