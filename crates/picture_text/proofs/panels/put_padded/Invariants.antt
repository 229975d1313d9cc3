use Rattle.std.proofs.Common.{◌≡◌, ◌++◌, map}
use Rattle.dpc_lists.specs.Lists.{nth, range_with_len}
use Rattle.picture_text.proofs.panels.put_padded.Given as goal

abbrev pub invariant-loop-i : goal.invariant-loop-i
invariant-loop-i l = l.text.items ≡ l.fn.text.items ++ map (λ i. nth 32 l.label i) (range_with_len 0 l.i)
