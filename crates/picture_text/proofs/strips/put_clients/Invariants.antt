use Rattle.std.proofs.Common.{◌≡◌, ◌++◌}
use Rattle.std.specs.Prelude.{flat_map}
use Rattle.dpc_lists.specs.Lists.{range_with_len}
use Rattle.picture_text.specs.Strips.{client_at}
use Rattle.picture_text.proofs.strips.put_clients.Given as goal

abbrev pub invariant-loop-i : goal.invariant-loop-i
invariant-loop-i l = l.strip.items ≡ l.fn.strip.items ++ flat_map (client_at l.before l.now) (range_with_len 0 l.i)
