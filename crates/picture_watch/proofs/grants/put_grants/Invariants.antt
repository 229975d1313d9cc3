use Rattle.std.proofs.Common.{◌≡◌, ◌++◌}
use Rattle.std.specs.Prelude.{flat_map}
use Rattle.dpc_lists.specs.Lists.{range_with_len}
use Rattle.picture_model.specs.Marking.{grant_at}
use Rattle.picture_watch.proofs.grants.put_grants.Given as goal

-- those of so many replicas
abbrev pub invariant-loop-i : goal.invariant-loop-i
invariant-loop-i l = l.marks.items ≡ l.fn.marks.items ++ flat_map (grant_at l.plan l.before l.now) (range_with_len 0 l.i)
