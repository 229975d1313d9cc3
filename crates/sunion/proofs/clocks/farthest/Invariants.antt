use Rattle.std.proofs.Common.{◌≤◌, take}
use Rattle.std.specs.List.{All}
use Rattle.dpc_model.specs.Reading.{tuples_in}
use Rattle.dpc_model.specs.declared.tuples.Tuple.{Tuple}
use Rattle.sunion.proofs.clocks.farthest.Given as goal

-- the tuples so far
abbrev pub invariant-loop-item : goal.invariant-loop-item
invariant-loop-item l = All (λ (t : Tuple). t.stime ≤ l.latest) (tuples_in (take l.item-index l.items))
