use Rattle.std.proofs.Common.{◌≡◌, map, take}
use Rattle.std.specs.Borrow.{Bor}
use Rattle.dpc_model.specs.declared.tuples.Item.{Item}
use Rattle.inlet.proofs.Folds.{times_in}
use Rattle.inlet.proofs.items.times.Given as goal

-- the times so far
abbrev pub invariant-loop-item : goal.invariant-loop-item
invariant-loop-item l = l.times.items ≡ times_in (map (λ (item : Bor Item). item.now) (take l.item-index l.items))
