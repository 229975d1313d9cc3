use Rattle.std.proofs.Common.{◌≡◌, map, take}
use Rattle.std.specs.Borrow.{Bor}
use Rattle.dpc_model.specs.declared.tuples.Item.{Item}
use Rattle.inlet.proofs.items.copied.Given as goal

-- the items so far
abbrev pub invariant-loop-item : goal.invariant-loop-item
invariant-loop-item l = l.copies.items ≡ map (λ (item : Bor Item). item.now) (take l.item-index l.items)
