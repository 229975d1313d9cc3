use Rattle.std.proofs.Common.{map}
use Rattle.std.specs.Borrow.{Bor}
use Rattle.dpc_model.specs.declared.tuples.Item.{Item}
use Rattle.inlet.proofs.Folds.{IsUnderWay}
use Rattle.inlet.proofs.draft.BatchDraft.fold.Given as goal

-- so many items were read
abbrev pub invariant-loop-item : goal.invariant-loop-item
invariant-loop-item l = IsUnderWay l.items l.item-index l.fn.self l.self (map (λ (item : Bor Item). item.now) l.taken.items)
