use Rattle.std.proofs.Common.{take}
use Rattle.back_channel.specs.Sides.{ReadsAll}
use Rattle.back_channel.proofs.known.Known.read_all.Given as goal

-- so many items were read
abbrev pub invariant-loop-item : goal.invariant-loop-item
invariant-loop-item l = ReadsAll (take l.item-index l.items) l.fn.self l.fn.side l.self l.side
