use Rattle.std.proofs.lemmas.List.{take_all}
use Rattle.frame_lists.specs.Lists.{item_frames}
use Rattle.frame_lists.proofs.writing.put_items.Goals as goal

pub returns : goal.returns
unfolding item_frames
returns c = rw (take_all c.loop-item.item-index c.args.items.now c.loop-item-test.false) at c.loop-item.invariant
