use Rattle.std.proofs.lemmas.List.{take_all}
use Rattle.frame_lists.specs.Lists.{entry_frames}
use Rattle.frame_lists.proofs.writing.put_entries.Goals as goal

pub returns : goal.returns
unfolding entry_frames
returns c = rw (take_all c.loop-event.event-index c.args.events.now c.loop-event-test.false) at c.loop-event.invariant
