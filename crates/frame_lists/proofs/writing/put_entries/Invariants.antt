use Rattle.std.proofs.Common.{◌≡◌, ◌++◌, take}
use Rattle.std.specs.Prelude.{flat_map}
use Rattle.stream_codec.specs.Frames.{frame_bytes}
use Rattle.stream_codec.specs.declared.frames.Frame.TheVariants as frame
use Rattle.frame_lists.proofs.writing.put_entries.Given as goal

abbrev pub invariant-loop-event : goal.invariant-loop-event
invariant-loop-event l = l.bytes.items ≡ l.fn.bytes.items ++ flat_map (λ e. frame_bytes (frame.Entry e)) (take l.event-index l.events)
