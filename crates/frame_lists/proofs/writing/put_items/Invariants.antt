use Rattle.std.proofs.Common.{◌≡◌, ◌++◌, take}
use Rattle.std.specs.Prelude.{flat_map}
use Rattle.stream_codec.specs.Frames.{frame_bytes}
use Rattle.stream_codec.specs.declared.frames.Frame.TheVariants as frame
use Rattle.frame_lists.proofs.writing.put_items.Given as goal

abbrev pub invariant-loop-item : goal.invariant-loop-item
invariant-loop-item l = l.bytes.items ≡ l.fn.bytes.items ++ flat_map (λ e. frame_bytes (frame.Item e)) (take l.item-index l.items)
