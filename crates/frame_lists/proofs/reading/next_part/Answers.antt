-- The bytes of a frame that was read are there.
use Rattle.stream_codec.proofs.Reprinted.{read-whole}
use Rattle.frame_lists.proofs.reading.next_part.Goals as goal

pub split_at-requires : goal.split_at-requires
split_at-requires g c = read-whole c.args.bytes.now c.in-Ok.frame c.in-Ok.taken c.in-Ok.ensures
