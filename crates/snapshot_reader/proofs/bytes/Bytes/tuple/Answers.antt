-- The bytes of a frame that was read are there.
use Rattle.stream_codec.proofs.Reprinted.{read-whole}
use Rattle.snapshot_reader.proofs.bytes.Bytes.tuple.Goals as goal

pub split_at-requires : goal.split_at-requires
split_at-requires c = read-whole c.self.inside.rest.now c.in-Ok.frame c.in-Ok.taken c.in-Ok.ensures
