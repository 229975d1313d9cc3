use Rattle.stream_codec.proofs.ReadBack.{frame-back}
use Rattle.stream_codec.proofs.laws.what_is_written_is_read_back.Goals as goal

pub returns : goal.returns
returns c = λ f more h. frame-back f more h
