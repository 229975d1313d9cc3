use Rattle.stream_codec.proofs.ReadBack.{frame-short}
use Rattle.stream_codec.proofs.laws.a_proper_beginning_is_short.Goals as goal

pub returns : goal.returns
returns c = λ f n h less. frame-short f n h less
