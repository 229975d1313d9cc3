use Rattle.stream_codec.proofs.Reprinted.{read-bytes, read-whole, read-range}
use Rattle.stream_codec.proofs.laws.what_is_read_is_what_is_written.Goals as goal

pub returns : goal.returns
returns c = record {
  bytes = λ bs f n all read. read-bytes bs f n all read;
  length = λ bs f n all read. read-whole bs f n read;
  range = λ bs f n read. read-range bs f n read;
}
