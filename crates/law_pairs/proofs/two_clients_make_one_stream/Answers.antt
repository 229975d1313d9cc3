use Rattle.law_pairs.proofs.Whole.{one-stream}
use Rattle.law_pairs.proofs.two_clients_make_one_stream.Goals as goal

pub returns : goal.returns
returns c = one-stream
