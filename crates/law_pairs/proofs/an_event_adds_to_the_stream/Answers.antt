use Rattle.law_pairs.proofs.Whole.{none-told, one-told}
use Rattle.law_pairs.proofs.an_event_adds_to_the_stream.Goals as goal

pub returns : goal.returns
returns c = record { none = none-told; one = one-told }
