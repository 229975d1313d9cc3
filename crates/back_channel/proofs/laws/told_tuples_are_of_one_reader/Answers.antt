use Rattle.back_channel.proofs.Sources.{told-of-one}
use Rattle.back_channel.proofs.laws.told_tuples_are_of_one_reader.Goals as goal

pub returns : goal.returns
returns c = told-of-one
