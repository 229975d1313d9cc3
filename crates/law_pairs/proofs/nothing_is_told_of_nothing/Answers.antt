use Rattle.law_pairs.proofs.Going.{client-rests, told-nothing}
use Rattle.law_pairs.proofs.nothing_is_told_of_nothing.Goals as goal

pub returns : goal.returns
returns c = record { held = client-rests; told = told-nothing }
