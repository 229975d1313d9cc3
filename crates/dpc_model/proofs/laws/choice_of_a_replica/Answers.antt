use Rattle.dpc_model.proofs.Choice.{choose-kept, choose-best, choose-first}
use Rattle.dpc_model.proofs.laws.choice_of_a_replica.Goals as goal

pub returns : goal.returns
returns c = record { kept = choose-kept; best = choose-best; first = choose-first }
