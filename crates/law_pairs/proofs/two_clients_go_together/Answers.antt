use Rattle.law_pairs.proofs.Going.{go-together}
use Rattle.law_pairs.proofs.Holding.{first-taken, first-holds}
use Rattle.law_pairs.proofs.two_clients_go_together.Goals as goal

pub returns : goal.returns
returns c = record { taken = first-taken; held = first-holds; next = go-together }
