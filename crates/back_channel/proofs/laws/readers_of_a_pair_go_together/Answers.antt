use Rattle.back_channel.proofs.Stepping.{go-together}
use Rattle.back_channel.proofs.laws.readers_of_a_pair_go_together.Goals as goal

pub returns : goal.returns
returns c = λ pair x y h. go-together pair x y h.shows.holds
