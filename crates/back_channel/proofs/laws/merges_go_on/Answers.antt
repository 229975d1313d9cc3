use Rattle.back_channel.proofs.Onward.{goes-on}
use Rattle.back_channel.proofs.laws.merges_go_on.Goals as goal

pub returns : goal.returns
returns c = goes-on
