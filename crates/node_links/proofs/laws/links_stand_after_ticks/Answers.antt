use Rattle.node_links.proofs.Lawful.{ticks-stand}
use Rattle.node_links.proofs.laws.links_stand_after_ticks.Goals as goal

pub returns : goal.returns
returns c = ticks-stand
