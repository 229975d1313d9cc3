use Rattle.node_links.proofs.Lawful.{new-links-stand}
use Rattle.node_links.proofs.laws.new_links_stand.Goals as goal

pub returns : goal.returns
returns c = new-links-stand
