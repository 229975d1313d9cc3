use Rattle.node_links.proofs.Lawful.{messages-stand}
use Rattle.node_links.proofs.laws.links_stand_after_messages.Goals as goal

pub returns : goal.returns
returns c = messages-stand
