use Rattle.node_links.proofs.Lawful.{finds-senders}
use Rattle.node_links.proofs.laws.senders_are_found.Goals as goal

pub returns : goal.returns
returns c = finds-senders
