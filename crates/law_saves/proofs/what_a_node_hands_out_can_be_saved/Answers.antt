use Rattle.script_rules.proofs.SaysItself.{checked_has_facts}
use Rattle.law_saves.proofs.Whole.{hands-out}
use Rattle.law_saves.proofs.what_a_node_hands_out_can_be_saved.Goals as goal

pub returns : goal.returns
returns c = λ s events a f r p v checked. hands-out s events a f r p v checked (checked_has_facts s checked)
