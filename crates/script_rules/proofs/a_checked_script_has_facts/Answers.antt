use Rattle.script_rules.proofs.SaysItself.{checked_has_facts}
use Rattle.script_rules.proofs.a_checked_script_has_facts.Goals as goal

pub returns : goal.returns
returns c = checked_has_facts
