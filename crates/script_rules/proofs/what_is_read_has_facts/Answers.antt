use Rattle.script_rules.proofs.ReadForms.{reads_have_facts}
use Rattle.script_rules.proofs.what_is_read_has_facts.Goals as goal

pub returns : goal.returns
returns c = reads_have_facts
