use Rattle.script_rules.proofs.ReadForms.{reads_have_form}
use Rattle.script_rules.proofs.what_is_read_has_form.Goals as goal

pub returns : goal.returns
returns c = reads_have_form
