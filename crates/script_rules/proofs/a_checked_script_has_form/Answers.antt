use Rattle.script_rules.proofs.Forms.{checked_has_form}
use Rattle.script_rules.proofs.a_checked_script_has_form.Goals as goal

pub returns : goal.returns
returns c = checked_has_form
