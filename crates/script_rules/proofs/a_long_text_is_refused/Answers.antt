use Rattle.script_rules.proofs.Refusals.{refuses_long}
use Rattle.script_rules.proofs.a_long_text_is_refused.Goals as goal

pub returns : goal.returns
returns c = refuses_long
