use Rattle.script_rules.proofs.Refusals.{refuses_first}
use Rattle.script_rules.proofs.a_refusal_names_the_first_faulty_line.Goals as goal

pub returns : goal.returns
returns c = refuses_first
