use Rattle.script_rules.proofs.Least.{names_least, refuses_only_faults}
use Rattle.script_rules.proofs.a_refusal_names_the_least_reason.Goals as goal

pub returns : goal.returns
returns c = record { least = names_least; none = refuses_only_faults }
