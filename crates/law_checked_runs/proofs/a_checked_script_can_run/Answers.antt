use Rattle.script_rules.proofs.SaysItself.{checked_has_facts}
use Rattle.law_checked_runs.proofs.Plans.{can_run}
use Rattle.law_checked_runs.proofs.a_checked_script_can_run.Goals as goal

pub returns : goal.returns
returns c = λ s checked. can_run s (checked_has_facts s checked)
