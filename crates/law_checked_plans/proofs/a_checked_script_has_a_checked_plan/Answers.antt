use Rattle.script_rules.proofs.SaysItself.{checked_has_facts}
use Rattle.law_checked_plans.proofs.Plans.{checked_plan}
use Rattle.law_checked_plans.proofs.a_checked_script_has_a_checked_plan.Goals as goal

pub returns : goal.returns
returns c = λ s checked. checked_plan s (checked_has_facts s checked)
