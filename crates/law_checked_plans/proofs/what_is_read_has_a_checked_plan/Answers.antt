use Rattle.script_rules.proofs.ReadForms.{reads_have_facts}
use Rattle.law_checked_plans.proofs.Plans.{checked_plan}
use Rattle.law_checked_plans.proofs.what_is_read_has_a_checked_plan.Goals as goal

pub returns : goal.returns
returns c = λ text s e. checked_plan s (reads_have_facts text s e)
