use Rattle.script_rules.proofs.ReadForms.{reads_have_facts}
use Rattle.law_checked_runs.proofs.Plans.{can_run}
use Rattle.law_checked_runs.proofs.what_is_read_can_run.Goals as goal

pub returns : goal.returns
returns c = λ text s e. can_run s (reads_have_facts text s e)
