use Rattle.std.proofs.Common.{ap}
use Rattle.law_checked_runs.proofs.Plans.{can_run}
use Rattle.script_rules.specs.Reading.{script_in}
use Rattle.script_rules.proofs.ReadForms.{reads_have_facts}
use Rattle.trial_journals.proofs.journaled.Goals as goal

pub run-requires : goal.run-requires
run-requires c = can_run c.in_ok-script.script (reads_have_facts c.args.text.now c.in_ok-script.script (ap script_in (c.in_ok-script.ensures {u = tt})))
