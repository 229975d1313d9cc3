use Rattle.std.proofs.Common.{ap}
use Rattle.law_checked_runs.proofs.Plans.{can_run}
use Rattle.script_rules.specs.Reading.{script_in}
use Rattle.script_rules.proofs.ReadForms.{reads_have_facts}
use Rattle.stream_audits.proofs.Ideals.{read_ideal}
use Rattle.trial_crashes.proofs.reading.script_in.Goals as goal

pub returns-in-Ok-clause-run : goal.returns-in-Ok-clause-run
returns-in-Ok-clause-run c = can_run c.in-Ok.script (reads_have_facts c.as_bytes.result.now c.in-Ok.script (ap script_in (c.in-Ok.ensures {u = tt})))

pub returns-in-Ok-clause-ideal : goal.returns-in-Ok-clause-ideal
returns-in-Ok-clause-ideal c = read_ideal c.as_bytes.result.now c.in-Ok.script (c.in-Ok.ensures {u = tt})
