use Rattle.law_checked_runs.proofs.Plans.{can_run}
use Rattle.std.proofs.Common.{ap}
use Rattle.script_rules.specs.Reading.{script_in}
use Rattle.script_rules.proofs.ReadForms.{reads_have_facts}
use Rattle.trial_world.proofs.handing.ready_world.Goals as goal

pub new-requires-2 : goal.new-requires-2
new-requires-2 c = can_run c.in-Ok.script (reads_have_facts c.as_bytes.result.now c.in-Ok.script (ap script_in (c.in-Ok.ensures {u = tt})))
