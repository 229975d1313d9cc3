use Rattle.std.proofs.Common.{sym, ◌∙◌}
use Rattle.script_check.proofs.AllSources.{source_judged}
use Rattle.script_check.proofs.sources.check_source.Goals as goal

pub returns : goal.returns
returns c =
    source_judged c.args.plan.now c.args.before.now c.args.source.now c.check_log.result c.as_slice.result.now c.args.line c.saturating_add.result c.args.room (sym c.fault_of_source.ensures ∙ c.in_default.is)
    c.as_slice.ensures c.saturating_add.ensures c.check_log.ensures
