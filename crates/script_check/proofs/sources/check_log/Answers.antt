use Rattle.std.proofs.Common.{sym, ◌∙◌}
use Rattle.script_check.proofs.Logs.{log_goes_on, log_fails, log_ends}
use Rattle.script_check.proofs.sources.check_log.Goals as goal

pub returns-in-Some : goal.returns-in-Some
returns-in-Some c plan before source n b =
    log_fails c.args.bounds.end c.args.bounds.columns c.args.bounds.room c.args.line c.args.log.now c.loop-i.i c.loop-i.last c.loop-i.next c.in-Some.reason c.index-log-i.result c.loop-i-test.true c.index-log-i.is
    (sym c.fault_of_entry.ensures ∙ c.in-Some.is) c.loop-i.invariant plan before source n b

pub loop-i-preserved : goal.loop-i-preserved
loop-i-preserved c =
    log_goes_on c.args.bounds.end c.args.bounds.columns c.args.bounds.room c.args.line c.args.log.now c.loop-i.i c.loop-i.last c.loop-i.next c.saturating_add-next.result c.index-log-i.result c.loop-i-test.true c.index-log-i.is
    (sym c.fault_of_entry.ensures ∙ c.in_default.is) c.saturating_add-next.ensures c.loop-i.invariant

pub returns : goal.returns
returns c = log_ends c.args.bounds.end c.args.bounds.columns c.args.bounds.room c.args.line c.args.log.now c.loop-i.i c.loop-i.last c.loop-i.next c.loop-i-test.false c.loop-i.invariant
