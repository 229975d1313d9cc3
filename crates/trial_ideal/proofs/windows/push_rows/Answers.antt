use Rattle.trial_ideal.specs.Rows.{group_row}
use Rattle.trial_ideal.proofs.Folds.{rows-more}
use Rattle.trial_ideal.proofs.windows.push_rows.Goals as goal

pub loop-value-preserved : goal.loop-value-preserved
loop-value-preserved c =
    rows-more (group_row c.in-Some.column c.args.aggs.now c.args.stime c.args.tuples.now) c.loop-value.out.items c.push_group.new.out.items _ _ _ _ c.in-Some-value.value.now
    c.loop-value.invariant c.in-Some-value.ensures.steps c.in_ok-push_group-in-Some.ensures
