use Rattle.std.proofs.Common.{◌*◌, arith}
use Rattle.std.proofs.lemmas.Grind.{common_steps}
use Rattle.dpc_model.specs.Operators.{window_rows}
use Rattle.trial_ideal.proofs.Folds.{windows-more}
use Rattle.trial_ideal.proofs.windows.aggregate.Goals as goal

pub loop-j-preserved : goal.loop-j-preserved
loop-j-preserved c =
    rw (windows-more (λ j. window_rows c.args.size c.args.group c.args.aggs.now c.args.tuples.now (j * c.args.step)) c.loop-j.j) (grind (arith, common_steps))
