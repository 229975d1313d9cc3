use Rattle.std.proofs.Common.{arith, []}
use Rattle.std.proofs.lemmas.Grind.{common_steps}
use Rattle.dpc_model.specs.Fragments.{serial}
use Rattle.trial_ideal.proofs.Folds.{outputs_after-more, sound-kind, last-some}
use Rattle.trial_ideal.proofs.fragment.Goals as goal

pub output-requires : goal.output-requires
output-requires c = rw c.op-item.is (sound-kind c.args.ops.now c.loop-op.op-index c.op-item.result c.loop-op-test.true c.requires.sound)

pub loop-op-preserved : goal.loop-op-preserved
loop-op-preserved c =
    rw (outputs_after-more [] c.args.ops.now (serial c.args.ports.now) c.args.b c.loop-op.op-index c.op-item.result c.loop-op-test.true) (grind (arith, common_steps))

pub returns-in-Some : goal.returns-in-Some
returns-in-Some c = grind (arith, common_steps, last-some c.loop-op.outputs.items c.pop.new.self.items c.in-Some.last)
