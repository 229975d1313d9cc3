use Rattle.std.proofs.Common.{arith}
use Rattle.std.proofs.lemmas.Grind.{common_steps}
use Rattle.dpc_model.specs.Fragments.{ideal_upto}
use Rattle.trial_ideal.proofs.Folds.{fragment-more, sound-frag}
use Rattle.trial_ideal.proofs.Ordered.{ports-ordered}
use Rattle.trial_ideal.proofs.ideal.Goals as goal

pub fragment-requires-clause-sound : goal.fragment-requires-clause-sound
fragment-requires-clause-sound c =
    rw (c.as_slice-in-loop-frag-2.ensures, c.frag-item.is, c.as_slice-frag-items.ensures)
    (sound-frag c.args.plan.now.frags c.loop-frag.frag-index c.frag-item.result (rw c.as_slice-frag-items.ensures at c.loop-frag-test.true) c.requires.ops)

pub fragment-requires-clause-ordered : goal.fragment-requires-clause-ordered
fragment-requires-clause-ordered c =
    rw (c.as_slice-in-loop-frag-3.ensures.value, c.in_ok-ports.ensures, c.as_slice.ensures.value, c.as_slice-in-loop-frag.ensures, c.loop-frag.invariant)
    (ports-ordered c.args.plan.now c.args.b c.loop-frag.frag-index c.args.plan.now.frags c.frag-item.result.inputs c.requires.logs)

pub loop-frag-preserved : goal.loop-frag-preserved
loop-frag-preserved c =
    fragment-more c.args.plan.now c.args.b c.loop-frag.frag-index c.frag-item.result c.loop-frag.frags.items c.push.new.self.items c.in_ok-ports.ports.items c.in_ok-value.value
    (rw c.as_slice-frag-items.ensures at c.loop-frag-test.true) c.loop-frag.invariant (grind arith) (grind arith) c.in_ok-push.ensures.items

pub returns : goal.returns
unfolding ideal_upto
returns c = grind (arith, common_steps)
