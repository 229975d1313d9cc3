use Rattle.std.proofs.Common.{◌≡◌, [], take}
use Rattle.dpc_model.specs.Fragments.{fragments_upto}
use Rattle.trial_ideal.proofs.ideal.Given as goal

abbrev pub invariant-loop-frag : goal.invariant-loop-frag
invariant-loop-frag l = l.frags.items ≡ fragments_upto l.plan l.b [] (take l.frag-index l.plan.frags)
