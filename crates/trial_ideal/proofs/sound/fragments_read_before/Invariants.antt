use Rattle.std.proofs.Common.{ℕ, ◌<◌, get_or, All}
use Rattle.dpc_model.specs.declared.plans.FragSpec.{FragSpec}
use Rattle.trial_ideal.specs.Sound.{IsSoundRead}
use Rattle.trial_ideal.proofs.sound.fragments_read_before.Given as goal

abbrev pub invariant-loop-i : goal.invariant-loop-i
invariant-loop-i l = (i : ℕ) (d : FragSpec) → i < l.i → All (IsSoundRead i) (get_or l.frags i d).inputs
