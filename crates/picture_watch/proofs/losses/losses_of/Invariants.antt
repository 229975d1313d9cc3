use Rattle.std.proofs.Common.{◌≡◌, map, take}
use Rattle.picture_model.specs.Marking.{phase_losses}
use Rattle.picture_watch.proofs.losses.losses_of.Given as goal

-- those of so many phases
abbrev pub invariant-loop-phase : goal.invariant-loop-phase
invariant-loop-phase l = l.losses.items ≡ map phase_losses (take l.phase-index l.phases)
