use Rattle.std.proofs.Common.{◌≡◌, take}
use Rattle.std.specs.Prelude.{flat_map}
use Rattle.picture_model.specs.Marking.{loss_of}
use Rattle.picture_watch.proofs.losses.losses_by.Given as goal

-- those of so many directives
abbrev pub invariant-loop-directive : goal.invariant-loop-directive
invariant-loop-directive l = l.marks.items ≡ flat_map loss_of (take l.directive-index l.directives)
