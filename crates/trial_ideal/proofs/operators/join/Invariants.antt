use Rattle.std.proofs.Common.{◌≡◌, take}
use Rattle.std.specs.List.{flat_map}
use Rattle.dpc_model.specs.Operators.{pairs_with}
use Rattle.trial_ideal.proofs.operators.join.Given as goal

abbrev pub invariant-loop-left : goal.invariant-loop-left
invariant-loop-left l = l.out.items ≡ flat_map (pairs_with l.within l.keys l.rights) (take l.left-index l.lefts)
