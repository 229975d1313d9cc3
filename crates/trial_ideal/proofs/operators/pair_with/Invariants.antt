use Rattle.std.proofs.Common.{◌≡◌, ◌++◌, take}
use Rattle.dpc_model.specs.Operators.{pairs_with}
use Rattle.trial_ideal.proofs.operators.pair_with.Given as goal

abbrev pub invariant-loop-right : goal.invariant-loop-right
invariant-loop-right l = l.out.items ≡ l.initial.out.items ++ pairs_with l.within l.keys (take l.right-index l.rights) l.left
