use Rattle.std.proofs.Common.{◌≡◌, true, take}
use Rattle.dpc_model.specs.Operators.{keys_agree}
use Rattle.ops_join.proofs.partners.have_one_key.Given as goal

abbrev pub invariant-loop-pair : goal.invariant-loop-pair
invariant-loop-pair l = keys_agree (take l.pair-index l.keys) l.left l.right ≡ true
