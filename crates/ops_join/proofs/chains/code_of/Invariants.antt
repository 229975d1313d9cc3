use Rattle.std.proofs.Common.{◌≡◌, take}
use Rattle.ops_join.specs.Sides.{code_of as code_at}
use Rattle.ops_join.proofs.chains.code_of.Given as goal

abbrev pub invariant-loop-pair : goal.invariant-loop-pair
invariant-loop-pair l = l.code ≡ code_at l.end (take l.pair-index l.keys) l.tuple
