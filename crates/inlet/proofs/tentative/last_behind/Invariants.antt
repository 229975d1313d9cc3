use Rattle.std.proofs.Common.{List, ◌++◌, take}
use Rattle.dpc_model.specs.declared.tuples.Tuple.{Tuple}
use Rattle.inlet.specs.Ordered.{IsUpto, IsUptoIf}
use Rattle.inlet.proofs.tentative.last_behind.Given as goal

abbrev pub invariant-loop-tuple : goal.invariant-loop-tuple
invariant-loop-tuple l = (before : List Tuple) → IsUptoIf before l.fn.last → IsUpto (before ++ take l.tuple-index l.tuples) l.last
