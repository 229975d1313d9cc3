use Rattle.std.proofs.Common.{◌≡◌, true, take}
use Rattle.dpc_lists.specs.Lists.{list_all}
use Rattle.dpc_model.specs.Values.{reads_below}
use Rattle.script_check.proofs.kinds.exprs_read_below.Given as goal

abbrev pub invariant-loop-expr : goal.invariant-loop-expr
invariant-loop-expr l = list_all (reads_below l.columns) (take l.expr-index l.exprs) ≡ true
