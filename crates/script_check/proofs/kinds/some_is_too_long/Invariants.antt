use Rattle.std.proofs.Common.{◌≡◌, false, take}
use Rattle.dpc_lists.specs.Lists.{list_any}
use Rattle.script_rules.specs.Reasons.{is_too_long}
use Rattle.script_check.proofs.kinds.some_is_too_long.Given as goal

abbrev pub invariant-loop-expr : goal.invariant-loop-expr
invariant-loop-expr l = list_any is_too_long (take l.expr-index l.exprs) ≡ false
