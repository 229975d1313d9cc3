use Rattle.std.proofs.Common.{◌≡◌, true, take}
use Rattle.dpc_lists.specs.Lists.{list_all}
use Rattle.script_rules.specs.Checking.{is_formula_in_range}
use Rattle.script_check.proofs.operator_ranges.are_expressions_in_range.Given as goal

abbrev pub invariant-loop-expr : goal.invariant-loop-expr
invariant-loop-expr l = list_all is_formula_in_range (take l.expr-index l.exprs) ≡ true
