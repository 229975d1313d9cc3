-- The expression that a node stands for.
use Rattle.dpc_model.specs.Formula.{Formula}
use Rattle.dpc_model.specs.Formula as formula
use Rattle.dpc_model.specs.declared.expressions.ExprNode.{ExprNode}
use Rattle.dpc_model.specs.declared.expressions.ExprNode.TheVariants.{Col, Num, Time, Neg, Not, Bin, If}

abbrev pub formula_of : ExprNode → Formula
formula_of (Col c) = formula.Col c
formula_of (Num z) = formula.Num z
formula_of Time = formula.Time
formula_of (Neg e) = formula.Neg e.value
formula_of (Not e) = formula.Not e.value
formula_of (Bin op d e) = formula.Bin op d.value e.value
formula_of (If c d e) = formula.If c.value d.value e.value
