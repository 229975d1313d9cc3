use Rattle.std.proofs.Common.{◌≡◌, ◌++◌, take, flat_map}
use Rattle.dpc_model.specs.ScriptText.{formula_words}
use Rattle.line_writer.specs.Spaces.{behind_spaces}
use Rattle.diagram_printer.proofs.expressions.put_expressions.Given as goal

abbrev pub invariant-loop-expr : goal.invariant-loop-expr
invariant-loop-expr l = l.text.items ≡ l.fn.text.items ++ behind_spaces (flat_map formula_words (take l.expr-index l.exprs))
