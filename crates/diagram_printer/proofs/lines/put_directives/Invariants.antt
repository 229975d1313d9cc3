use Rattle.std.proofs.Common.{◌≡◌, ◌++◌, take, map}
use Rattle.dpc_model.specs.Words.{text_of}
use Rattle.dpc_model.specs.ScriptText.{directive_line}
use Rattle.diagram_printer.proofs.lines.put_directives.Given as goal

abbrev pub invariant-loop-directive : goal.invariant-loop-directive
invariant-loop-directive l = l.text.items ≡ l.fn.text.items ++ text_of (map (directive_line l.plan) (take l.directive-index l.directives))
