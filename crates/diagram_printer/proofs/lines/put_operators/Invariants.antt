use Rattle.std.proofs.Common.{◌≡◌, ◌++◌, take, map}
use Rattle.dpc_model.specs.Words.{text_of}
use Rattle.dpc_model.specs.ScriptText.{operator_line}
use Rattle.diagram_printer.proofs.lines.put_operators.Given as goal

abbrev pub invariant-loop-op : goal.invariant-loop-op
invariant-loop-op l = l.text.items ≡ l.fn.text.items ++ text_of (map (operator_line l.plan l.frag) (take l.op-index l.ops))
