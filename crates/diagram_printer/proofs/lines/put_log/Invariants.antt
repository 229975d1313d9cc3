use Rattle.std.proofs.Common.{◌≡◌, ◌++◌, take, map}
use Rattle.dpc_model.specs.Words.{text_of}
use Rattle.dpc_model.specs.ScriptText.{log_line}
use Rattle.diagram_printer.proofs.lines.put_log.Given as goal

abbrev pub invariant-loop-tuple : goal.invariant-loop-tuple
invariant-loop-tuple l = l.text.items ≡ l.fn.text.items ++ text_of (map (log_line l.name) (take l.tuple-index l.log))
