use Rattle.std.proofs.Common.{◌≡◌, ◌++◌, take, map}
use Rattle.dpc_model.specs.ScriptText.{wire_word}
use Rattle.line_writer.specs.Spaces.{behind_spaces}
use Rattle.diagram_printer.proofs.operators.put_reads.Given as goal

abbrev pub invariant-loop-wire : goal.invariant-loop-wire
invariant-loop-wire l = l.text.items ≡ l.fn.text.items ++ behind_spaces (map (wire_word l.plan l.frag) (take l.wire-index l.reads))
