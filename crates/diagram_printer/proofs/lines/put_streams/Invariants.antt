use Rattle.std.proofs.Common.{◌≡◌, ◌++◌, take, map}
use Rattle.dpc_model.specs.ScriptText.{stream_name}
use Rattle.line_writer.specs.Spaces.{behind_spaces}
use Rattle.diagram_printer.proofs.lines.put_streams.Given as goal

abbrev pub invariant-loop-stream : goal.invariant-loop-stream
invariant-loop-stream l = l.text.items ≡ l.fn.text.items ++ behind_spaces (map (stream_name l.plan) (take l.stream-index l.streams))
