use Rattle.std.proofs.Common.{◌≡◌, ◌++◌, take, flat_map}
use Rattle.dpc_model.specs.Words.{text_of}
use Rattle.dpc_model.specs.ScriptText.{source_lines}
use Rattle.diagram_printer.proofs.lines.put_sources.Given as goal

abbrev pub invariant-loop-source : goal.invariant-loop-source
invariant-loop-source l = l.text.items ≡ l.fn.text.items ++ text_of (flat_map source_lines (take l.source-index l.sources))
