use Rattle.std.proofs.Common.{◌≡◌, ◌++◌, take, flat_map}
use Rattle.dpc_model.specs.Words.{text_of}
use Rattle.dpc_model.specs.ScriptText.{frag_lines}
use Rattle.diagram_printer.proofs.lines.put_fragments.Given as goal

abbrev pub invariant-loop-frag : goal.invariant-loop-frag
invariant-loop-frag l = l.text.items ≡ l.fn.text.items ++ text_of (flat_map (frag_lines l.plan) (take l.frag-index l.plan.frags))
