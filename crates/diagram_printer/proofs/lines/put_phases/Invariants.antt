use Rattle.std.proofs.Common.{◌≡◌, ◌++◌, take, flat_map}
use Rattle.dpc_model.specs.Words.{text_of}
use Rattle.dpc_model.specs.ScriptText.{phase_lines}
use Rattle.diagram_printer.proofs.lines.put_phases.Given as goal

abbrev pub invariant-loop-phase : goal.invariant-loop-phase
invariant-loop-phase l = l.text.items ≡ l.fn.text.items ++ text_of (flat_map (phase_lines l.plan) (take l.phase-index l.phases))
