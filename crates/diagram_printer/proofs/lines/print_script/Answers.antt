use Rattle.std.proofs.Common.{[], ◌∷◌, ◌++◌, codes, flat_map, append_assoc, ap, sym, ◌∙◌}
use Rattle.dpc_model.specs.Words.{text_of}
use Rattle.dpc_model.specs.ScriptText.{script_text, plan_lines, phase_lines, settle_lines}
use Rattle.line_writer.proofs.Lines.{text_in_parts, block_in_parts}
use Rattle.diagram_printer.proofs.lines.print_script.Goals as goal

pub returns : goal.returns
unfolding script_text
returns c =
    let s = c.args.script.now in
    let plan = text_of (plan_lines s.plan) in
    let phases = flat_map (phase_lines s.plan) s.phases in
    rw (c.in_ok-put_settle.ensures, c.in_ok-put_phases.ensures, c.in_ok-put_alone.ensures, c.in_ok-put_plan.ensures, c.new-text.ensures.items, c.as_slice.ensures)
    (block_in_parts plan (codes "begin" ∷ []) phases (settle_lines s.settle)
    ∙ text_in_parts [] (plan_lines s.plan) ((((codes "begin") ∷ []) ∷ phases) ++ settle_lines s.settle)
    ∙ ap text_of (sym (append_assoc (plan_lines s.plan) (((codes "begin") ∷ []) ∷ phases) (settle_lines s.settle))))
