use Rattle.std.proofs.Common.{◌∷◌, codes, decimal, map}
use Rattle.dpc_model.specs.ScriptText.{stream_name, patience_lines, operator_line}
use Rattle.line_writer.proofs.Lines.{block_in_parts}
use Rattle.diagram_printer.proofs.lines.put_fragment.Goals as goal

pub returns : goal.returns
returns c =
    let f = c.args.frag.now in
    let plan = c.args.plan.now in
    rw (c.in_ok-put_operators.ensures, c.in_ok-put_patience.ensures, c.in_ok-put_fragment_line.ensures, c.as_slice.ensures)
    (block_in_parts c.args.text.now.items (codes "fragment" ∷ f.name ∷ decimal f.replicas ∷ map (stream_name plan) f.inputs) (patience_lines f.delay) (map (operator_line plan f) f.ops))
