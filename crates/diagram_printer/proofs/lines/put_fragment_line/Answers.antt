use Rattle.std.proofs.Common.{[], ◌∷◌, codes, decimal, map}
use Rattle.dpc_model.specs.ScriptText.{stream_name}
use Rattle.line_writer.proofs.Lines.{line_in_parts}
use Rattle.diagram_printer.proofs.lines.put_fragment_line.Goals as goal

pub returns : goal.returns
returns c =
    let f = c.args.frag.now in
    rw (c.in_ok-end_line.ensures.put, c.in_ok-put_streams.ensures, c.in_ok-put_number.ensures.put, c.in_ok-put_word.ensures.put, c.in_ok-put_first.ensures.put, c.as_slice.ensures, c.as_slice-2.ensures)
    (line_in_parts c.args.text.now.items (codes "fragment") (f.name ∷ []) (decimal f.replicas ∷ []) (map (stream_name c.args.plan.now) f.inputs))
