use Rattle.std.proofs.Common.{[], ◌∷◌, map}
use Rattle.dpc_model.specs.ScriptText.{kind_word, kind_words, wire_word}
use Rattle.line_writer.proofs.Lines.{line_in_parts}
use Rattle.diagram_printer.proofs.operators.put_operator.Goals as goal

pub returns : goal.returns
returns c =
    let op = c.args.op.now in
    rw (c.in_ok-end_line.ensures.put, c.in_ok-put_kind.ensures, c.in_ok-put_reads.ensures, c.in_ok-put_word.ensures.put, c.in_ok-put_first.ensures.put, c.kind_word.ensures, c.as_slice.ensures, c.as_slice-2.ensures)
    (line_in_parts c.args.text.now.items (kind_word op.kind) (op.name ∷ []) (map (wire_word c.args.plan.now c.args.frag.now) op.reads) (kind_words op.kind))
