use Rattle.std.proofs.Common.{[], ◌∷◌, codes, decimal, map}
use Rattle.std.specs.Fmt.{signed_decimal}
use Rattle.line_writer.proofs.Lines.{line_in_parts}
use Rattle.diagram_printer.proofs.lines.put_entry.Goals as goal

pub returns : goal.returns
returns c =
    let t = c.args.tuple.now in
    rw (c.in_ok-end_line.ensures.put, c.in_ok-put_values.ensures.put, c.in_ok-put_number.ensures.put, c.in_ok-put_word.ensures.put, c.in_ok-put_first.ensures.put, c.as_slice.ensures)
    (line_in_parts c.args.text.now.items (codes "log") (c.args.name.now ∷ []) (decimal t.stime ∷ []) (map signed_decimal t.vals))
