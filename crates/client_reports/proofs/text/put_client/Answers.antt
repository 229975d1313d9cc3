use Rattle.std.proofs.Common.{◌∷◌, [], codes, map}
use Rattle.report.specs.Text.{item_words, summary_words}
use Rattle.line_writer.proofs.Lines.{all_lines}
use Rattle.client_reports.specs.Telling.{summary_by}
use Rattle.client_reports.proofs.text.put_client.Goals as goal

pub returns : goal.returns
returns c =
    let v = c.args.client.now in
    let name = c.args.name.now in
    rw (c.in_ok-put_summary.ensures.put, c.summary.ensures, c.in_ok-put_taken.ensures, c.taken.ensures, c.in_ok-put_name.ensures.put)
    (all_lines c.args.text.now.items (codes "client" ∷ name ∷ []) (map item_words v.taken) (summary_words name (summary_by v)))
