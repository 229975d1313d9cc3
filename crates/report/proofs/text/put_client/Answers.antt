use Rattle.std.proofs.Common.{◌≡◌, ℕ, List, [], ◌∷◌, codes, OnOk, subst, map}
use Rattle.report.specs.Text.{item_words, summary_words}
use Rattle.line_writer.proofs.Lines.{all_lines}
use Rattle.report.proofs.text.put_client.Goals as goal

pub returns-clause-put : goal.returns-clause-put
returns-clause-put c =
    let put = rw (c.in_ok-put_items.ensures.put, c.in_ok-put_name.ensures.put) at c.put_summary.ensures.put in
    let P : List ℕ → Type 0 = λ t. OnOk c.put_summary.result (c.put_summary.new.text.items ≡ t) in
    let name = c.args.name.now in
    subst P (all_lines c.args.text.now.items (codes "client" ∷ name ∷ []) (map item_words c.args.items.now) (summary_words name c.args.summary.now)) put
