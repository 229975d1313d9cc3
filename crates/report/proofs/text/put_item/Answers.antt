use Rattle.std.proofs.Common.{◌≡◌, ℕ, List, codes, OnOk, subst}
use Rattle.report.specs.Text.{tuple_words}
use Rattle.line_writer.proofs.Lines.{more_words}
use Rattle.report.proofs.text.put_item.Goals as goal

pub returns-in_ok-put_first-in-Tentative-clause-put : goal.returns-in_ok-put_first-in-Tentative-clause-put
returns-in_ok-put_first-in-Tentative-clause-put c =
    let put = rw c.in_ok-put_first-in-Tentative.ensures.put at c.put_tuple.ensures.put in
    let P : List ℕ → Type 0 = λ t. OnOk c.put_tuple.result (c.put_tuple.new.text.items ≡ t) in
    rw c.in-Tentative.is (subst P (more_words c.args.text.now.items (codes "tentative") (tuple_words c.in-Tentative.tuple)) put)
