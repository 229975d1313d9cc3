use Rattle.std.proofs.Common.{◌≡◌, ℕ, List, codes, decimal, OnOk, subst}
use Rattle.report.specs.Text.{tuple_words}
use Rattle.line_writer.proofs.Lines.{two_words}
use Rattle.report.proofs.text.put_stable.Goals as goal

pub returns-clause-put : goal.returns-clause-put
returns-clause-put c =
    let put = rw (c.in_ok-put_number.ensures.put, c.in_ok-put_first.ensures.put) at c.put_tuple.ensures.put in
    let P : List ℕ → Type 0 = λ t. OnOk c.put_tuple.result (c.put_tuple.new.text.items ≡ t) in
    subst P (two_words c.args.text.now.items (codes "stable") (decimal c.args.number) (tuple_words c.args.tuple.now)) put
