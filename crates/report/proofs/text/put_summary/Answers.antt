use Rattle.std.proofs.Common.{codes, decimal}
use Rattle.report.specs.Text.{settled_word}
use Rattle.line_writer.proofs.Lines.{nine_words}
use Rattle.report.proofs.text.put_summary.Goals as goal

pub returns-clause-put : goal.returns-clause-put
returns-clause-put c =
    let s = c.args.summary.now in
    rw (c.in_ok-push.ensures.items, c.in_ok-put_settled.ensures.put, c.in_ok-put_count-3.ensures.put, c.in_ok-put_count-2.ensures.put, c.in_ok-put_count.ensures.put, c.in_ok-put_word.ensures.put, c.in_ok-put_first.ensures.put)
    (nine_words c.args.text.now.items (codes "summary") c.args.name.now (codes "stable") (decimal s.stable) (codes "bound") (decimal s.bound) (codes "tentative") (decimal s.tentative) (settled_word s.settled))
