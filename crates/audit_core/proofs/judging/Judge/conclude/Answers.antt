use Rattle.std.proofs.Common.{◌∙◌, ap, sym, arith, Ok}
use Rattle.audit_core.proofs.Judgements.{both-end, recorded-more, verdict-by}
use Rattle.audit_core.proofs.judging.Judge.conclude.Goals as goal

pub returns-then-next-len : goal.returns-then-next-len
returns-then-next-len c = λ r rows rest h found none.
    let judge = c.args.self in
    ap Ok (verdict-by judge.recorded r c.args.end _ _ h (recorded-more judge.recorded judge.next judge.found rows rest c.in-Same.is found (none c.if-not-all.false) (omega (arith, c.len.ensures, judge.recorded.stable.ok.0))) ∙ sym c.difference-then-next-len.ensures)

pub returns-else-next-len : goal.returns-else-next-len
returns-else-next-len c = λ r rows rest h found none.
    let judge = c.args.self in
    ap Ok (verdict-by judge.recorded r c.args.end _ _ h (both-end judge.recorded judge.next judge.found rows rest c.in-Same.is found (none c.if-not-all.false) (omega (arith, c.len.ensures, judge.recorded.stable.ok.0))) ∙ sym (c.accepted-else-next-len.ensures r h))
