use Rattle.audit_core.proofs.Judgements.{same-more, ends}
use Rattle.audit_core.proofs.judging.JudgeRowSinkUnit.give.Goals as goal

pub returns-in-Same-judge_row : goal.returns-in-Same-judge_row
returns-in-Same-judge_row c = λ start begin before h.
    let self = c.args.self.now in
    (h.0, same-more self.recorded self.next self.found before c.args.row.now c.in-Same.is c.in-Same-judge_row.ensures h.1)

pub returns-in_default-judge_row : goal.returns-in_default-judge_row
returns-in_default-judge_row c = λ start begin before h.
    let self = c.args.self.now in
    (h.0, ends self.recorded self.next self.found c.judge_row.result before c.args.row.now c.in-Same.is c.in_default-judge_row.not-Same c.judge_row.ensures h.1)
