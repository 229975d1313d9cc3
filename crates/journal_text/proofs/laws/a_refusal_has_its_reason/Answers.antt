use Rattle.journal_text.proofs.Refusals.{refused_with}
use Rattle.journal_text.proofs.laws.a_refusal_has_its_reason.Goals as goal

pub returns : goal.returns
returns c = record {
  reason = λ plan text entry reason refused. (refused_with plan text entry reason refused).1;
  entry = λ plan text entry reason refused. (refused_with plan text entry reason refused).0;
}
