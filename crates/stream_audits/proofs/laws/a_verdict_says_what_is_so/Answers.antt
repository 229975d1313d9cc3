use Rattle.stream_audits.proofs.Judged.{is_judged}
use Rattle.stream_audits.proofs.laws.a_verdict_says_what_is_so.Goals as goal

pub returns : goal.returns
returns c = is_judged
