use Rattle.law_safety.proofs.Promises.{sent-true}
use Rattle.law_safety.proofs.what_is_sent_is_true.Goals as goal

pub returns : goal.returns
returns c = sent-true
