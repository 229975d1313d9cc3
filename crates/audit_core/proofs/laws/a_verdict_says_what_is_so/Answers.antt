use Rattle.audit_core.proofs.Lawful.{says-so}
use Rattle.audit_core.proofs.laws.a_verdict_says_what_is_so.Goals as goal

pub returns : goal.returns
returns c = says-so
