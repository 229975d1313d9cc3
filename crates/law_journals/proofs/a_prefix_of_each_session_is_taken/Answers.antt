use Rattle.law_journals.proofs.PrefixesTaken.{prefixes-taken}
use Rattle.law_journals.proofs.a_prefix_of_each_session_is_taken.Goals as goal

pub returns : goal.returns
returns c = prefixes-taken
