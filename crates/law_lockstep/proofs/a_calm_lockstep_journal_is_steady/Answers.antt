use Rattle.law_lockstep.proofs.Heard.{lock-steady}
use Rattle.law_lockstep.proofs.a_calm_lockstep_journal_is_steady.Goals as goal

pub returns : goal.returns
returns c = lock-steady
