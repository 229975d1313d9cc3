use Rattle.law_schedules.proofs.Lockstep.{lock-live}
use Rattle.law_schedules.proofs.the_lockstep_journal_is_live.Goals as goal

pub returns : goal.returns
returns c = lock-live
