use Rattle.law_schedules.proofs.Lockstep.{lock-world}
use Rattle.law_schedules.proofs.the_lockstep_journal_gives_its_world.Goals as goal

pub returns : goal.returns
returns c = lock-world
