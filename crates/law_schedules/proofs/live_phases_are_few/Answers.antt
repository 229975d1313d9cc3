use Rattle.law_schedules.proofs.Journals.{phases-counted, phases-few}
use Rattle.law_schedules.proofs.live_phases_are_few.Goals as goal

pub returns : goal.returns
returns c = record { counted = phases-counted; few = phases-few }
