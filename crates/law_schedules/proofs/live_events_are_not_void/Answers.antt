use Rattle.law_schedules.proofs.Journals.{delivers-so, mills-so}
use Rattle.law_schedules.proofs.Timely.{ticks-so}
use Rattle.law_schedules.proofs.live_events_are_not_void.Goals as goal

pub returns : goal.returns
returns c = record { delivers = delivers-so; mills = mills-so; ticks = ticks-so }
