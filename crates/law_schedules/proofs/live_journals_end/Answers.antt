use Rattle.law_schedules.proofs.Timely.{live-complete, live-ends}
use Rattle.law_schedules.proofs.live_journals_end.Goals as goal

pub returns : goal.returns
returns c = record { complete = live-complete; whole = live-ends }
