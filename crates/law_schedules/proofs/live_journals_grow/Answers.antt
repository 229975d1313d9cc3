use Rattle.law_schedules.proofs.Journals.{none-live, prefix-live, live-far, each-may, one-more, progress-run}
use Rattle.law_schedules.proofs.live_journals_grow.Goals as goal

pub returns : goal.returns
returns c = record { none = none-live; so_far = live-far; prefix = prefix-live; each = each-may; more = one-more; world = progress-run }
