use Rattle.law_journals.proofs.Sizes.{few-actors}
use Rattle.law_journals.proofs.Entries.{entry-is, small-numbers, restarts-within, within-limits, clocked}
use Rattle.law_journals.proofs.entries_name_what_is_there.Goals as goal

pub returns : goal.returns
returns c = record { entry = entry-is; numbers = small-numbers; actors = few-actors; restarts = restarts-within; limits = within-limits; clocked = clocked }
