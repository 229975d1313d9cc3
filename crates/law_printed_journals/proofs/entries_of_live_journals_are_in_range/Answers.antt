use Rattle.law_printed_journals.proofs.Ranged.{entries-ranged}
use Rattle.law_printed_journals.proofs.entries_of_live_journals_are_in_range.Goals as goal

pub returns : goal.returns
returns c = entries-ranged
