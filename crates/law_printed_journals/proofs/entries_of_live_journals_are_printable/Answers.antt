use Rattle.law_printed_journals.proofs.Printable.{entries-named, entries-small}
use Rattle.law_printed_journals.proofs.entries_of_live_journals_are_printable.Goals as goal

pub returns : goal.returns
returns c = record { named = entries-named; small = entries-small }
