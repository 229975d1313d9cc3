use Rattle.std.proofs.Common.{◌≡◌, ◌++◌, take, map}
use Rattle.dpc_model.specs.Words.{text_of}
use Rattle.journal_text.specs.Entries.{entry_words}
use Rattle.journal_text.proofs.printing.put_entries.Given as goal

abbrev pub invariant-loop-event : goal.invariant-loop-event
invariant-loop-event l = l.text.items ≡ l.fn.text.items ++ text_of (map (entry_words l.plan) (take l.event-index l.events))
