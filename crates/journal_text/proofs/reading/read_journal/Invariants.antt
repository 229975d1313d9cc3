use Rattle.std.proofs.Common.{◌≡◌, length}
use Rattle.script_words.specs.Cursors.{lines_left}
use Rattle.journal_text.specs.Journals.{entries_of, journal_of}
use Rattle.journal_text.proofs.reading.read_journal.Given as goal

-- the journal is what the lines that are left give behind these entries
abbrev pub invariant-loop-line : goal.invariant-loop-line
invariant-loop-line l = entries_of l.plan l.count l.events.items (lines_left l.lines) ≡ journal_of l.plan l.text

abbrev pub decreases-loop-line : goal.decreases-loop-line
decreases-loop-line l = length (lines_left l.lines)
