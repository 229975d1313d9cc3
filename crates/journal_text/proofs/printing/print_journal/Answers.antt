use Rattle.std.proofs.Common.{[], map, length}
use Rattle.line_writer.proofs.Lines.{block_in_parts}
use Rattle.journal_text.specs.Entries.{entry_words}
use Rattle.journal_text.specs.Journals.{first_words, last_lines, journal_text}
use Rattle.journal_text.proofs.printing.print_journal.Goals as goal

pub returns : goal.returns
unfolding journal_text
returns c =
    let plan = c.args.plan.now in
    let events = c.args.events.now in
    rw (c.in_ok-put_end.ensures, c.in_ok-put_entries.ensures, c.in_ok-put_opening.ensures, c.new-text.ensures.items)
    (block_in_parts [] (first_words plan (length events)) (map (entry_words plan) events) (last_lines c.args.ended))
