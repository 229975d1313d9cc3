use Rattle.std.proofs.Common.{◌≡◌, [], ◌∷◌, sym, ◌∙◌}
use Rattle.script_rules.specs.Lines.{lines_of}
use Rattle.script_words.specs.Cursors.{lines_left}
use Rattle.journal_text.proofs.ByLines.{by_lines, no_opening, opening}
use Rattle.journal_text.proofs.reading.read_journal.Goals as goal

pub returns-in_default : goal.returns-in_default
returns-in_default c = rw c.refused.ensures (by_lines c.args.plan.now c.args.text.now [] (sym c.of-lines.ensures ∙ c.in_default.ensures.line))

pub returns-in_default-opened : goal.returns-in_default-opened
returns-in_default-opened c =
    let lines : lines_of c.args.text.now ≡ c.in-Some.first.now ∷ lines_left c.next.new.self = sym c.of-lines.ensures ∙ c.in-Some.ensures.line in
    rw c.refused-in_default-opened.ensures (no_opening c.args.plan.now c.args.text.now c.in-Some.first.now (lines_left c.next.new.self) lines c.in_default-opened.ensures)

pub loop-line-init : goal.loop-line-init
loop-line-init c =
    let lines : lines_of c.args.text.now ≡ c.in-Some.first.now ∷ lines_left c.next.new.self = sym c.of-lines.ensures ∙ c.in-Some.ensures.line in
    rw c.new-events.ensures.items (opening c.args.plan.now c.args.text.now c.in-Some.first.now (lines_left c.next.new.self) c.in-Some-opened.count lines c.in-Some-opened.ensures)
