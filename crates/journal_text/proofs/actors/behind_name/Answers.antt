use Rattle.std.proofs.Common.{sym, ◌∙◌}
use Rattle.journal_text.proofs.Found.{behind-is, behind-other, behind-short}
use Rattle.journal_text.proofs.actors.behind_name.Goals as goal

pub returns-then-word-name : goal.returns-then-word-name
returns-then-word-name c = behind-short c.args.word.now c.args.name.now c.if-word-name.true

pub returns-then-eq : goal.returns-then-eq
returns-then-eq c =
    rw (behind-is c.args.word.now c.args.name.now c.split_at.result.0.now c.split_at.result.1.now c.split_at.ensures.front c.split_at.ensures.back (sym c.eq.ensures ∙ c.if-eq.true))
    c.behind_dot.ensures

pub returns-else-eq : goal.returns-else-eq
returns-else-eq c = behind-other c.args.word.now c.args.name.now c.split_at.result.0.now c.split_at.ensures.front (sym c.eq.ensures ∙ c.if-eq.false)
