-- A text or a refusal is what an input that is not too long comes to.
use Rattle.std.proofs.Common.{◌≡◌, ◌≤◌, ◌∙◌, length, ap, sym, subst}
use Rattle.std.specs.Prelude.{vec_len}
use Rattle.journal_inputs.specs.Inputs.{upgraded_text}
use Rattle.stream_audits.specs.Judging.{audited_text}
use Rattle.journal_commands.specs.declared.outcome.JournalCommand.TheVariants.{Upgrade, Audit}
use Rattle.journal_commands.specs.Endings.{most_journal_input}
use Rattle.journal_commands.proofs.Answered.{short-is, then-IfOk}
use Rattle.journal_commands.proofs.answering.answer.Goals as goal

pub returns-in-Upgrade : goal.returns-in-Upgrade
returns-in-Upgrade c =
    let input = c.args.input.items in
    let told = rw c.as_slice.ensures.value at c.upgrade_text.ensures in
    let many : length input ≡ vec_len c.args.input = ap length (sym c.as_slice.ensures.value) ∙ c.as_slice.ensures.len in
    let short : length input ≤ most_journal_input = subst (λ n. n ≤ most_journal_input) (sym many) c.requires in
    rw c.in-Upgrade.is
    (then-IfOk c.text_answer.result (c.text_answer.ensures (upgraded_text input) told) _ (λ outcome h. short-is Upgrade input outcome short h))

pub returns-in-Audit : goal.returns-in-Audit
returns-in-Audit c =
    let input = c.args.input.items in
    let notation = c.in-Audit.notation in
    let told = rw c.as_slice-in-Audit.ensures.value at c.audit_text.ensures in
    let many : length input ≡ vec_len c.args.input = ap length (sym c.as_slice-in-Audit.ensures.value) ∙ c.as_slice-in-Audit.ensures.len in
    let short : length input ≤ most_journal_input = subst (λ n. n ≤ most_journal_input) (sym many) c.requires in
    rw c.in-Audit.is
    (then-IfOk c.text_answer-in-Audit.result (c.text_answer-in-Audit.ensures (audited_text notation input) told) _
    (λ outcome h. short-is (Audit notation) input outcome short h))
