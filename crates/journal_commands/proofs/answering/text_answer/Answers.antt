-- What the text is comes to what is written.
use Rattle.std.proofs.Common.{◌≡◌, ◌∙◌, ap, sym, subst}
use Rattle.std.specs.Prelude.{Ok, Err}
use Rattle.journal_inputs.specs.Inputs.{IsText}
use Rattle.journal_inputs.specs.declared.faults.InputFault.TheVariants.{Refused}
use Rattle.journal_commands.specs.Endings.{text_ending, RefusedBy}
use Rattle.journal_commands.proofs.answering.text_answer.Goals as goal

pub returns-in-Ok : goal.returns-in-Ok
returns-in-Ok c = λ is h. let told : is ≡ Ok c.in-Ok.text.items = rw c.in-Ok.is at h in ap text_ending told

pub returns-in_ok-refusal_line-in-Refused : goal.returns-in_ok-refusal_line-in-Refused
returns-in_ok-refusal_line-in-Refused c = λ is h.
    let told : is ≡ Err c.in-Refused.why = subst (λ r. IsText is r) (c.in-Err.is ∙ ap Err c.in-Refused.is) h in
    ap text_ending told ∙ ap RefusedBy (sym (c.in_ok-refusal_line-in-Refused.ensures {u = tt}))
