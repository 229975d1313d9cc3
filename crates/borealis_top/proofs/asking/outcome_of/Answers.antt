-- What was read to its end comes to what is defined, and what is longer than the longest is refused.
use Rattle.std.proofs.Common.{◌∙◌, ◌+◌, ap, sym, refl, inl, inr, Err, arith}
use Rattle.script_rules.specs.declared.reasons.Reason.TheVariants.{PastLimit}
use Rattle.status_lines.specs.Lines.{fault_line}
use Rattle.journal_commands.specs.Endings.{RefusedBy}
use Rattle.borealis_top.proofs.asking.outcome_of.Goals as goal

pub returns-in-Ok-answer-clause-ok : goal.returns-in-Ok-answer-clause-ok
returns-in-Ok-answer-clause-ok g c =
    let text = c.in-Ok.text.items in
    let e = c.in-Ok-answer.ensures in
    (e.0, record { text = text; gave = c.in-Ok.ensures.gave; whole = inl c.in-Ok.ensures.end; comes = e.1; holds = c.is_sound.ensures.all text }, e.2)

pub returns-in-Ok-fault_line-clause-ok : goal.returns-in-Ok-fault_line-clause-ok
returns-in-Ok-fault_line-clause-ok g c =
    let long = c.in-Err-TooLong.ensures.long (ap Err c.in-Err-TooLong.field-0-is) in (
      RefusedBy (fault_line (record { line = 0; reason = PastLimit })),
      record {
        text = long.0;
        gave = long.1;
        whole = inr (long.2 ∙ ap (λ n. n + 1) c.most_input.ensures.most);
        comes = (c.is_sound.ensures.long long.0 (RefusedBy (fault_line (record { line = 0; reason = PastLimit }))) (let most = c.most_input.ensures.most in omega (arith, long.2, most))).1 refl;
        holds = c.is_sound.ensures.all long.0;
      },
      ap RefusedBy (sym c.in-Ok-fault_line.ensures),
    )
