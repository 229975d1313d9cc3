-- What was read to its end comes to what is defined, and what is longer than the longest is refused.
use Rattle.std.proofs.Common.{ap, inl, Err, arith}
use Rattle.script_rules.specs.declared.reasons.Reason.TheVariants.{PastLimit}
use Rattle.live_commands.specs.Endings.{Refused}
use Rattle.borealis_top.proofs.Lived.{long-LiveComesTo}
use Rattle.borealis_top.proofs.live.outcome_of.Goals as goal

pub returns-in-Ok-answer-clause-ok : goal.returns-in-Ok-answer-clause-ok
returns-in-Ok-answer-clause-ok g c =
    let h = c.in-Ok-answer.ensures in (
      h.0,
      record { text = c.in-Ok.text.items; gave = c.in-Ok.ensures.gave; whole = inl c.in-Ok.ensures.end; can = h.1 },
      h.2,
    )

pub returns-in-Ok-fault_line-clause-ok : goal.returns-in-Ok-fault_line-clause-ok
returns-in-Ok-fault_line-clause-ok g c =
    let long = c.in-Err-TooLong.ensures.long (ap Err c.in-Err-TooLong.field-0-is) in (
      Refused (record { line = 0; reason = PastLimit }),
      long-LiveComesTo c.args.command (g.S.Source.edge c.args.input.now) (g.S.Source.edge c.read_whole.new.input) long.0 long.1 (omega (arith, long.2)),
      c.in-Ok-fault_line.ensures,
    )
