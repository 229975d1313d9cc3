-- What was read is a script, whose answer is told, or it is refused.
use Rattle.std.proofs.Common.{subst, inr, Err, true, false, ap, arith}
use Rattle.script_rules.specs.Reading.{script_in}
use Rattle.ideal_run.specs.IdealPlans.{IsIdealPlan}
use Rattle.stream_audits.proofs.Ideals.{read_ideal}
use Rattle.law_checked_runs.proofs.Names.{reads_have_plain_names}
use Rattle.borealis_top.proofs.Runs.{read_can_run}
use Rattle.borealis_top.proofs.Ended.{WasRead, long-refusal, long-whole, read-in_part, read-Answers, told-ReadEnds, open-ReadEnds, refused-ReadEnds, Stays-same}
use Rattle.borealis_top.proofs.plain.read.Goals as goal

pub answer_script-requires-clause-ideal : goal.answer_script-requires-clause-ideal
answer_script-requires-clause-ideal g c = read_ideal c.as_slice.result.now c.in-Ok-script.script c.in-Ok-script.ensures

pub answer_script-requires-clause-run : goal.answer_script-requires-clause-run
answer_script-requires-clause-run g c = read_can_run c.as_slice.result.now c.in-Ok-script.script c.in-Ok-script.ensures

pub answer_script-requires-clause-names : goal.answer_script-requires-clause-names
answer_script-requires-clause-names g c = reads_have_plain_names c.as_slice.result.now c.in-Ok-script.script (ap script_in c.in-Ok-script.ensures)

pub told_ideal-requires : goal.told_ideal-requires
told_ideal-requires g c =
    let answer = rw c.in-Ok-Ideal.field-0-is at (c.in-Ok-Ideal.ensures {u = tt}) in
    subst IsIdealPlan answer.1 (read_ideal c.as_slice.result.now c.in-Ok-script.script c.in-Ok-script.ensures)

pub returns-in-Err-TooLong-clause-ends : goal.returns-in-Err-TooLong-clause-ends
returns-in-Err-TooLong-clause-ends g c =
    let long = c.in-Err-TooLong.ensures.long (ap Err c.in-Err-TooLong.field-0-is) in
    let source = g.S.Source in
    let out = g.O.Sink.edge c.args.out.now in
    refused-ReadEnds c.args.reading (source.edge c.args.input.now) (source.edge c.read_whole.new.input) out out (g.E.Sink.edge c.args.err.now) (g.E.Sink.edge c.refused.new.err) _ c.refused.result
    (record { text = long.0; gave = long.1; whole = inr (omega (arith, long.2)); refused = long-refusal long.0 (omega (arith, long.2)) }) (Stays-same out)
    (read-in_part (source.edge c.args.input.now) (source.edge c.read_whole.new.input) long.0 long.1 (omega (arith, long.2))) long.1.faults c.refused.ensures

pub returns-in-Err-TooLong-clause-complete : goal.returns-in-Err-TooLong-clause-complete
returns-in-Err-TooLong-clause-complete g c =
    let long = c.in-Err-TooLong.ensures.long (ap Err c.in-Err-TooLong.field-0-is) in
    let source = g.S.Source in
    let out = g.O.Sink.edge c.args.out.now in
    long-whole c.args.reading (source.edge c.args.input.now) (source.edge c.read_whole.new.input) out out (g.E.Sink.edge c.args.err.now) (g.E.Sink.edge c.refused.new.err) c.refused.result
    long.0 long.1 (omega (arith, long.2))

pub returns-in-Ok-Text-clause-ends : goal.returns-in-Ok-Text-clause-ends
returns-in-Ok-Text-clause-ends g c =
    let s = c.in-Ok-script.script in
    let input = g.S.Source.edge c.args.input.now in
    let input_new = g.S.Source.edge c.read_whole.new.input in
    let err = g.E.Sink.edge c.args.err.now in
    let was : WasRead input input_new s = record { text = c.in-Ok.text.items; gave = c.in-Ok.ensures.gave; end = c.in-Ok.ensures.end; reads = rw c.as_slice.ensures.value at c.in-Ok-script.ensures } in
    let text = c.in-Ok-Text.text.items in
    told-ReadEnds c.args.reading input input_new (g.O.Sink.edge c.args.out.now) (g.O.Sink.edge c.told.new.sink) err err text c.told.result
    (read-Answers c.args.reading input input_new s false text was (rw c.in-Ok-Text.field-0-is at c.in-Ok-Text.ensures)) (Stays-same err) (rw c.as_slice-in-Ok-Text.ensures.value at c.told.ensures)

pub returns-in-Ok-Open-clause-ends : goal.returns-in-Ok-Open-clause-ends
returns-in-Ok-Open-clause-ends g c =
    let s = c.in-Ok-script.script in
    let input = g.S.Source.edge c.args.input.now in
    let input_new = g.S.Source.edge c.read_whole.new.input in
    let was : WasRead input input_new s = record { text = c.in-Ok.text.items; gave = c.in-Ok.ensures.gave; end = c.in-Ok.ensures.end; reads = rw c.as_slice.ensures.value at c.in-Ok-script.ensures } in
    let text = c.in-Ok-Open.text.items in
    open-ReadEnds c.args.reading input input_new (g.O.Sink.edge c.args.out.now) (g.O.Sink.edge c.told_open.new.out) (g.E.Sink.edge c.args.err.now) (g.E.Sink.edge c.told_open.new.err) text c.told_open.result
    (read-Answers c.args.reading input input_new s true text was (rw c.in-Ok-Open.field-0-is at c.in-Ok-Open.ensures)) (rw c.as_slice-in-Ok-Open.ensures.value at c.told_open.ensures)
