-- What is read can be milled, and what stands behind it is judged.
use Rattle.std.proofs.Common.{Some, None, refl}
use Rattle.std.specs.Prelude.{Err}
use Rattle.stream_audits.proofs.Ideals.{read_ideal}
use Rattle.stream_audits.proofs.Judged.{script_in_is, script_judged}
use Rattle.stream_audits.proofs.judging.judge.Goals as goal

pub judge_behind-requires : goal.judge_behind-requires
judge_behind-requires c = read_ideal c.split_input.result.0.now c.in-Ok.script (script_in_is c.split_input.result.0.now c.in-Ok.script c.in-Ok.ensures)

pub returns-in-Some : goal.returns-in-Some
returns-in-Some c =
    let there = c.split_input.ensures.behind in
    script_judged c.args.notation c.args.input.now c.split_input.result.0.now c.stream_key.result.now c.in-Ok.script (Some c.in-Some.text.now) c.judge_behind.result
    c.stream_key.ensures c.split_input.ensures.script c.in-Ok.ensures (rw c.in-Some.is at there) c.judge_behind.ensures

pub returns-in-Ok : goal.returns-in-Ok
returns-in-Ok c =
    let there = c.split_input.ensures.behind in
    script_judged c.args.notation c.args.input.now c.split_input.result.0.now c.stream_key.result.now c.in-Ok.script None (Err c.refused.result)
    c.stream_key.ensures c.split_input.ensures.script c.in-Ok.ensures (rw c.in-None.is at there) (rw c.refused.ensures refl)
