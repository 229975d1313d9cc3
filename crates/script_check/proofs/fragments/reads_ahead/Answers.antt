use Rattle.std.proofs.Common.{refl, sym, ap, ◌∙◌}
use Rattle.std.specs.Prelude.{is_none}
use Rattle.dpc_model.specs.ScriptText.{stream_name}
use Rattle.script_check.specs.Locals.{stream_of}
use Rattle.script_check.proofs.Places.{any-named}
use Rattle.script_check.proofs.fragments.reads_ahead.Goals as goal

pub returns-in-loop-stream : goal.returns-in-loop-stream
returns-in-loop-stream c =
    let plan = c.args.plan.now in
    let before = c.args.before.now in
    sym (any-named (λ w. is_none (stream_of plan.sources before w)) (stream_name plan) c.loop-stream.stream-index _ _ c.args.streams.now c.loop-stream-test.true refl
    (ap (λ w. is_none (stream_of plan.sources before w)) (sym c.name_of_stream-name.ensures) ∙ ap (λ s. is_none (stream_of s before c.name_of_stream-name.result.now)) (sym c.as_slice.ensures)
    ∙ ap is_none (sym c.stream_of.ensures ∙ c.in-None.is)))
