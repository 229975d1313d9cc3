use Rattle.std.proofs.Common.{◌≡◌, ◌∙◌, true, false, refl, sym}
use Rattle.std.specs.Prelude.{bytes_eq}
use Rattle.std.proofs.lemmas.List.{take_all}
use Rattle.dpc_model.specs.ScriptText.{stream_name}
use Rattle.script_rules.proofs.Streams.{no_place}
use Rattle.script_draft.proofs.Names.{place-here, none-next}
use Rattle.script_check.proofs.names.place_of_stream.Goals as goal

pub returns-then-eq : goal.returns-then-eq
returns-then-eq c =
    let same : bytes_eq c.args.name.now c.name_of_stream.result.now ≡ true = sym c.eq.ensures ∙ c.if-eq.true in
    sym (place-here (stream_name c.args.plan.now) c.args.name.now c.loop-i.i _ _ c.args.streams.now c.loop-i-test.true refl c.loop-i.invariant (rw c.name_of_stream.ensures at same))

pub loop-i-preserved : goal.loop-i-preserved
loop-i-preserved c =
    let other : bytes_eq c.args.name.now c.name_of_stream.result.now ≡ false = sym c.eq.ensures ∙ c.if-eq.false in
    none-next (stream_name c.args.plan.now) c.args.name.now c.loop-i.i _ _ c.args.streams.now c.loop-i-test.true refl c.loop-i.invariant (rw c.name_of_stream.ensures at other)

pub returns : goal.returns
returns c =
    let all = take_all c.loop-i.i c.args.streams.now c.loop-i-test.false in
    sym (no_place c.args.name.now _ (rw all at c.loop-i.invariant))
