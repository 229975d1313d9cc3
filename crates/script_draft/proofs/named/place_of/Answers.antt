use Rattle.std.proofs.Common.{◌≡◌, ◌∙◌, true, false, sym}
use Rattle.std.specs.Prelude.{bytes_eq}
use Rattle.std.proofs.lemmas.List.{take_all}
use Rattle.script_rules.proofs.Streams.{no_place}
use Rattle.script_draft.proofs.Names.{place-here, none-next}
use Rattle.script_draft.proofs.named.place_of.Goals as goal

pub returns-then-eq : goal.returns-then-eq
returns-then-eq g c =
    let same : bytes_eq c.args.name.now (g.T.Named.name c.index-all-i.result) ≡ true = rw (← c.name.ensures) (sym c.eq.ensures ∙ c.if-eq.true) in
    sym (place-here g.T.Named.name c.args.name.now c.loop-i.i c.index-all-i.result c.index-all-i.result c.args.all.now c.loop-i-test.true c.index-all-i.is c.loop-i.invariant same)

pub loop-i-preserved : goal.loop-i-preserved
loop-i-preserved g c =
    let other : bytes_eq c.args.name.now (g.T.Named.name c.index-all-i.result) ≡ false = rw (← c.name.ensures) (sym c.eq.ensures ∙ c.if-eq.false) in
    none-next g.T.Named.name c.args.name.now c.loop-i.i c.index-all-i.result c.index-all-i.result c.args.all.now c.loop-i-test.true c.index-all-i.is c.loop-i.invariant other

pub returns : goal.returns
returns g c =
    let all = take_all c.loop-i.i c.args.all.now c.loop-i-test.false in
    sym (no_place c.args.name.now _ (rw all at c.loop-i.invariant))
