use Rattle.std.proofs.Common.{rules, ◌≡◌, ◌≤◌, ◌-◌, ◌/◌, take, List, subst}
use Rattle.std.proofs.lemmas.List.{take_all}
use Rattle.std.specs.List.{All}
use Rattle.dpc_model.specs.Reading.{tuples_in}
use Rattle.dpc_model.specs.declared.tuples.Tuple.{Tuple}
use Rattle.dpc_model.specs.declared.tuples.Item.{Item}
use Rattle.sunion.proofs.Stamping.{latest-more, farthest-of}
use Rattle.sunion.proofs.clocks.farthest.Goals as goal

pub loop-item-preserved : goal.loop-item-preserved
loop-item-preserved c =
    let more : c.loop-item.latest ≤ c.max-latest.result = search rules in
    let up : c.time_of.result ≤ c.max-latest.result = search rules in
    latest-more c.loop-item.item-index c.args.items.now c.item-item.result c.loop-item.latest c.time_of.result c.max-latest.result
    c.loop-item-test.true c.item-item.is c.loop-item.invariant c.time_of.ensures more up

pub returns : goal.returns
returns c =
    let whole : take c.loop-item.item-index c.args.items.now ≡ c.args.items.now = take_all c.loop-item.item-index c.args.items.now c.loop-item-test.false in
    let far : c.loop-item.latest / c.args.width - c.args.cursor ≤ c.saturating_sub.result = search rules in
    farthest-of c.args.width c.args.cursor c.loop-item.latest c.saturating_sub.result c.args.items.now c.requires far
    (subst (λ (items : List Item). All (λ (t : Tuple). t.stime ≤ c.loop-item.latest) (tuples_in items)) whole c.loop-item.invariant)
