use Rattle.std.proofs.Common.{◌<◌, length, refl, rules}
use Rattle.std.proofs.lemmas.Option.{slice_get_read}
use Rattle.dpc_model.specs.Operators.{are_partners}
use Rattle.ops_join.proofs.Steps.{places-inside}
use Rattle.ops_join.proofs.Giving.{left-next}
use Rattle.ops_join.proofs.Givings.{gave-more, gave-stop, on-err}
use Rattle.ops_join.proofs.sides.Sides.give_left.Goals as goal

pub give_partners-requires : goal.give_partners-requires
give_partners-requires g c =
    let self = c.args.self.now in
    places-inside (are_partners c.args.within self.keys c.index-tuple.result.now) self.right c.partners.new.places.items c.in_ok-partners.ensures

pub returns-in_err-give_partners-clause-first : goal.returns-in_err-give_partners-clause-first
returns-in_err-give_partners-clause-first g c =
    let self = c.args.self.now in
    let left = c.args.left.now.items in
    let low : c.loop-i.i < length left = search rules in
    let next = left-next c.args.within self.keys left self.right c.loop-i.i c.index-tuple.result.now c.partners.new.places.items (slice_get_read left (length left) c.loop-i.i c.index-tuple.result.now refl low (search rules)) c.in_ok-partners.ensures in
    on-err _ (gave-stop _ _ _ _ _ _ _ next c.loop-i.invariant.gave c.in_err-give_partners.ensures.first)

pub loop-i-preserved : goal.loop-i-preserved
loop-i-preserved g c =
    let self = c.args.self.now in
    let left = c.args.left.now.items in
    let low : c.loop-i.i < length left = search rules in
    let next = left-next c.args.within self.keys left self.right c.loop-i.i c.index-tuple.result.now c.partners.new.places.items (slice_get_read left (length left) c.loop-i.i c.index-tuple.result.now refl low (search rules)) c.in_ok-partners.ensures in
    record { places = c.in_ok-give_partners.ensures.places; gave = gave-more _ _ _ _ _ _ _ next c.loop-i.invariant.gave c.in_ok-give_partners.ensures.rows }
