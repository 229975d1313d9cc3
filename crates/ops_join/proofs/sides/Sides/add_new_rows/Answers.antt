use Rattle.std.proofs.Common.{◌<◌, length, refl, rules}
use Rattle.std.proofs.lemmas.Option.{slice_get_read}
use Rattle.dpc_model.specs.Operators.{are_partners}
use Rattle.ops_join.proofs.Steps.{places-inside, new-step}
use Rattle.ops_join.proofs.sides.Sides.add_new_rows.Goals as goal

pub add_rows-requires : goal.add_rows-requires
add_rows-requires c =
    let self = c.args.self.now in
    places-inside (are_partners c.args.within self.keys c.index-tuple.result.now) self.right c.partners.new.places.items c.in_ok-partners.ensures

pub loop-i-preserved : goal.loop-i-preserved
loop-i-preserved c =
    let self = c.args.self.now in
    let low : c.loop-i.i < length self.left = search rules in
    record {
      places = c.in_ok-add_rows.ensures.places;
      rows =
          new-step c.args.within self.keys self.left self.right c.args.from c.loop-i.i c.index-tuple.result.now c.partners.new.places.items c.loop-i.rows.items c.add_rows.new.rows.items _ c.loop-i.auto.i low
          (slice_get_read self.left (length self.left) c.loop-i.i c.index-tuple.result.now refl low (search rules)) c.in_ok-partners.ensures c.in_ok-add_rows.ensures.rows c.loop-i.invariant.rows;
    }
