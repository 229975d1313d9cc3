use Rattle.std.proofs.Common.{◌<◌, length, refl, rules}
use Rattle.std.proofs.lemmas.Option.{slice_get_read}
use Rattle.dpc_model.specs.Operators.{are_partners}
use Rattle.ops_join.proofs.Steps.{late-step}
use Rattle.ops_join.proofs.sides.Sides.few_late_pairs.Goals as goal

pub loop-i-preserved : goal.loop-i-preserved
loop-i-preserved c =
    let self = c.args.self.now in
    let low : c.loop-i.i < length self.right = search rules in
    record {
      places = c.in_ok-add_pairs.ensures.places;
      pairs =
          late-step (are_partners c.args.within self.keys) self.left self.right c.loop-i.i c.index.result.now c.partners.new.places.items c.loop-i.pairs.items c.add_pairs.new.pairs.items _
          (slice_get_read self.right (length self.right) c.loop-i.i c.index.result.now refl low (search rules)) c.in_ok-partners.ensures c.in_ok-add_pairs.ensures.pairs c.loop-i.invariant.pairs;
    }
