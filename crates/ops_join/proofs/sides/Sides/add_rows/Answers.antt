use Rattle.std.proofs.Common.{◌≡◌, ◌∷◌, reverse, length, refl, rules}
use Rattle.std.proofs.lemmas.Option.{slice_get_read}
use Rattle.dpc_model.specs.Operators.{paired}
use Rattle.ops_join.proofs.Steps.{turned, rows-pop}
use Rattle.ops_join.proofs.sides.Sides.add_rows.Goals as goal

pub loop-place-preserved : goal.loop-place-preserved
loop-place-preserved c =
    let right = c.args.self.now.right in
    let back : reverse c.loop-place.places.items ≡ c.in-Some.place ∷ reverse c.pop.new.self.items = turned c.loop-place.places.items c.pop.new.self.items c.in-Some.place (search rules) in
    let inside = rw back at c.loop-place.invariant.inside in
    record {
      inside = inside.1;
      rows =
          rows-pop (paired c.args.left.now) right c.loop-place.rows.items c.push.new.self.items _ (reverse c.loop-place.places.items) (reverse c.pop.new.self.items) c.in-Some.place c.index.result.now c.in_ok-row.field-0
          back (slice_get_read right (length right) c.in-Some.place c.index.result.now refl inside.0 (search rules)) c.in_ok-row.ensures c.in_ok-push.ensures.items c.loop-place.invariant.rows;
    }
