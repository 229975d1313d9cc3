use Rattle.std.proofs.Common.{length, refl, rules}
use Rattle.std.proofs.lemmas.Option.{slice_get_read}
use Rattle.ops_join.proofs.Steps.{rows-step}
use Rattle.ops_join.proofs.sides.Sides.rows_of.Goals as goal

pub loop-pair-preserved : goal.loop-pair-preserved
loop-pair-preserved c =
    let self = c.args.self.now in
    let inside = c.requires c.loop-pair.pair-index (0, 0) c.loop-pair-test.true in
    rows-step self.left self.right c.args.pairs.now c.loop-pair.pair-index c.index.result.now c.index-in-loop-pair.result.now c.in_ok-row.field-0 c.loop-pair.rows.items c.push.new.self.items c.loop-pair-test.true
    (slice_get_read self.left (length self.left) _ c.index.result.now refl inside.0 (search rules)) (slice_get_read self.right (length self.right) _ c.index-in-loop-pair.result.now refl inside.1 (search rules))
    c.in_ok-row.ensures c.in_ok-push.ensures.items c.loop-pair.invariant
