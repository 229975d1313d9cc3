use Rattle.std.proofs.Common.{◌∷◌, [], length, refl, rules}
use Rattle.std.proofs.lemmas.Option.{slice_get_read}
use Rattle.ops_join.proofs.Giving.{pairs-next}
use Rattle.ops_join.proofs.Givings.{gave-more, gave-first, on-err}
use Rattle.ops_join.proofs.sides.Sides.give_pairs.Goals as goal

pub returns-in_err-give-clause-first : goal.returns-in_err-give-clause-first
returns-in_err-give-clause-first g c =
    let self = c.args.self.now in
    let inside = c.requires c.loop-pair.pair-index (0, 0) c.loop-pair-test.true in
    let next = pairs-next self.left self.right c.args.pairs.now c.loop-pair.pair-index c.index.result.now c.index-in-loop-pair.result.now c.in_ok-row.row c.loop-pair-test.true
    (slice_get_read self.left (length self.left) _ c.index.result.now refl inside.0 (search rules)) (slice_get_read self.right (length self.right) _ c.index-in-loop-pair.result.now refl inside.1 (search rules))
    c.in_ok-row.ensures in
    on-err _ (gave-first _ _ _ _ (gave-more _ _ _ (c.in_ok-row.row ∷ []) _ _ _ next c.loop-pair.invariant c.give.ensures))

pub loop-pair-preserved : goal.loop-pair-preserved
loop-pair-preserved g c =
    let self = c.args.self.now in
    let inside = c.requires c.loop-pair.pair-index (0, 0) c.loop-pair-test.true in
    let next = pairs-next self.left self.right c.args.pairs.now c.loop-pair.pair-index c.index.result.now c.index-in-loop-pair.result.now c.in_ok-row.row c.loop-pair-test.true
    (slice_get_read self.left (length self.left) _ c.index.result.now refl inside.0 (search rules)) (slice_get_read self.right (length self.right) _ c.index-in-loop-pair.result.now refl inside.1 (search rules))
    c.in_ok-row.ensures in
    gave-more _ _ _ (c.in_ok-row.row ∷ []) _ _ _ next c.loop-pair.invariant c.give.ensures
