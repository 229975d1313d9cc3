use Rattle.std.proofs.Common.{◌≡◌, ◌<◌, ◌∷◌, [], reverse, length, refl, rules}
use Rattle.std.proofs.lemmas.Option.{slice_get_read}
use Rattle.std.proofs.lemmas.List.Elements.{recursion_from_All}
use Rattle.dpc_model.specs.Operators.{paired}
use Rattle.ops_join.proofs.Steps.{turned}
use Rattle.ops_join.proofs.Giving.{partners-pop}
use Rattle.ops_join.proofs.Givings.{gave-none, gave-more, gave-first, on-err}
use Rattle.ops_join.proofs.sides.Sides.give_partners.Goals as goal

pub loop-place-init : goal.loop-place-init
loop-place-init g c = record { inside = recursion_from_All (λ p. p < length c.args.self.now.right) (reverse c.args.places.now.items) c.requires; gave = gave-none _ _ }

pub returns-in_err-give-clause-first : goal.returns-in_err-give-clause-first
returns-in_err-give-clause-first g c =
    let right = c.args.self.now.right in
    let back : reverse c.loop-place.places.items ≡ c.in-Some.place ∷ reverse c.pop.new.self.items = turned c.loop-place.places.items c.pop.new.self.items c.in-Some.place (search rules) in
    let inside = rw back at c.loop-place.invariant.inside in
    let next = partners-pop (paired c.args.left.now) right (reverse c.loop-place.places.items) (reverse c.pop.new.self.items) c.in-Some.place c.index.result.now c.in_ok-row.row
    back (slice_get_read right (length right) c.in-Some.place c.index.result.now refl inside.0 (search rules)) c.in_ok-row.ensures in
    on-err _ (gave-first _ _ _ _ (gave-more _ _ _ (c.in_ok-row.row ∷ []) _ _ _ next c.loop-place.invariant.gave c.give.ensures))

pub loop-place-preserved-in_ok-give : goal.loop-place-preserved-in_ok-give
loop-place-preserved-in_ok-give g c =
    let right = c.args.self.now.right in
    let back : reverse c.loop-place.places.items ≡ c.in-Some.place ∷ reverse c.pop.new.self.items = turned c.loop-place.places.items c.pop.new.self.items c.in-Some.place (search rules) in
    let inside = rw back at c.loop-place.invariant.inside in
    let next = partners-pop (paired c.args.left.now) right (reverse c.loop-place.places.items) (reverse c.pop.new.self.items) c.in-Some.place c.index.result.now c.in_ok-row.row
    back (slice_get_read right (length right) c.in-Some.place c.index.result.now refl inside.0 (search rules)) c.in_ok-row.ensures in
    record { inside = inside.1; gave = gave-more _ _ _ (c.in_ok-row.row ∷ []) _ _ _ next c.loop-place.invariant.gave c.give.ensures }

pub loop-place-preserved : goal.loop-place-preserved
loop-place-preserved g c =
    let right = c.args.self.now.right in
    let back : reverse c.loop-place.places.items ≡ c.in-Some.place ∷ reverse c.pop.new.self.items = turned c.loop-place.places.items c.pop.new.self.items c.in-Some.place (search rules) in
    let inside = rw back at c.loop-place.invariant.inside in
    let next = partners-pop (paired c.args.left.now) right (reverse c.loop-place.places.items) (reverse c.pop.new.self.items) c.in-Some.place c.index.result.now c.in_ok-row.row
    back (slice_get_read right (length right) c.in-Some.place c.index.result.now refl inside.0 (search rules)) c.in_ok-row.ensures in
    record { inside = inside.1; gave = gave-more _ _ _ (c.in_ok-row.row ∷ []) _ _ _ next c.loop-place.invariant.gave c.give.ensures }
