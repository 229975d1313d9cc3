use Rattle.std.proofs.Common.{◌≡◌, ◌+◌, ◌<◌, ◌∙◌, ap, sym, drop, length, slice_index_or, List, arith}
use Rattle.std.proofs.lemmas.List.{get_or-drop}
use Rattle.dpc_model.specs.declared.tuples.Item.{Item}
use Rattle.dpc_model.specs.declared.tuples.Item.TheVariants as item_of
use Rattle.dpc_model.specs.declared.tuples.Tuple.{Tuple}
use Rattle.held_tuples.specs.Runs.{is_stable}
use Rattle.held_tuples.proofs.Parts.{long-run, stable-at, tuple-at}
use Rattle.held_tuples.proofs.run.Run.tuple.Goals as goal

pub overflow_add-self-inside : goal.overflow_add-self-inside
overflow_add-self-inside c =
    let long : c.self.inside.len ≡ length c.args.self.now = long-run c.self.inside.len c.self.inside.from c.self.inside.items c.args.self.now c.self.invariant.2 c.self.view_is in
    let low = c.requires in
    let fits = c.self.invariant.0 in omega (arith, long, low, fits)

pub tuple_at-requires-clause-within : goal.tuple_at-requires-clause-within
tuple_at-requires-clause-within c =
    let long : c.self.inside.len ≡ length c.args.self.now = long-run c.self.inside.len c.self.inside.from c.self.inside.items c.args.self.now c.self.invariant.2 c.self.view_is in
    let low = c.requires in
    let inside = c.self.invariant.1 in
    let same = ap (λ (items : List Item). length items) c.as_slice.ensures in omega (arith, long, low, inside, same)

pub tuple_at-requires-clause-stable : goal.tuple_at-requires-clause-stable
tuple_at-requires-clause-stable c = λ d.
    let long : c.self.inside.len ≡ length c.args.self.now = long-run c.self.inside.len c.self.inside.from c.self.inside.items c.args.self.now c.self.invariant.2 c.self.view_is in
    let few = c.requires in
    let low : c.args.place < c.self.inside.len = omega (arith, long, few) in
    ap (λ (items : List Item). is_stable (slice_index_or items (c.self.inside.from + c.args.place) d)) c.as_slice.ensures
    ∙ ap is_stable (sym (get_or-drop c.self.inside.from c.self.inside.items c.args.place d))
    ∙ stable-at c.self.inside.len c.args.place (drop c.self.inside.from c.self.inside.items) d c.self.invariant.2 low

pub returns : goal.returns
returns c = λ e.
    let long : c.self.inside.len ≡ length c.args.self.now = long-run c.self.inside.len c.self.inside.from c.self.inside.items c.args.self.now c.self.invariant.2 c.self.view_is in
    let few = c.requires in
    let low : c.args.place < c.self.inside.len = omega (arith, long, few) in
    let some : Item = item_of.RecDone in
    let told = c.tuple_at.ensures some in
    let is : slice_index_or (drop c.self.inside.from c.self.inside.items) c.args.place some ≡ item_of.Stable told.0 c.tuple_at.result.now =
    get_or-drop c.self.inside.from c.self.inside.items c.args.place some
    ∙ ap (λ (items : List Item). slice_index_or items (c.self.inside.from + c.args.place) some) (sym c.as_slice.ensures)
    ∙ told.1 in
    tuple-at c.self.inside.len c.args.place told.0 (drop c.self.inside.from c.self.inside.items) some c.tuple_at.result.now e c.self.invariant.2 low is
    ∙ ap (λ (ts : List Tuple). slice_index_or ts c.args.place e) c.self.view_is
