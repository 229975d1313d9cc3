use Rattle.std.proofs.Common.{◌≡◌, ◌+◌, ◌-◌, ◌++◌, ◌∷◌, [], sym, subst, ap, ◌∙◌, arith, length, take, drop, rules, slice_index_or, List}
use Rattle.std.proofs.lemmas.List.{append_assoc}
use Rattle.dpc_model.specs.Sessions.{stable_items}
use Rattle.dpc_model.specs.declared.tuples.Tuple.{Tuple}
use Rattle.dpc_model.specs.declared.tuples.Item.{Item}
use Rattle.dpc_model.specs.declared.tuples.Item.TheVariants.{Stable}
use Rattle.output_buffer.proofs.Numbered.{items-more}
use Rattle.output_buffer.proofs.buffer.push_items.Goals as goal

pub loop-i-preserved : goal.loop-i-preserved
loop-i-preserved c =
    let end : c.len-i-end.result ≡ length c.args.tuples.now.items = search rules in
    let below = c.loop-i-test.true in
    let told = subst (λ (t : Tuple). t ≡ slice_index_or c.args.tuples.now.items c.loop-i.i t) (sym c.in_ok-tuple.ensures) c.index.ensures in
    let more = items-more c.args.number c.args.place c.loop-i.i c.args.tuples.now.items c.in_ok-tuple.tuple c.loop-i.auto.i (omega (arith, below, end)) told in
    rw (c.in_ok-push.ensures.items, c.loop-i.invariant)
    (append_assoc c.args.items.now.items (stable_items c.args.number (take (c.loop-i.i - c.args.place) (drop c.args.place c.args.tuples.now.items))) (Stable (c.args.number + (c.loop-i.i - c.args.place)) c.in_ok-tuple.tuple ∷ [])
    ∙ sym (ap (λ (items : List Item). c.args.items.now.items ++ items) more))
