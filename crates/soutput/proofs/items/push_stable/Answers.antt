use Rattle.std.proofs.Common.{◌≡◌, ◌∙◌, ◌++◌, ◌∷◌, [], suc, ◌+◌, take, List, arith, sym, subst, ap, slice_index_or}
use Rattle.std.proofs.lemmas.List.{append_assoc}
use Rattle.dpc_model.specs.declared.tuples.Tuple.{Tuple}
use Rattle.dpc_model.specs.declared.tuples.Item.{Item}
use Rattle.dpc_model.specs.declared.tuples.Item.TheVariants.{Stable}
use Rattle.dpc_model.specs.Sessions.{stable_items}
use Rattle.dpc_model.proofs.StableItems.{stable_items-taken}
use Rattle.soutput.proofs.items.push_stable.Goals as goal

pub loop-i-preserved : goal.loop-i-preserved
loop-i-preserved c =
    let told = subst (λ (t : Tuple). t ≡ slice_index_or c.args.tuples.now c.loop-i.i t) (sym c.in_ok-tuple.ensures) c.index-tuples-i.is in
    let next : suc c.loop-i.i ≡ c.loop-i.i + 1 = omega arith in
    let more = rw next at (stable_items-taken c.args.first c.loop-i.i c.args.tuples.now c.in_ok-tuple.tuple c.loop-i-test.true told) in
    rw (c.in_ok-push.ensures.items, c.loop-i.invariant) (append_assoc c.args.items.now.items (stable_items c.args.first (take c.loop-i.i c.args.tuples.now)) (Stable (c.args.first + c.loop-i.i) c.in_ok-tuple.tuple ∷ []) ∙ sym (ap (λ (items : List Item). c.args.items.now.items ++ items) more))
