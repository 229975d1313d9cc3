use Rattle.std.proofs.Common.{◌≡◌, ◌∙◌, ◌++◌, ◌∷◌, [], List, take, sym, subst, ap, slice_index_or}
use Rattle.std.proofs.lemmas.List.{append_assoc}
use Rattle.dpc_model.specs.declared.tuples.Tuple.{Tuple}
use Rattle.dpc_model.specs.declared.tuples.Item.{Item}
use Rattle.dpc_model.specs.declared.tuples.Item.TheVariants.{Tentative}
use Rattle.dpc_model.specs.Sessions.{tentative_items}
use Rattle.soutput.proofs.ItemLists.{tentative_items-taken}
use Rattle.soutput.proofs.items.push_tentative.Goals as goal

pub loop-tuple-preserved : goal.loop-tuple-preserved
loop-tuple-preserved c =
    let told = subst (λ (t : Tuple). t ≡ slice_index_or c.args.tuples.now c.loop-tuple.tuple-index t) (sym c.in_ok-tuple.ensures) c.tuple-item.is in
    let more = tentative_items-taken c.loop-tuple.tuple-index c.args.tuples.now c.in_ok-tuple.tuple c.loop-tuple-test.true told in
    rw (c.in_ok-push.ensures.items, c.loop-tuple.invariant)
    (append_assoc c.args.items.now.items (tentative_items (take c.loop-tuple.tuple-index c.args.tuples.now)) (Tentative c.in_ok-tuple.tuple ∷ [])
    ∙ sym (ap (λ (items : List Item). c.args.items.now.items ++ items) more))
