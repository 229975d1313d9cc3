use Rattle.std.proofs.Common.{◌≡◌, ◌∙◌, ◌++◌, ◌∷◌, [], suc, ◌+◌, ◌<◌, take, length, List, arith, refl, sym, ap}
use Rattle.std.proofs.lemmas.List.{take_more}
use Rattle.dpc_model.specs.declared.tuples.Item.{Item}
use Rattle.dpc_model.specs.declared.tuples.Item.TheVariants.{Stable}
use Rattle.dpc_model.proofs.StableItems.{stable_items-taken}
use Rattle.source_core.proofs.remade.behind_stable.Goals as goal

pub loop-i-preserved : goal.loop-i-preserved
loop-i-preserved c =
    let i = c.loop-i.i in
    let first = c.args.first in
    let item = c.index-items-i.result in
    let tuple = c.index-tuples-i.result in
    let h = c.loop-i.invariant in
    let low : i < length c.args.items.now = omega (arith, h.room, c.loop-i-test.true) in
    let next : suc i ≡ i + 1 = omega arith in
    let is : item ≡ Stable (first + i) tuple = c.if-not-is_stable.ensures refl in
    let more = rw next at (stable_items-taken first i c.args.tuples.now tuple c.loop-i-test.true c.index-tuples-i.is) in
    record {
      room = h.room;
      same =
          take_more c.args.items.now i item low
          ∙ ap (λ (x : Item). take i c.args.items.now ++ x ∷ []) (sym c.index-items-i.is ∙ is)
          ∙ ap (λ (items : List Item). items ++ Stable (first + i) tuple ∷ []) h.same
          ∙ sym more;
    }
