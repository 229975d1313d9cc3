use Rattle.std.proofs.Common.{◌≡◌, ◌+◌, ◌-◌, get_or, take, drop, sym, subst, ◌∙◌}
use Rattle.dpc_model.specs.Sessions.{stable_items}
use Rattle.dpc_model.specs.declared.tuples.Item.TheVariants.{Stable}
use Rattle.dpc_model.specs.declared.tuples.Tuple.{Tuple}
use Rattle.back_channel.proofs.Numbering.{stable-next, told-next}
use Rattle.back_channel.proofs.telling.tell_stable.Goals as goal

pub loop-i-preserved : goal.loop-i-preserved
loop-i-preserved c =
    let tuples = c.args.tuples.now in
    let i = c.loop-i.i in
    let same = c.in_ok-copy.ensures {u = tt} in
    let is = subst (λ (t : Tuple). t ≡ get_or tuples i t) (sym same) c.index-tuples-i.is in
    (c.in_ok-push.ensures {u = tt}).items
    ∙ told-next c.args.items.now.items (stable_items c.args.from (take (i - c.args.from) (drop c.args.from tuples))) (stable_items c.args.from (take (i + 1 - c.args.from) (drop c.args.from tuples))) c.loop-i.items.items (Stable c.loop-i.i c.in_ok-copy.field-0)
    c.loop-i.invariant (stable-next c.args.from i tuples c.in_ok-copy.field-0 c.loop-i.auto.i c.loop-i-test.true is)
