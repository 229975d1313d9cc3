use Rattle.std.proofs.Common.{◌≡◌, ℕ, ◌+◌, ◌∷◌, List, ◌∙◌, ap, subst, sym, Ok}
use Rattle.dpc_model.specs.declared.tuples.Item.{Item}
use Rattle.audit_core.proofs.Readings.{IsUnderWay, none-yet, one-more, none-read, all-read}
use Rattle.audit_core.proofs.reading.read_items.Goals as goal

pub loop-item-init : goal.loop-item-init
loop-item-init c =
    none-yet c.args.items.items c.into_iter-item-iterator.result.rest.items c.new-recorded.result c.into_iter-item-iterator.ensures.into_iter_gives.0 c.new-recorded.ensures

pub loop-item-preserved : goal.loop-item-preserved
loop-item-preserved c =
    let left : c.loop-item.item-iterator.rest.items ≡ c.in-Some.item ∷ c.next.new.self.rest.items = (c.in-Some.ensures {u = tt}).steps.0 in
    let way = subst (λ (is : List Item). IsUnderWay c.args.items.items is c.loop-item.before c.loop-item.recorded) left c.loop-item.invariant in
    let next : c.in_ok-before.before ≡ c.loop-item.before + 1 = (c.in_ok-before.ensures {u = tt}) in
    subst (λ (n : ℕ). IsUnderWay c.args.items.items c.next.new.self.rest.items n c.read.new.self) (sym next)
    (one-more c.args.items.items c.next.new.self.rest.items c.loop-item.before c.in-Some.item c.loop-item.recorded c.read.new.self c.read.result
    (c.in_ok-read.was {u = tt} ∙ ap Ok c.if-not-branch.false) c.read.ensures way)

pub returns-then-not-branch : goal.returns-then-not-branch
returns-then-not-branch c =
    let left : c.loop-item.item-iterator.rest.items ≡ c.in-Some.item ∷ c.next.new.self.rest.items = (c.in-Some.ensures {u = tt}).steps.0 in
    let way = subst (λ (is : List Item). IsUnderWay c.args.items.items is c.loop-item.before c.loop-item.recorded) left c.loop-item.invariant in
    none-read c.args.items.items c.next.new.self.rest.items c.loop-item.before c.in-Some.item c.loop-item.recorded c.read.new.self c.read.result
    (c.in_ok-read.was {u = tt} ∙ ap Ok c.if-not-branch.true) c.read.ensures way

pub returns : goal.returns
returns c =
    let left = c.loop-item.item-iterator.rest in
    all-read c.args.items.items left.items left.len c.loop-item.before c.loop-item.recorded left.ok.0 (c.in-None.ensures {u = tt}).steps.0 c.loop-item.invariant
