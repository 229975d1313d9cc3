use Rattle.std.proofs.Common.{◌∙◌, ap, List, [], ◌∷◌, ◌++◌, arith}
use Rattle.std.proofs.lemmas.Grind.{common_steps}
use Rattle.dpc_model.specs.declared.tuples.Item.{Item}
use Rattle.client_fold.proofs.Batching.{unused, folds-none, folds-some}
use Rattle.client_fold.proofs.Marks.{one-more}
use Rattle.client_fold.proofs.client.Client.take.Goals as goal

pub returns-in_default : goal.returns-in_default
returns-in_default c =
    record {
      ok = folds-none c.self.inside.upstream c.self.inside.end c.self.inside.clock c.args.sess c.args.index c.args.items.now c.self.inside.inlet c.take.new.self c.self.inside.taken.items c.reserve.new.self.items
          c.args.self.now c.in_ok-items.field-0 c.self.view_is c.reserve.ensures.items c.in_ok-items.ensures.ok (unused c.in_ok-items.field-0 c.in_default.not-Used);
      err = tt;
    }

pub returns-clause-ok : goal.returns-clause-ok
returns-clause-ok c =
    folds-some c.self.inside.upstream c.self.inside.end c.self.inside.clock c.args.sess c.args.index c.args.items.now c.in-Used.items c.self.inside.inlet c.take.new.self c.drop_below.new.self c.bound-bound.result
    c.self.inside.taken.items c.push.new.self.items c.args.self.now c.self.view_is
    (c.in-Ok.ensures.items ∙ ap (λ (batches : List (List Item)). batches ++ c.in-Used.items ∷ []) c.reserve.ensures.items) (rw c.in-Used.is at c.in_ok-items.ensures.ok) c.drop_below.ensures.after

pub overflow_add-self : goal.overflow_add-self
overflow_add-self c = let fits = c.len-used.type_inv in grind (arith, common_steps, fits, c.if-not-has_room.false)

pub invariant_of-self-2 : goal.invariant_of-self-2
invariant_of-self-2 c =
    one-more c.self.inside.taken.items c.push.new.self.items c.in-Used.items c.self.inside.total c.len-used.result
    (c.in-Ok.ensures.items ∙ ap (λ (batches : List (List Item)). batches ++ c.in-Used.items ∷ []) c.reserve.ensures.items) c.len-used.ensures c.self.invariant
