use Rattle.std.proofs.Common.{List, sym, subst, ◌∙◌}
use Rattle.dpc_model.specs.declared.tuples.Tuple.{Tuple}
use Rattle.back_channel.specs.Merging.{last_time}
use Rattle.back_channel.specs.Ordered.{IsUpto, IsOrderedIf}
use Rattle.back_channel.proofs.Times.{ordered-more}
use Rattle.back_channel.proofs.stable_list.StableList.push.Goals as goal
use Rattle.back_channel.proofs.stable_list.StableList.push.Goals.{then-self, else-self}

pub invariant_of-self-2 : goal.invariant_of-self-2
invariant_of-self-2 c =
    let items = (c.in_ok-push.ensures {u = tt}).items in
    elim c.if-self.branch [
      | then-self w ↦
          subst (λ (ts : List Tuple). IsOrderedIf ts c.if-self.ordered) (sym items)
          (ordered-more c.self.inside.tuples.items c.args.tuple c.self.inside.ordered c.if-self.ordered w.if-self.true c.self.invariant
          (λ e. subst (λ (ts : List Tuple). IsUpto c.args.tuple.stime (last_time ts)) w.as_slice.ensures.value (w.is_upto-ordered.ensures (sym w.ordered-is ∙ e))))
      | else-self w ↦ record { holds = λ e. absurd (let no = w.ordered-is in cc) }
    ]
