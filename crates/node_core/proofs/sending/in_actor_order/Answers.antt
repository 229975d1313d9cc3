use Rattle.std.proofs.Common.{rules}
use Rattle.std.proofs.lemmas.List.Sorted.{IsNonDecreasingBy-from_sort_by_key, answers_always}
use Rattle.dpc_model.proofs.Sorting.{sorted-is}
use Rattle.node_core.specs.declared.packets.Mail.{Mail}
use Rattle.node_core.proofs.sending.in_actor_order.Goals as goal

pub returns : goal.returns
returns c =
    let actor = λ (m : Mail). m.to in
    sorted-is actor c.args.mails.items c.sort_by_key.new.self.items
    (IsNonDecreasingBy-from_sort_by_key actor c.sort_by_key.new.self.items c.in_ok-sort_by_key.ensures.sorted (λ a r f' k. search rules))
    (c.in_ok-sort_by_key.ensures.stable actor (answers_always _ _ _ (λ f a r f' k. search rules)))
