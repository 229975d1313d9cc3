use Rattle.std.proofs.Common.{rules}
use Rattle.std.proofs.lemmas.List.Sorted.{IsNonDecreasingBy-from_sort_by_key, answers_always}
use Rattle.dpc_model.proofs.Sorting.{sorted-is}
use Rattle.dpc_model.specs.declared.tuples.Tuple.{Tuple}
use Rattle.ops_join.proofs.rows.sorted.Goals as goal

pub returns : goal.returns
returns c =
    let time = λ (t : Tuple). t.stime in
    sorted-is time c.args.rows.items c.sort_by_key.new.self.items
    (IsNonDecreasingBy-from_sort_by_key time c.sort_by_key.new.self.items c.in_ok-sort_by_key.ensures.sorted (λ a r f' k. search rules))
    (c.in_ok-sort_by_key.ensures.stable time (answers_always _ _ _ (λ f a r f' k. search rules)))
