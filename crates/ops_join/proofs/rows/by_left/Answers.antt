use Rattle.std.proofs.Common.{ℕ, rules}
use Rattle.std.proofs.lemmas.List.Sorted.{IsNonDecreasingBy-from_sort_by_key, answers_always}
use Rattle.dpc_model.proofs.Sorting.{sorted-is}
use Rattle.ops_join.proofs.rows.by_left.Goals as goal

pub returns : goal.returns
returns c =
    let left = λ (pair : ℕ × ℕ). pair.0 in
    sorted-is left c.args.pairs.items c.sort_by_key.new.self.items
    (IsNonDecreasingBy-from_sort_by_key left c.sort_by_key.new.self.items c.in_ok-sort_by_key.ensures.sorted (λ a r f' k. search rules))
    (c.in_ok-sort_by_key.ensures.stable left (answers_always _ _ _ (λ f a r f' k. search rules)))
