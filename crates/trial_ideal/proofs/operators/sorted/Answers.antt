use Rattle.std.proofs.Common.{rules, ◌∙◌}
use Rattle.std.proofs.lemmas.List.Sorted.{IsNonDecreasingBy-from_sort_by_key, answers_always}
use Rattle.dpc_model.specs.Streams.{time_of}
use Rattle.dpc_model.specs.declared.tuples.Tuple.{Tuple}
use Rattle.dpc_model.proofs.Sorting.{sorted-is}
use Rattle.trial_ideal.proofs.operators.sorted.Goals as goal

-- a stable sort by time
pub returns : goal.returns
returns c =
    let done = c.in_ok-sort_by_key.ensures in
    c.from_vec.ensures
    ∙ sorted-is time_of c.args.tuples.items _ (IsNonDecreasingBy-from_sort_by_key (λ (t : Tuple). t.stime) _ done.sorted (λ a r q k. search rules))
    (done.stable (λ (t : Tuple). t.stime) (answers_always _ _ _ (λ f a r g h. search rules)))
