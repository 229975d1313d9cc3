-- What buckets add stands behind the output before them.
use Rattle.std.proofs.Common.{◌≡◌, ℕ, ◌+◌, ◌*◌, ◌≤◌, List, [], ◌∷◌, ◌++◌, length, ap, sym, ◌∙◌, arith, All, append-nil, append_assoc}
use Rattle.dpc_model.specs.Streams.{IsOrdered}
use Rattle.dpc_model.specs.Operators.{all_of}
use Rattle.dpc_model.specs.Engines.{IsBucket, LiesBelow, engine_value, added_output}
use Rattle.dpc_model.specs.Fragments.{AreSoundOps}
use Rattle.dpc_model.specs.declared.tuples.Tuple.{Tuple}
use Rattle.dpc_model.specs.declared.tuples.Tagged.{Tagged}
use Rattle.dpc_model.specs.declared.operators.OpSpec.{OpSpec}
use Rattle.dpc_model.proofs.Buckets.{value-split, added-is, inputs-ordered, LiesBelow-next}
use Rattle.dpc_model.proofs.IdealCausality.{cut-fragment_value}
use Rattle.dpc_model.proofs.Order.{fragment-InOrder, tagged_time}
use Rattle.checkpoint_redo.specs.Keeping.{added_by}
use Rattle.checkpoint_redo.specs.Laws.{BucketsAdd}

-- one bucket
bucket-adds : (ops : List OpSpec) (w k : ℕ) (before bucket : List Tagged) → AreSoundOps ops → IsOrdered tagged_time before → All (LiesBelow (k * w)) before → IsBucket w k bucket →
    engine_value ops (before ++ bucket) ((k + 1) * w) ≡ engine_value ops before (k * w) ++ added_output (engine_value ops) w before bucket k
bucket-adds ops w k before bucket sound o h b =
    let v = engine_value ops in
    let causal = λ (xs : List Tagged) (early late : ℕ) (le : early ≤ late). cut-fragment_value ops xs early late sound le in
    let ordered = fragment-InOrder ops (before ++ bucket) ((k + 1) * w) (inputs-ordered w k before bucket o h b) in
    value-split v w k before bucket causal ordered h b.inside ∙ ap (λ (ts : List Tuple). v before (k * w) ++ ts) (sym (added-is v w k before bucket causal ordered h b.inside))

-- .. and several
pub buckets-add : BucketsAdd
buckets-add ops w k before [] sound o h a =
    let none : k + 0 ≡ k = omega arith in
    rw (none, append-nil before) (sym (append-nil (engine_value ops before (k * w))))
buckets-add ops w k before (b ∷ bs) sound o h a =
    let v = engine_value ops in
    let bucket = a.0.bucket in
    let next : (k + 1) + length bs ≡ k + length (b ∷ bs) = omega arith in
    let rest = buckets-add ops w (k + 1) (before ++ b) bs sound (inputs-ordered w k before b o h bucket) (LiesBelow-next w k before b h bucket.inside) a.1 in
    ap (λ (n : ℕ). v (before ++ (b ++ all_of bs)) (n * w)) (sym next)
    ∙ ap (λ (xs : List Tagged). v xs (((k + 1) + length bs) * w)) (sym (append_assoc before b (all_of bs)))
    ∙ rest
    ∙ ap (λ (ts : List Tuple). ts ++ added_by v w (before ++ b) bs (k + 1)) (bucket-adds ops w k before b sound o h bucket)
    ∙ append_assoc (v before (k * w)) (added_output v w before b k) (added_by v w (before ++ b) bs (k + 1))
