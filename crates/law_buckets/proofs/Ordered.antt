-- The inputs that were processed are in order of time, below the next bucket.
use Rattle.std.proofs.Common.{◌≡◌, ℕ, suc, ◌+◌, ◌*◌, true, List, [], ◌∷◌, ◌++◌, length, sym, arith, Some, append-nil, append_assoc}
use Rattle.std.proofs.lemmas.Grind.{common_steps}
use Rattle.std.proofs.lemmas.List.Elements.{filter_passes, All-weaker}
use Rattle.dpc_model.specs.Streams.{is_below}
use Rattle.dpc_model.specs.Operators.{all_of}
use Rattle.dpc_model.specs.Engines.{LiesBelow, AcceptsAll}
use Rattle.dpc_model.specs.Fragments.{cut_tagged}
use Rattle.dpc_model.specs.Parts.{Inputs, processed}
use Rattle.dpc_model.specs.declared.tuples.Tagged.{Tagged}
use Rattle.dpc_model.proofs.Buckets.{inputs-ordered, LiesBelow-next}
use Rattle.dpc_model.proofs.Order.{IsOrdered-filter, tagged_time}
use Rattle.law_buckets.specs.Laws.{IsProcessed, ProcessedInOrder}
use Rattle.law_buckets.proofs.Complete.{stable_inputs, stable-ordered, processed-cut}

-- what is cut out of ordered inputs
below-cut : (b : ℕ) (x : Tagged) → is_below b x.tuple ≡ true → LiesBelow b x
below-cut b x e = grind (arith, common_steps)

pub processed-ordered : (w : ℕ) (x : Inputs) → IsProcessed w x.cursor (processed w x)
processed-ordered w x =
    let test = λ (y : Tagged). is_below (x.cursor * w) y.tuple in
    let xs = stable_inputs x in
    rw (processed-cut w x) (record {
      ordered = IsOrdered-filter tagged_time test xs (stable-ordered x);
      below = All-weaker (λ (y : Tagged). test y ≡ true) (LiesBelow (x.cursor * w)) (below-cut (x.cursor * w)) (cut_tagged (x.cursor * w) xs) (filter_passes test xs);
    })

-- accepted buckets go on in order
pub accepted-ordered : (w k : ℕ) (xs : List Tagged) (bs : List (List Tagged)) → IsProcessed w k xs → AcceptsAll (Some w) k bs → IsProcessed w (k + length bs) (xs ++ all_of bs)
accepted-ordered w k xs [] h a = let none : k + 0 ≡ k = omega arith in rw (none, append-nil xs) h
accepted-ordered w k xs (b ∷ bs) h a =
    let next : k + suc (length bs) ≡ k + 1 + length bs = omega arith in
    let bucket = a.0.bucket in
    let first : IsProcessed w (k + 1) (xs ++ b) = record { ordered = inputs-ordered w k xs b h.ordered h.below bucket; below = LiesBelow-next w k xs b h.below bucket.inside } in
    rw (next, sym (append_assoc xs b (all_of bs))) (accepted-ordered w (k + 1) (xs ++ b) bs first a.1)

pub processed-in-order : ProcessedInOrder
processed-in-order w x = (processed-ordered w x, λ placed. accepted-ordered w x.cursor (processed w x) x.closed (processed-ordered w x) placed)
