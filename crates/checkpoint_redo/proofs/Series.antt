-- Buckets one after another, one more at the end.
use Rattle.std.proofs.Common.{◌≡◌, ℕ, zero, suc, ◌+◌, ◌<◌, List, [], ◌∷◌, ◌++◌, take, length, sym, ap, ◌∙◌, arith, Option, append-nil, append_assoc, slice_index_or}
use Rattle.dpc_model.specs.Operators.{all_of}
use Rattle.dpc_model.specs.Engines.{Value, Accepts, added_output, AcceptsAll}
use Rattle.dpc_model.specs.declared.tuples.Tuple.{Tuple}
use Rattle.dpc_model.specs.declared.tuples.Tagged.{Tagged}
use Rattle.checkpoint_redo.specs.Keeping.{added_by}

-- the bucket of number k + i is accepted
pub accepts-at : (width : Option ℕ) (k i : ℕ) (bs : List (List Tagged)) (d : List Tagged) → i < length bs → AcceptsAll width k bs → Accepts width (k + i) (slice_index_or bs i d)
accepts-at width k i [] d low h = absurd (omega (arith, low))
accepts-at width k zero (b ∷ bs) d low h = let none : k + 0 ≡ k = omega arith in rw none h.0
accepts-at width k (suc i) (b ∷ bs) d low h = let next : k + suc i ≡ k + 1 + i = omega arith in rw next (accepts-at width (k + 1) i bs d (omega (arith, low)) h.1)

-- the inputs of one bucket more
pub all-taken : (i : ℕ) (bs : List (List Tagged)) (d : List Tagged) → i < length bs → all_of (take (i + 1) bs) ≡ all_of (take i bs) ++ slice_index_or bs i d
all-taken i [] d low = absurd (omega (arith, low))
all-taken zero (b ∷ bs) d low = append-nil b
all-taken (suc i) (b ∷ bs) d low =
    let next : suc i + 1 ≡ suc (i + 1) = omega arith in
    rw next (ap (λ (xs : List Tagged). b ++ xs) (all-taken i bs d (omega (arith, low))) ∙ sym (append_assoc b (all_of (take i bs)) (slice_index_or bs i d)))

-- .. and what it adds
pub added-taken : (v : Value) (w : ℕ) (before : List Tagged) (k i : ℕ) (bs : List (List Tagged)) (d : List Tagged) → i < length bs →
    added_by v w before (take (i + 1) bs) k ≡ added_by v w before (take i bs) k ++ added_output v w (before ++ all_of (take i bs)) (slice_index_or bs i d) (k + i)
added-taken v w before k i [] d low = absurd (omega (arith, low))
added-taken v w before k zero (b ∷ bs) d low =
    let none : k + 0 ≡ k = omega arith in rw (none, append-nil before) (append-nil (added_output v w before b k))
added-taken v w before k (suc i) (b ∷ bs) d low =
    let next : suc i + 1 ≡ suc (i + 1) = omega arith in
    let number : k + 1 + i ≡ k + suc i = omega arith in
    let rest = added-taken v w (before ++ b) (k + 1) i bs d (omega (arith, low)) in
    let same : added_by v w (before ++ b) (take (i + 1) bs) (k + 1)
    ≡ added_by v w (before ++ b) (take i bs) (k + 1) ++ added_output v w (before ++ (b ++ all_of (take i bs))) (slice_index_or bs i d) (k + suc i) =
    rest ∙ ap (λ (n : ℕ). added_by v w (before ++ b) (take i bs) (k + 1) ++ added_output v w ((before ++ b) ++ all_of (take i bs)) (slice_index_or bs i d) n) number
    ∙ ap (λ (xs : List Tagged). added_by v w (before ++ b) (take i bs) (k + 1) ++ added_output v w xs (slice_index_or bs i d) (k + suc i)) (append_assoc before b (all_of (take i bs))) in
    rw next (ap (λ (ts : List Tuple). added_output v w before b k ++ ts) same ∙ sym (append_assoc (added_output v w before b k) (added_by v w (before ++ b) (take i bs) (k + 1)) _))
