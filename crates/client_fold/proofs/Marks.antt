-- The batches behind a mark.
use Rattle.std.proofs.Common.{◌≡◌, ◌≤◌, ◌<◌, ◌+◌, ◌-◌, ℕ, suc, zero, List, [], ◌∷◌, ◌++◌, length, take, drop, get_or, refl, sym, ap, ◌∙◌, arith, append_assoc}
use Rattle.std.proofs.lemmas.List.{take-append-drop, length-append, take_more}
use Rattle.std.proofs.Math.Seq.{drop-append-add}
use Rattle.dpc_model.specs.declared.tuples.Item.{Item}
use Rattle.client_fold.specs.Folding.{all_taken}
use Rattle.client_fold.proofs.Batching.{all_taken-push}

pub all_taken-append : (xs ys : List (List Item)) → all_taken (xs ++ ys) ≡ all_taken xs ++ all_taken ys
all_taken-append [] ys = refl
all_taken-append (x ∷ xs) ys = ap (λ (is : List Item). x ++ is) (all_taken-append xs ys) ∙ sym (append_assoc x (all_taken xs) (all_taken ys))

-- what stands behind a mark, where so many items are in front of these batches
pub behind-mark : (batches : List (List Item)) (first before mark : ℕ) → before ≡ length (all_taken (take first batches)) → before ≤ mark →
    drop (mark - before) (all_taken (drop first batches)) ≡ drop mark (all_taken batches)
behind-mark batches first before mark e low =
    let split = sym (all_taken-append (take first batches) (drop first batches)) ∙ ap all_taken (take-append-drop first batches) in
    let far = sym (drop-append-add (all_taken (take first batches)) (all_taken (drop first batches)) (mark - before)) in
    let sum : length (all_taken (take first batches)) + (mark - before) ≡ mark = grind (arith, e, low) in
    far ∙ ap (λ (n : ℕ). drop n (all_taken (take first batches) ++ all_taken (drop first batches))) sum ∙ ap (λ (is : List Item). drop mark is) split

-- one batch fewer in front
one-less : (batches : List (List Item)) (first : ℕ) (batch : List Item) → 0 < first → first ≤ length batches → batch ≡ get_or batches (first - 1) batch →
    all_taken (take first batches) ≡ all_taken (take (first - 1) batches) ++ batch
one-less batches first batch some within is =
    let n = first - 1 in
    let whole : n + 1 ≡ first = grind (arith, some) in
    let inside : n < length batches = grind (arith, some, within) in
    sym (ap (λ (k : ℕ). all_taken (take k batches)) whole) ∙ ap all_taken (take_more batches n batch inside) ∙ all_taken-push (take n batches) (get_or batches n batch)
    ∙ ap (λ (b : List Item). all_taken (take n batches) ++ b) (sym is)

pub fewer-in-front : (batches : List (List Item)) (first before : ℕ) (batch : List Item) → 0 < first → first ≤ length batches → batch ≡ get_or batches (first - 1) batch →
    before ≡ length (all_taken (take first batches)) → before ≡ length (all_taken (take (first - 1) batches)) + length batch
fewer-in-front batches first before batch some within is count =
    count ∙ ap length (one-less batches first batch some within is) ∙ length-append (all_taken (take (first - 1) batches)) batch

pub some-in-front : (batches : List (List Item)) (first before mark : ℕ) → before ≡ length (all_taken (take first batches)) → mark < before → 0 < first
some-in-front batches zero before mark e more = absurd (grind (arith, e, more))
some-in-front batches (suc n) before mark e more = grind (arith)

-- one batch more, and how many items there are
pub one-more : (batches more : List (List Item)) (batch : List Item) (total used : ℕ) → more ≡ batches ++ batch ∷ [] → used ≡ length batch → total ≡ length (all_taken batches) →
    total + used ≡ length (all_taken more)
one-more batches more batch total used e u t =
    ap (λ (m : ℕ). m + used) t ∙ ap (λ (n : ℕ). length (all_taken batches) + n) u ∙ sym (ap length (ap all_taken e ∙ all_taken-push batches batch) ∙ length-append (all_taken batches) batch)
