-- Steps of the loops, over plain variables.
use Rattle.std.proofs.Common.{◌≡◌, ◌↔◌, ℕ, zero, suc, ◌+◌, ◌-◌, ◌*◌, ◌<◌, ◌≤◌, min, true, false, List, [], ◌∷◌, ◌++◌, length, take, drop, get_or, set, refl, sym, ◌∙◌, ap, arith, ℤ, ◌==◌, ◌&&◌, int_eq, add-one}
use Rattle.std.proofs.lemmas.List.{take-append-drop, append_assoc}
use Rattle.std.proofs.lemmas.Cmp.{nat_cmp_total, int_cmp_total, on_total, then_total}
use Rattle.std.proofs.lemmas.Bool.{and_parts, eqb-true}
use Rattle.std.proofs.lemmas.Bool.Decides.{Decides-int_eq}
use Rattle.std.proofs.lemmas.Slice.Eq.{slice_eq-Decides}
use Rattle.std.specs.Cmp.Lexicographic.{pointwise}
use Rattle.std.specs.Cmp.{IsTotalOrder}
use Rattle.std.specs.List.{fold, range_with_len}
use Rattle.dpc_model.specs.declared.tuples.Tuple.{Tuple}
use Rattle.dpc_model.specs.declared.operators.Agg.{Agg}
use Rattle.ops_window.specs.Windows.{Cell}
use Rattle.ops_window.specs.Feeding.{next_totals, joined_total, joined_totals, finished, finished_totals, cell_cmp, take_cell}

-- ---- totals, one after the other

no_totals : (t : Tuple) (aggs : List Agg) → next_totals t aggs [] ≡ []
no_totals t [] = refl
no_totals t (a ∷ aggs) = refl

pub next_totals-end : (t : Tuple) (i : ℕ) (aggs : List Agg) (zs : List ℤ) → min (length aggs) (length zs) ≤ i →
    take i zs ++ next_totals t (drop i aggs) (drop i zs) ≡ zs
next_totals-end t zero [] zs h = refl
next_totals-end t zero (a ∷ aggs) [] h = refl
next_totals-end t zero (a ∷ aggs) (z ∷ zs) h = absurd (omega (arith, h))
next_totals-end t (suc i) [] zs h = take-append-drop (suc i) zs
next_totals-end t (suc i) (a ∷ aggs) [] h = no_totals t (drop i aggs)
next_totals-end t (suc i) (a ∷ aggs) (z ∷ zs) h = ap (λ ys. z ∷ ys) (next_totals-end t i aggs zs (omega (arith, h)))

joined-nothing : (aggs : List Agg) (zs : List ℤ) → joined_totals aggs zs [] ≡ zs
joined-nothing [] zs = refl
joined-nothing (a ∷ aggs) [] = refl
joined-nothing (a ∷ aggs) (z ∷ zs) = refl

no_joined : (aggs : List Agg) (ys : List ℤ) → joined_totals aggs [] ys ≡ []
no_joined [] ys = refl
no_joined (a ∷ aggs) ys = refl

pub joined_totals-end : (i : ℕ) (aggs : List Agg) (zs ys : List ℤ) → min (min (length aggs) (length zs)) (length ys) ≤ i →
    take i zs ++ joined_totals (drop i aggs) (drop i zs) (drop i ys) ≡ zs
joined_totals-end zero [] zs ys h = refl
joined_totals-end zero (a ∷ aggs) [] ys h = refl
joined_totals-end zero (a ∷ aggs) (z ∷ zs) [] h = refl
joined_totals-end zero (a ∷ aggs) (z ∷ zs) (y ∷ ys) h = absurd (omega (arith, h))
joined_totals-end (suc i) [] zs ys h = take-append-drop (suc i) zs
joined_totals-end (suc i) (a ∷ aggs) [] ys h = no_joined (drop i aggs) (drop (suc i) ys)
joined_totals-end (suc i) (a ∷ aggs) (z ∷ zs) [] h = ap (λ vs. z ∷ vs) (ap (λ vs. take i zs ++ vs) (joined-nothing (drop i aggs) (drop i zs)) ∙ take-append-drop i zs)
joined_totals-end (suc i) (a ∷ aggs) (z ∷ zs) (y ∷ ys) h = ap (λ vs. z ∷ vs) (joined_totals-end i aggs zs ys (omega (arith, h)))

pub joined_totals-more : (i : ℕ) (aggs : List Agg) (zs ys : List ℤ) (a : Agg) (z y v : ℤ) → i < length aggs → i < length zs → i < length ys →
    v ≡ joined_total (get_or aggs i a) (get_or zs i z) (get_or ys i y) →
    take (suc i) (set zs i v) ++ joined_totals (drop (suc i) aggs) (drop (suc i) (set zs i v)) (drop (suc i) ys) ≡ take i zs ++ joined_totals (drop i aggs) (drop i zs) (drop i ys)
joined_totals-more i [] zs ys a z y v h k l e = absurd (omega (arith, h))
joined_totals-more i (b ∷ aggs) [] ys a z y v h k l e = absurd (omega (arith, k))
joined_totals-more i (b ∷ aggs) (x ∷ zs) [] a z y v h k l e = absurd (omega (arith, l))
joined_totals-more zero (b ∷ aggs) (x ∷ zs) (w ∷ ys) a z y v h k l e = ap (λ n. n ∷ joined_totals aggs zs ys) e
joined_totals-more (suc i) (b ∷ aggs) (x ∷ zs) (w ∷ ys) a z y v h k l e =
    ap (λ vs. x ∷ vs) (joined_totals-more i aggs zs ys a z y v (omega (arith, h)) (omega (arith, k)) (omega (arith, l)) e)

pub finished_totals-more : (i : ℕ) (aggs : List Agg) (zs : List ℤ) (a : Agg) (z : ℤ) → i < length aggs → i < length zs →
    finished_totals (take (suc i) aggs) (take (suc i) zs) ≡ finished_totals (take i aggs) (take i zs) ++ finished (get_or aggs i a) (get_or zs i z) ∷ []
finished_totals-more i [] zs a z h k = absurd (omega (arith, h))
finished_totals-more i (b ∷ aggs) [] a z h k = absurd (omega (arith, k))
finished_totals-more zero (b ∷ aggs) (y ∷ zs) a z h k = refl
finished_totals-more (suc i) (b ∷ aggs) (y ∷ zs) a z h k =
    ap (λ ys. finished b y ∷ ys) (finished_totals-more i aggs zs a z (omega (arith, h)) (omega (arith, k)))

no_finished : (aggs : List Agg) → finished_totals aggs [] ≡ []
no_finished [] = refl
no_finished (a ∷ aggs) = refl

pub finished_totals-end : (i : ℕ) (aggs : List Agg) (zs : List ℤ) → min (length aggs) (length zs) ≤ i →
    finished_totals (take i aggs) (take i zs) ≡ finished_totals aggs zs
finished_totals-end zero [] zs h = refl
finished_totals-end zero (a ∷ aggs) [] h = refl
finished_totals-end zero (a ∷ aggs) (z ∷ zs) h = absurd (omega (arith, h))
finished_totals-end (suc i) [] zs h = refl
finished_totals-end (suc i) (a ∷ aggs) [] h = refl
finished_totals-end (suc i) (a ∷ aggs) (z ∷ zs) h = ap (λ ys. finished a z ∷ ys) (finished_totals-end i aggs zs (omega (arith, h)))

-- ---- numbers, one after the other

range-more : (a n : ℕ) → range_with_len a (suc n) ≡ range_with_len a n ++ (a + n) ∷ []
range-more a zero = ap (λ k. k ∷ []) (omega arith)
range-more a (suc n) =
    let same : a + 1 + n ≡ a + suc n = omega arith in
    ap (λ ks. a ∷ ks) (range-more (a + 1) n ∙ ap (λ k. range_with_len (a + 1) n ++ k ∷ []) same)

fold-push : {A B : Type 0} (f : B → A → B) (b : B) (xs : List A) (x : A) → fold f b (xs ++ x ∷ []) ≡ f (fold f b xs) x
fold-push f b [] x = refl
fold-push f b (y ∷ xs) x = fold-push f (f b y) xs x

pub fold-range_more : {B : Type 0} (f : B → ℕ → B) (b : B) (a n : ℕ) → a ≤ n →
    fold f b (range_with_len a (n + 1 - a)) ≡ f (fold f b (range_with_len a (n - a))) n
fold-range_more f b a n h =
    let count : n + 1 - a ≡ suc (n - a) = omega arith in
    let last : a + (n - a) ≡ n = omega arith in
    rw (count, range-more a (n - a), last) (fold-push f b (range_with_len a (n - a)) n)

-- ---- two lists of cells, one cell after the other

same_keys : (j k : ℕ × ℤ) → true ≡ ((j.0 == k.0) && int_eq j.1 k.1) → j ≡ k
same_keys j k e =
    let parts = and_parts (j.0 == k.0) (int_eq j.1 k.1) (sym e) in
    let begins = eqb-true j.0 k.0 parts.0 in
    let groups = (Decides-int_eq j.1 k.1).0 parts.1 in
    λ i. (begins i, groups i)

pub same_rest : (cs ds xs ys xs' ys' : List Cell) (j k : ℕ × ℤ) (us vs : List ℤ) → (cs ≡ ds) ↔ (xs ≡ ys) → xs ≡ (j, us) ∷ xs' → ys ≡ (k, vs) ∷ ys' →
    true ≡ ((j.0 == k.0) && int_eq j.1 k.1) → true ≡ pointwise int_eq us vs → (cs ≡ ds) ↔ (xs' ≡ ys')
same_rest cs ds xs ys xs' ys' j k us vs h e f g l =
    let keys = same_keys j k g in
    let totals = (slice_eq-Decides Decides-int_eq us vs (pointwise int_eq us vs) refl).0 (sym l) in (
      (λ same. let both = h.0 same in cc),
      (λ rest. let all : xs ≡ ys = cc in h.1 all),
    )

pub other_totals : (cs ds xs ys xs' ys' : List Cell) (j k : ℕ × ℤ) (us vs : List ℤ) → (cs ≡ ds) ↔ (xs ≡ ys) → xs ≡ (j, us) ∷ xs' → ys ≡ (k, vs) ∷ ys' →
    false ≡ pointwise int_eq us vs → cs ≡ ds → ⊥
other_totals cs ds xs ys xs' ys' j k us vs h e f l same =
    let both : xs ≡ ys = h.0 same in
    let heads : ◌≡◌ {A = Cell} (j, us) (k, vs) = cc in
    let totals : us ≡ vs = ap (λ (c : Cell). c.1) heads in
    let yes : pointwise int_eq us vs ≡ true = (slice_eq-Decides Decides-int_eq us vs (pointwise int_eq us vs) refl).1 totals in
    absurd (cc)

-- ---- a step of each loop

-- cells have a total order
pub cell_cmp_total : IsTotalOrder cell_cmp
cell_cmp_total = then_total (on_total (λ (x : ℕ × ℤ). x.0) nat_cmp_total) (on_total (λ (x : ℕ × ℤ). x.1) int_cmp_total)

-- one window more
pub taken-more : (aggs aggs' : List Agg) (t : Tuple) (step a n : ℕ) (g z : ℤ) (old cells cells' : List Cell) →
    cells' ≡ take_cell aggs' t cells (n * step, z) → aggs' ≡ aggs → z ≡ g → a ≤ n →
    cells ≡ fold (λ cs j. take_cell aggs t cs (j * step, g)) old (range_with_len a (n - a)) →
    cells' ≡ fold (λ cs j. take_cell aggs t cs (j * step, g)) old (range_with_len a (n + 1 - a))
taken-more aggs aggs' t step a n g z old cells cells' taken same number low before =
    taken
    ∙ ap (λ (as' : List Agg). take_cell as' t cells (n * step, z)) same
    ∙ ap (λ (y : ℤ). take_cell aggs t cells (n * step, y)) number
    ∙ ap (λ (cs : List Cell). take_cell aggs t cs (n * step, g)) before
    ∙ sym (fold-range_more (λ cs j. take_cell aggs t cs (j * step, g)) old a n low)

-- one total more in a row
pub row-more : (front vals vals' : List ℤ) (i : ℕ) (aggs : List Agg) (zs : List ℤ) (a : Agg) (z v : ℤ) → i < length aggs → i < length zs →
    vals' ≡ vals ++ v ∷ [] → v ≡ finished (get_or aggs i a) (get_or zs i z) →
    vals ≡ front ++ finished_totals (take i aggs) (take i zs) →
    vals' ≡ front ++ finished_totals (take (i + 1) aggs) (take (i + 1) zs)
row-more front vals vals' i aggs zs a z v h k pushed value before =
    pushed
    ∙ rw (before, value) (append_assoc front (finished_totals (take i aggs) (take i zs)) (finished (get_or aggs i a) (get_or zs i z) ∷ []))
    ∙ ap (λ (ys : List ℤ). front ++ ys) (sym (finished_totals-more i aggs zs a z h k))
    ∙ rw add-one refl
