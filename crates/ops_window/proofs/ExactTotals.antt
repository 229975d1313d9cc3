-- Totals over one tuple more are the totals over all tuples.
use Rattle.std.proofs.Common.{◌≡◌, List, [], ◌∷◌, ◌++◌, map, refl, sym, ◌∙◌, ap, arith, ℤ, pos, ◌+ℤ◌}
use Rattle.std.proofs.lemmas.Int.{ints, clamps}
use Rattle.std.proofs.lemmas.List.{map-append, length-append}
use Rattle.std.specs.Int.{int_min, int_max}
use Rattle.dpc_model.specs.Values.{column}
use Rattle.dpc_model.specs.Operators.{sum_of, least_value, greatest_value, total_of}
use Rattle.dpc_model.specs.declared.tuples.Tuple.{Tuple}
use Rattle.dpc_model.specs.declared.operators.Agg.{Agg}
use Rattle.dpc_model.specs.declared.operators.Agg.TheVariants.{Count, Sum, Min, Max}
use Rattle.ops_window.specs.Windows.{exact_total}
use Rattle.ops_window.specs.Feeding.{first_total, next_total, next_totals, finished, finished_totals}

-- ---- numbers

sum_of-push : (xs : List ℤ) (y : ℤ) → sum_of (xs ++ y ∷ []) ≡ sum_of xs +ℤ y
sum_of-push [] y = omega (arith, ints)
sum_of-push (x ∷ xs) y = let e = sum_of-push xs y in omega (arith, ints, e)

min_assoc : (x y z : ℤ) → int_min x (int_min y z) ≡ int_min (int_min x y) z
min_assoc x y z = omega (arith, ints, clamps)

max_assoc : (x y z : ℤ) → int_max x (int_max y z) ≡ int_max (int_max x y) z
max_assoc x y z = omega (arith, ints, clamps)

least_value-push : (x : ℤ) (xs : List ℤ) (y : ℤ) → least_value (x ∷ xs ++ y ∷ []) ≡ int_min (least_value (x ∷ xs)) y
least_value-push x [] y = refl
least_value-push x (z ∷ zs) y = ap (λ m. int_min x m) (least_value-push z zs y) ∙ min_assoc x (least_value (z ∷ zs)) y

greatest_value-push : (x : ℤ) (xs : List ℤ) (y : ℤ) → greatest_value (x ∷ xs ++ y ∷ []) ≡ int_max (greatest_value (x ∷ xs)) y
greatest_value-push x [] y = refl
greatest_value-push x (z ∷ zs) y = ap (λ m. int_max x m) (greatest_value-push z zs y) ∙ max_assoc x (greatest_value (z ∷ zs)) y

-- ---- totals

first_exact : (t : Tuple) (a : Agg) → first_total t a ≡ exact_total (t ∷ []) a
first_exact t Count = refl
first_exact t (Sum c) = omega (arith, ints)
first_exact t (Min c) = refl
first_exact t (Max c) = refl

pub firsts_exact : (t : Tuple) (aggs : List Agg) → map (first_total t) aggs ≡ map (exact_total (t ∷ [])) aggs
firsts_exact t [] = refl
firsts_exact t (a ∷ aggs) = rw (first_exact t a) (ap (λ zs. exact_total (t ∷ []) a ∷ zs) (firsts_exact t aggs))

next_exact : (u : Tuple) (us : List Tuple) (t : Tuple) (a : Agg) → next_total t a (exact_total (u ∷ us) a) ≡ exact_total (u ∷ us ++ t ∷ []) a
next_exact u us t Count = ap pos (sym (length-append (u ∷ us) (t ∷ [])))
next_exact u us t (Sum c) =
    sym (ap sum_of (map-append (λ (v : Tuple). column v c) (u ∷ us) (t ∷ [])) ∙ sum_of-push (map (λ (v : Tuple). column v c) (u ∷ us)) (column t c))
next_exact u us t (Min c) =
    sym (ap least_value (map-append (λ (v : Tuple). column v c) (u ∷ us) (t ∷ [])) ∙ least_value-push (column u c) (map (λ (v : Tuple). column v c) us) (column t c))
next_exact u us t (Max c) =
    sym (ap greatest_value (map-append (λ (v : Tuple). column v c) (u ∷ us) (t ∷ [])) ∙ greatest_value-push (column u c) (map (λ (v : Tuple). column v c) us) (column t c))

pub nexts_exact : (u : Tuple) (us : List Tuple) (t : Tuple) (aggs : List Agg) →
    next_totals t aggs (map (exact_total (u ∷ us)) aggs) ≡ map (exact_total (u ∷ us ++ t ∷ [])) aggs
nexts_exact u us t [] = refl
nexts_exact u us t (a ∷ aggs) = rw (next_exact u us t a) (ap (λ zs. exact_total (u ∷ us ++ t ∷ []) a ∷ zs) (nexts_exact u us t aggs))

-- ---- in a row

finished_exact : (us : List Tuple) (a : Agg) → finished a (exact_total us a) ≡ total_of us a
finished_exact us Count = refl
finished_exact us (Sum c) = refl
finished_exact us (Min c) = refl
finished_exact us (Max c) = refl

pub all_finished : (us : List Tuple) (aggs : List Agg) → finished_totals aggs (map (exact_total us) aggs) ≡ map (total_of us) aggs
all_finished us [] = refl
all_finished us (a ∷ aggs) = rw (finished_exact us a) (ap (λ zs. total_of us a ∷ zs) (all_finished us aggs))
