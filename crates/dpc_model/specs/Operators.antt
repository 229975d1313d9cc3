-- What each operator gives of its whole inputs, known up to a time.
use Rattle.std.specs.Prelude.{ℕ, ◌+◌, ◌-◌, ◌*◌, ◌/◌, max, ℤ, pos, ◌+ℤ◌, int_lt, Bool, ◌&&◌, nat_lt, nat_le, if◌then◌else◌, List, [], ◌∷◌, ◌++◌, map, length, filter, flat_map, Option, Some, None}
use Rattle.std.specs.Int.{int_min, int_max}
use Rattle.std.specs.Ordering.{int_eq}
use Rattle.dpc_lists.specs.Lists.{nth, sort_by, list_all, range_with_len, is_nil}
use Rattle.dpc_model.specs.Streams.{is_below}
use Rattle.dpc_model.specs.Values.{value_of, is_true, column, clamp}
use Rattle.dpc_model.specs.declared.tuples.Tuple.{Tuple}
use Rattle.dpc_model.specs.Formula.{Formula}
use Rattle.dpc_model.specs.declared.operators.Agg.{Agg}
use Rattle.dpc_model.specs.declared.operators.Agg.TheVariants.{Count, Sum, Min, Max}
use Rattle.dpc_model.specs.declared.operators.OpKind.{OpKind}
use Rattle.dpc_model.specs.declared.operators.OpKind.TheVariants.{Filter, Map, Union, Join, Aggregate}

-- the tuple of this time with these values
abbrev pub tuple_of : ℕ → List ℤ → Tuple
tuple_of time vals = record { stime = time; vals = vals }

-- ---- filter, map, union

abbrev pub filtered : Formula → List Tuple → List Tuple
filtered e ts = filter (λ t. is_true (value_of e t)) ts

-- the values of the expressions, at the tuple's time
abbrev pub mapped_tuple : List Formula → Tuple → Tuple
mapped_tuple es t = tuple_of t.stime (map (λ e. value_of e t) es)

abbrev pub mapped : List Formula → List Tuple → List Tuple
mapped es ts = map (mapped_tuple es) ts

-- the lists one after another
abbrev pub all_of : {X : Type 0} → List (List X) → List X
all_of xss = flat_map (λ xs. xs) xss

-- all tuples in order of time, input and place
abbrev pub united : List (List Tuple) → List Tuple
united inputs = sort_by (λ (t : Tuple). t.stime) (all_of inputs)

-- ---- join

-- whether two times are at most so far apart
abbrev pub is_within : ℕ → ℕ → ℕ → Bool
is_within w a b = nat_le a (b + w) && nat_le b (a + w)

-- whether the key columns are equal in pairs
abbrev pub keys_agree : List (ℕ × ℕ) → Tuple → Tuple → Bool
keys_agree keys l r = list_all (λ (key : ℕ × ℕ). int_eq (column l key.0) (column r key.1)) keys

-- whether two tuples are partners
abbrev pub are_partners : ℕ → List (ℕ × ℕ) → Tuple → Tuple → Bool
are_partners w keys l r = is_within w l.stime r.stime && keys_agree keys l r

-- a pair's row: the greater time, and the columns of the left and then of the right
abbrev pub paired : Tuple → Tuple → Tuple
paired l r = tuple_of (max l.stime r.stime) (l.vals ++ r.vals)

-- the rows of one left tuple, in order of the right place
abbrev pub pairs_with : ℕ → List (ℕ × ℕ) → List Tuple → Tuple → List Tuple
pairs_with w keys rs l = map (paired l) (filter (are_partners w keys l) rs)

-- all pairs of partners in order of the greater time, the left place and the right place
abbrev pub joined : ℕ → List (ℕ × ℕ) → List Tuple → List Tuple → List Tuple
joined w keys ls rs = sort_by (λ (t : Tuple). t.stime) (flat_map (pairs_with w keys rs) ls)

-- ---- aggregate

-- how many windows of a size, one every step, end at or below b
abbrev pub window_count : ℕ → ℕ → ℕ → ℕ
window_count size step b = if nat_lt b size then 0 else (b - size) / step + 1

-- the tuples from a time on and below another
abbrev pub between : ℕ → ℕ → List Tuple → List Tuple
between from to ts = filter (λ t. nat_le from t.stime && is_below to t) ts

-- the values without repeats, in order, with one more
abbrev pub insert_value : ℤ → List ℤ → List ℤ
insert_value z [] = z ∷ []
insert_value z (y ∷ ys) = if int_eq z y then y ∷ ys else (if int_lt z y then z ∷ y ∷ ys else y ∷ insert_value z ys)

abbrev pub distinct_values : List ℤ → List ℤ
distinct_values [] = []
distinct_values (z ∷ zs) = insert_value z (distinct_values zs)

-- the exact sum
abbrev pub sum_of : List ℤ → ℤ
sum_of [] = pos 0
sum_of (z ∷ zs) = z +ℤ sum_of zs

-- the least and the greatest of the values
abbrev pub least_value : List ℤ → ℤ
least_value [] = pos 0
least_value (z ∷ []) = z
least_value (z ∷ y ∷ ys) = int_min z (least_value (y ∷ ys))

abbrev pub greatest_value : List ℤ → ℤ
greatest_value [] = pos 0
greatest_value (z ∷ []) = z
greatest_value (z ∷ y ∷ ys) = int_max z (greatest_value (y ∷ ys))

-- an aggregate over tuples: a sum is exact and then becomes the nearest value of i64, once
abbrev pub total_of : List Tuple → Agg → ℤ
total_of ts Count = pos (length ts)
total_of ts (Sum c) = clamp (sum_of (map (λ t. column t c) ts))
total_of ts (Min c) = least_value (map (λ t. column t c) ts)
total_of ts (Max c) = greatest_value (map (λ t. column t c) ts)

-- the rows of a window's tuples, at a time: one for each group that occurs, in order
abbrev pub group_rows : Option ℕ → List Agg → ℕ → List Tuple → List Tuple
group_rows None aggs time ts = if is_nil ts then [] else (tuple_of time (map (total_of ts) aggs) ∷ [])
group_rows (Some c) aggs time ts =
    map (λ z. tuple_of time (z ∷ map (total_of (filter (λ t. int_eq (column t c) z) ts)) aggs)) (distinct_values (map (λ t. column t c) ts))

-- the rows of the window that begins at a time. Their time is the window's end minus 1
abbrev pub window_rows : ℕ → Option ℕ → List Agg → List Tuple → ℕ → List Tuple
window_rows size group aggs ts start = group_rows group aggs (start + size - 1) (between start (start + size) ts)

-- the rows of each window that ends at or below b, in order of end and group
abbrev pub aggregated : ℕ → ℕ → Option ℕ → List Agg → List Tuple → ℕ → List Tuple
aggregated size step group aggs ts b =
    flat_map (λ j. window_rows size group aggs ts (j * step)) (range_with_len 0 (window_count size step b))

-- ---- any operator

-- the output of an operator whose inputs are known up to b
abbrev pub output_of : OpKind → List (List Tuple) → ℕ → List Tuple
output_of (Filter e) inputs b = filtered e (nth [] inputs 0)
output_of (Map es) inputs b = mapped es (nth [] inputs 0)
output_of Union inputs b = united inputs
output_of (Join w keys) inputs b = joined w keys (nth [] inputs 0) (nth [] inputs 1)
output_of (Aggregate size step group aggs) inputs b = aggregated size step group aggs (nth [] inputs 0) b
