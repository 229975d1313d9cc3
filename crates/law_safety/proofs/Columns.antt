-- The tuples of a stream have its columns and lie below end.
use Rattle.std.proofs.Common.{◌≡◌, ℕ, int_eq, zero, suc, ◌+◌, ◌-◌, ◌*◌, ◌≤◌, Bool, true, false, cond, ◌&&◌, ◌==◌, nat_lt, List, [], ◌∷◌, ◌++◌, map, length, refl, ◌∙◌, arith, Option, Some, None, length-append, unwrap_or}
use Rattle.std.proofs.lemmas.List.{length-map}
use Rattle.std.specs.List.{filter, flat_map}
use Rattle.dpc_lists.specs.Lists.{nth, push, list_all, last_or, range_with_len}
use Rattle.dpc_model.specs.Streams.{is_below}
use Rattle.dpc_model.specs.Operators.{output_of, mapped_tuple, all_of, paired, pairs_with, are_partners, window_rows, group_rows, total_of, between, window_count, distinct_values}
use Rattle.dpc_model.specs.Values.{value_of, is_true, column}
use Rattle.dpc_model.specs.Columns.{kind_columns, wire_columns, columns_after, fragment_columns, columns_by, frags_columns, stream_columns}
use Rattle.dpc_model.specs.Fragments.{tag, tagged_from, serial, at_port, read_wire, outputs_after, fragment_value, log_of, stream_upto, fragments_upto, ideal, ideal_upto}
use Rattle.dpc_model.specs.declared.tuples.Tuple.{Tuple}
use Rattle.dpc_model.specs.declared.tuples.Tagged.{Tagged}
use Rattle.dpc_model.specs.declared.operators.Agg.{Agg}
use Rattle.dpc_model.specs.declared.operators.OpKind.{OpKind}
use Rattle.dpc_model.specs.declared.operators.OpKind.TheVariants.{Filter, Map, Union, Join, Aggregate}
use Rattle.dpc_model.specs.declared.operators.OpSpec.{OpSpec}
use Rattle.dpc_model.specs.declared.operators.Wire.{Wire}
use Rattle.dpc_model.specs.declared.operators.Wire.TheVariants.{Port, Op}
use Rattle.dpc_model.specs.declared.plans.FragSpec.{FragSpec}
use Rattle.dpc_model.specs.declared.plans.Plan.{Plan}
use Rattle.dpc_model.specs.declared.plans.StreamRef.{StreamRef}
use Rattle.dpc_model.specs.declared.plans.StreamRef.TheVariants.{Source, Frag}
use Rattle.dpc_model.proofs.IdealCausality.{cut-ideal_upto}
use Rattle.world_model.specs.Orderly.{has_columns, fits_port, fits_stream}
use Rattle.law_safety.specs.Plans.{IsChecked, is_even, are_even_ops, are_even_frags}
use Rattle.dpc_lists.proofs.Truths.{both, both-of, eq-of, eq-test, lt-of, lt-test, all-append, all-sort, all-part, all-filter, all-map, all-weaker}

-- each of these lists has the columns that stand beside it
abbrev pub AllColumns : List ℕ → List (List Tuple) → Type 0
AllColumns [] [] = Unit {0}
AllColumns (c ∷ cs) (ts ∷ tss) = (list_all (has_columns c) ts ≡ true) × AllColumns cs tss
AllColumns [] (ts ∷ tss) = ⊥
AllColumns (c ∷ cs) [] = ⊥

pub nth-columns : (cs : List ℕ) (tss : List (List Tuple)) (i : ℕ) → AllColumns cs tss → list_all (has_columns (nth 0 cs i)) (nth [] tss i) ≡ true
nth-columns [] [] i h = refl
nth-columns [] (ts ∷ tss) i h = absurd h
nth-columns (c ∷ cs) [] i h = absurd h
nth-columns (c ∷ cs) (ts ∷ tss) zero h = h.0
nth-columns (c ∷ cs) (ts ∷ tss) (suc i) h = nth-columns cs tss i h.1

pub push-columns : (cs : List ℕ) (tss : List (List Tuple)) (c : ℕ) (ts : List Tuple) → AllColumns cs tss → list_all (has_columns c) ts ≡ true → AllColumns (push cs c) (push tss ts)
push-columns [] [] c ts h k = (k, tt)
push-columns [] (us ∷ tss) c ts h k = absurd h
push-columns (d ∷ cs) [] c ts h k = absurd h
push-columns (d ∷ cs) (us ∷ tss) c ts h k = (h.0, push-columns cs tss c ts h.1 k)

-- ---- operators

all-of-columns : (c : ℕ) (cs : List ℕ) (tss : List (List Tuple)) → AllColumns cs tss → list_all (λ d. d == c) cs ≡ true → list_all (has_columns c) (all_of tss) ≡ true
all-of-columns c [] [] h k = refl
all-of-columns c [] (ts ∷ tss) h k = absurd h
all-of-columns c (d ∷ cs) [] h k = absurd h
all-of-columns c (d ∷ cs) (ts ∷ tss) h k =
    let p = both (d == c) (list_all (λ e. e == c) cs) k in
    all-append (has_columns c) ts (all_of tss) (rw (eq-of d c p.0) at h.0) (all-of-columns c cs tss h.1 p.1)

row-columns : (c d : ℕ) (l r : Tuple) → has_columns c l ≡ true → has_columns d r ≡ true → has_columns (c + d) (paired l r) ≡ true
row-columns c d l r h k =
    let left = eq-of (length l.vals) c h in
    let right = eq-of (length r.vals) d k in
    eq-test (length (l.vals ++ r.vals)) (c + d) (omega (arith, left, right, length-append l.vals r.vals))

pairs-columns : (c d w : ℕ) (keys : List (ℕ × ℕ)) (l : Tuple) (rs : List Tuple) → has_columns c l ≡ true → list_all (has_columns d) rs ≡ true → list_all (has_columns (c + d)) (pairs_with w keys rs l) ≡ true
pairs-columns c d w keys l [] h k = refl
pairs-columns c d w keys l (r ∷ rs) h k =
    let p = both (has_columns d r) (list_all (has_columns d) rs) k in
    let rest = filter (are_partners w keys l) rs in
    elim (are_partners w keys l r) as (λ b. list_all (has_columns (c + d)) (map (paired l) (cond b (r ∷ rest) rest)) ≡ true) [
      | true ↦ both-of (has_columns (c + d) (paired l r)) (list_all (has_columns (c + d)) (map (paired l) rest)) (row-columns c d l r h p.0) (pairs-columns c d w keys l rs h p.1)
      | false ↦ pairs-columns c d w keys l rs h p.1
    ]

joined-columns : (c d w : ℕ) (keys : List (ℕ × ℕ)) (ls rs : List Tuple) → list_all (has_columns c) ls ≡ true → list_all (has_columns d) rs ≡ true →
    list_all (has_columns (c + d)) (flat_map (pairs_with w keys rs) ls) ≡ true
joined-columns c d w keys [] rs h k = refl
joined-columns c d w keys (l ∷ ls) rs h k =
    let p = both (has_columns c l) (list_all (has_columns c) ls) h in
    all-append (has_columns (c + d)) (pairs_with w keys rs l) (flat_map (pairs_with w keys rs) ls) (pairs-columns c d w keys l rs p.0 k) (joined-columns c d w keys ls rs p.1 k)

group-columns : (group : Option ℕ) (aggs : List Agg) (time : ℕ) (ts : List Tuple) → list_all (has_columns (kind_columns (Aggregate 0 0 group aggs) [])) (group_rows group aggs time ts) ≡ true
group-columns None aggs time [] = refl
group-columns None aggs time (t ∷ ts) =
    both-of _ true (eq-test (length (map (total_of (t ∷ ts)) aggs)) (0 + length aggs) (length-map aggs (total_of (t ∷ ts)) ∙ omega arith)) refl
group-columns (Some c) aggs time ts =
    all-map (has_columns (1 + length aggs)) _ (distinct_values (map (λ t. column t c) ts))
    (λ z. eq-test _ (1 + length aggs) (let same = length-map aggs (total_of (filter (λ t. int_eq (column t c) z) ts)) in omega (arith, same)))

windows-columns : (size step : ℕ) (group : Option ℕ) (aggs : List Agg) (ts : List Tuple) (js : List ℕ) →
    list_all (has_columns (kind_columns (Aggregate size step group aggs) [])) (flat_map (λ j. window_rows size group aggs ts (j * step)) js) ≡ true
windows-columns size step group aggs ts [] = refl
windows-columns size step group aggs ts (j ∷ js) =
    all-append _ (window_rows size group aggs ts (j * step)) (flat_map (λ i. window_rows size group aggs ts (i * step)) js)
    (group-columns group aggs (j * step + size - 1) (between (j * step) (j * step + size) ts)) (windows-columns size step group aggs ts js)

pub output-columns : (kind : OpKind) (cs : List ℕ) (ins : List (List Tuple)) (b : ℕ) → is_even kind cs ≡ true → AllColumns cs ins → list_all (has_columns (kind_columns kind cs)) (output_of kind ins b) ≡ true
output-columns (Filter e) cs ins b even h = all-part (has_columns (nth 0 cs 0)) (λ t. is_true (value_of e t)) (nth [] ins 0) (nth-columns cs ins 0 h)
output-columns (Map es) cs ins b even h =
    all-map (has_columns (length es)) (mapped_tuple es) (nth [] ins 0) (λ t. eq-test (length (map (λ e. value_of e t) es)) (length es) (length-map es (λ e. value_of e t)))
output-columns Union cs ins b even h = all-sort (has_columns (nth 0 cs 0)) (λ (t : Tuple). t.stime) (all_of ins) (all-of-columns (nth 0 cs 0) cs ins h even)
output-columns (Join w keys) cs ins b even h =
    all-sort (has_columns (nth 0 cs 0 + nth 0 cs 1)) (λ (t : Tuple). t.stime) (flat_map (pairs_with w keys (nth [] ins 1)) (nth [] ins 0))
    (joined-columns (nth 0 cs 0) (nth 0 cs 1) w keys (nth [] ins 0) (nth [] ins 1) (nth-columns cs ins 0 h) (nth-columns cs ins 1 h))
output-columns (Aggregate size step group aggs) cs ins b even h = windows-columns size step group aggs (nth [] ins 0) (range_with_len 0 (window_count size step b))

-- ---- a fragment

pub tagged-columns : (ports : List ℕ) (p : ℕ) (xs : List Tagged) → list_all (fits_port ports) xs ≡ true → list_all (has_columns (nth 0 ports p)) (at_port p xs) ≡ true
tagged-columns ports p [] h = refl
tagged-columns ports p (x ∷ xs) h =
    let k = both (fits_port ports x) (list_all (fits_port ports) xs) h in
    let rest = filter (λ (y : Tagged). y.port == p) xs in
    (elim (x.port == p) as (λ b. (x.port == p) ≡ b → list_all (has_columns (nth 0 ports p)) (map (λ (y : Tagged). y.tuple) (cond b (x ∷ rest) rest)) ≡ true) [
      | true ↦ λ e.
          let same : x.port ≡ p = eq-of x.port p e in
          both-of (has_columns (nth 0 ports p) x.tuple) (list_all (has_columns (nth 0 ports p)) (map (λ (y : Tagged). y.tuple) rest)) (rw same at k.0) (tagged-columns ports p xs k.1)
      | false ↦ λ e. tagged-columns ports p xs k.1
    ]) refl

pub wire-columns : (ports outcols : List ℕ) (xs : List Tagged) (outs : List (List Tuple)) (w : Wire) → list_all (fits_port ports) xs ≡ true → AllColumns outcols outs →
    list_all (has_columns (wire_columns ports outcols w)) (read_wire xs outs w) ≡ true
wire-columns ports outcols xs outs (Port p) h k = tagged-columns ports p xs h
wire-columns ports outcols xs outs (Op i) h k = nth-columns outcols outs i k

pub reads-columns : (ports outcols : List ℕ) (xs : List Tagged) (outs : List (List Tuple)) (ws : List Wire) → list_all (fits_port ports) xs ≡ true → AllColumns outcols outs →
    AllColumns (map (wire_columns ports outcols) ws) (map (read_wire xs outs) ws)
reads-columns ports outcols xs outs [] h k = tt
reads-columns ports outcols xs outs (w ∷ ws) h k = (wire-columns ports outcols xs outs w h k, reads-columns ports outcols xs outs ws h k)

pub outputs-columns : (ports outcols : List ℕ) (ops : List OpSpec) (xs : List Tagged) (outs : List (List Tuple)) (b : ℕ) → list_all (fits_port ports) xs ≡ true →
    are_even_ops ports outcols ops ≡ true → AllColumns outcols outs → AllColumns (columns_after ports outcols ops) (outputs_after outs ops xs b)
outputs-columns ports outcols [] xs outs b h even k = k
outputs-columns ports outcols (op ∷ ops) xs outs b h even k =
    let reads = map (wire_columns ports outcols) op.reads in
    let e = both (is_even op.kind reads) (are_even_ops ports (push outcols (kind_columns op.kind reads)) ops) even in
    outputs-columns ports (push outcols (kind_columns op.kind reads)) ops xs (push outs (output_of op.kind (map (read_wire xs outs) op.reads) b)) b h e.1
    (push-columns outcols outs (kind_columns op.kind reads) (output_of op.kind (map (read_wire xs outs) op.reads) b) k
    (output-columns op.kind reads (map (read_wire xs outs) op.reads) b e.0 (reads-columns ports outcols xs outs op.reads h k)))

last-columns : (c : ℕ) (ts : List Tuple) (cs : List ℕ) (tss : List (List Tuple)) → list_all (has_columns c) ts ≡ true → AllColumns cs tss →
    list_all (has_columns (unwrap_or (last_or (Some c) cs) 0)) (unwrap_or (last_or (Some ts) tss) []) ≡ true
last-columns c ts [] [] h k = h
last-columns c ts [] (us ∷ tss) h k = absurd k
last-columns c ts (d ∷ cs) [] h k = absurd k
last-columns c ts (d ∷ cs) (us ∷ tss) h k = last-columns d us cs tss k.0 k.1

outcome-columns : (cs : List ℕ) (tss : List (List Tuple)) → AllColumns cs tss → list_all (has_columns (unwrap_or (last_or None cs) 0)) (unwrap_or (last_or None tss) []) ≡ true
outcome-columns [] [] k = refl
outcome-columns [] (us ∷ tss) k = absurd k
outcome-columns (d ∷ cs) [] k = absurd k
outcome-columns (d ∷ cs) (us ∷ tss) k = last-columns d us cs tss k.0 k.1

pub fragment-columns : (ports : List ℕ) (ops : List OpSpec) (xs : List Tagged) (b : ℕ) → list_all (fits_port ports) xs ≡ true → are_even_ops ports [] ops ≡ true →
    list_all (has_columns (fragment_columns ports ops)) (fragment_value ops xs b) ≡ true
fragment-columns ports ops xs b h even = outcome-columns (columns_after ports [] ops) (outputs_after [] ops xs b) (outputs-columns ports [] ops xs [] b h even tt)

-- ---- inputs in one list

-- the columns from port p on
abbrev pub IsFrom : List ℕ → ℕ → List ℕ → Type 0
IsFrom cols p cs = (i : ℕ) → nth 0 cols (p + i) ≡ nth 0 cs i

tags-columns : (cols : List ℕ) (p c : ℕ) (ts : List Tuple) → nth 0 cols p ≡ c → list_all (has_columns c) ts ≡ true → list_all (fits_port cols) (map (tag p) ts) ≡ true
tags-columns cols p c [] e h = refl
tags-columns cols p c (t ∷ ts) e h =
    let k = both (has_columns c t) (list_all (has_columns c) ts) h in
    both-of (fits_port cols (tag p t)) (list_all (fits_port cols) (map (tag p) ts)) (rw e k.0) (tags-columns cols p c ts e k.1)

tagged_from-columns : (cols : List ℕ) (p : ℕ) (cs : List ℕ) (tss : List (List Tuple)) → IsFrom cols p cs → AllColumns cs tss → list_all (fits_port cols) (tagged_from p tss) ≡ true
tagged_from-columns cols p [] [] f h = refl
tagged_from-columns cols p [] (ts ∷ tss) f h = absurd h
tagged_from-columns cols p (c ∷ cs) [] f h = absurd h
tagged_from-columns cols p (c ∷ cs) (ts ∷ tss) f h =
    let none : p + 0 ≡ p = omega arith in
    all-append (fits_port cols) (map (tag p) ts) (tagged_from (p + 1) tss) (tags-columns cols p c ts (rw none at (f 0)) h.0)
    (tagged_from-columns cols (p + 1) cs tss (λ i. let next : p + 1 + i ≡ p + suc i = omega arith in rw next (f (suc i))) h.1)

pub serial-columns : (cs : List ℕ) (tss : List (List Tuple)) → AllColumns cs tss → list_all (fits_port cs) (serial tss) ≡ true
serial-columns cs tss h =
    all-sort (fits_port cs) (λ (x : Tagged). x.tuple.stime) (tagged_from 0 tss)
    (tagged_from-columns cs 0 cs tss (λ i. let none : 0 + i ≡ i = omega arith in rw none refl) h)

-- ---- the failure-free output

source-columns : (plan : Plan) (s : ℕ) → IsChecked plan → (ts : List Tuple) → list_all (fits_stream plan (Source s)) ts ≡ true → list_all (has_columns (stream_columns plan (Source s))) ts ≡ true
source-columns plan s checked ts h =
    all-weaker (has_columns (stream_columns plan (Source s))) (fits_stream plan (Source s)) ts (λ t k. (both (nat_lt t.stime plan.end) (has_columns (stream_columns plan (Source s)) t) k).1) h

stream-columns : (plan : Plan) (b : ℕ) (done : List ℕ) (values : List (List Tuple)) (s : StreamRef) → IsChecked plan → AllColumns done values →
    list_all (has_columns (columns_by plan done s)) (stream_upto plan b values s) ≡ true
stream-columns plan b done values (Source s) checked h =
    all-part (has_columns (columns_by plan done (Source s))) (is_below b) (log_of plan s) (source-columns plan s checked (log_of plan s) (checked.logs s))
stream-columns plan b done values (Frag f) checked h = nth-columns done values f h

streams-columns : (plan : Plan) (b : ℕ) (done : List ℕ) (values : List (List Tuple)) (ss : List StreamRef) → IsChecked plan → AllColumns done values →
    AllColumns (map (columns_by plan done) ss) (map (stream_upto plan b values) ss)
streams-columns plan b done values [] checked h = tt
streams-columns plan b done values (s ∷ ss) checked h = (stream-columns plan b done values s checked h, streams-columns plan b done values ss checked h)

frags-columns : (plan : Plan) (b : ℕ) (done : List ℕ) (values : List (List Tuple)) (frags : List FragSpec) → IsChecked plan → are_even_frags plan done frags ≡ true → AllColumns done values →
    AllColumns (frags_columns plan done frags) (fragments_upto plan b values frags)
frags-columns plan b done values [] checked even h = h
frags-columns plan b done values (f ∷ rest) checked even h =
    let ports = map (columns_by plan done) f.inputs in
    let e = both (are_even_ops ports [] f.ops) (are_even_frags plan (push done (fragment_columns ports f.ops)) rest) even in
    let value = fragment_value f.ops (serial (map (stream_upto plan b values) f.inputs)) b in
    frags-columns plan b (push done (fragment_columns ports f.ops)) (push values value) rest checked e.1
    (push-columns done values (fragment_columns ports f.ops) value h
    (fragment-columns ports f.ops (serial (map (stream_upto plan b values) f.inputs)) b
    (serial-columns ports (map (stream_upto plan b values) f.inputs) (streams-columns plan b done values f.inputs checked h)) e.0))

pub ideal_upto-columns : (plan : Plan) (s : StreamRef) (b : ℕ) → IsChecked plan → list_all (has_columns (stream_columns plan s)) (ideal_upto plan s b) ≡ true
unfolding ideal_upto
ideal_upto-columns plan s b checked =
    stream-columns plan b (frags_columns plan [] plan.frags) (fragments_upto plan b [] plan.frags) s checked (frags-columns plan b [] [] plan.frags checked checked.even tt)

-- it lies below its time
pub ideal_upto-below : (plan : Plan) (s : StreamRef) (b : ℕ) → IsChecked plan → list_all (is_below b) (ideal_upto plan s b) ≡ true
ideal_upto-below plan s b checked =
    let same = cut-ideal_upto plan s b b checked.sound.ops (omega arith) in
    rw same at (all-filter (is_below b) (is_below b) (ideal_upto plan s b) (λ t h. h))

pub all-both : {X : Type 0} (p q : X → Bool) (xs : List X) → list_all p xs ≡ true → list_all q xs ≡ true → list_all (λ x. p x && q x) xs ≡ true
all-both p q [] h k = refl
all-both p q (x ∷ xs) h k =
    let a = both (p x) (list_all p xs) h in
    let b = both (q x) (list_all q xs) k in
    both-of (p x && q x) (list_all (λ y. p y && q y) xs) (both-of (p x) (q x) a.0 b.0) (all-both p q xs a.1 b.1)

pub fits-of : (plan : Plan) (s : StreamRef) (b : ℕ) (ts : List Tuple) → b ≤ plan.end → list_all (is_below b) ts ≡ true → list_all (has_columns (stream_columns plan s)) ts ≡ true → list_all (fits_stream plan s) ts ≡ true
fits-of plan s b ts within below columns =
    all-both (is_below plan.end) (has_columns (stream_columns plan s)) ts
    (all-weaker (is_below plan.end) (is_below b) ts (λ t h. lt-test t.stime plan.end (let less = lt-of t.stime b h in omega (arith, less, within))) below) columns

pub ideal_upto-fits : (plan : Plan) (s : StreamRef) (b : ℕ) → IsChecked plan → b ≤ plan.end → list_all (fits_stream plan s) (ideal_upto plan s b) ≡ true
ideal_upto-fits plan s b checked within = fits-of plan s b (ideal_upto plan s b) within (ideal_upto-below plan s b checked) (ideal_upto-columns plan s b checked)

pub ideal-fits : (plan : Plan) (s : StreamRef) → IsChecked plan → list_all (fits_stream plan s) (ideal plan s) ≡ true
unfolding ideal
ideal-fits plan s checked = ideal_upto-fits plan s plan.end checked (omega arith)
