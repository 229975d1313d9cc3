-- Every output is in order of time.
use Rattle.std.proofs.Common.{◌≡◌, ℕ, zero, suc, ◌+◌, ◌-◌, ◌*◌, ◌≤◌, Bool, true, false, cond, ◌==◌, List, [], ◌∷◌, ◌++◌, map, refl, arith, Option, Some, None, unwrap_or}
use Rattle.std.specs.List.{filter, flat_map, last_or}
use Rattle.dpc_lists.specs.Lists.{nth, push, range_with_len, is_nil}
use Rattle.dpc_model.specs.Streams.{AllInOrder, NoneBelow, IsOrdered, time_of, InOrder, is_below}
use Rattle.dpc_model.specs.Values.{column, is_true, value_of}
use Rattle.dpc_model.specs.Operators.{output_of, all_of, pairs_with, group_rows, window_rows, between, window_count, tuple_of, total_of, distinct_values, mapped_tuple}
use Rattle.dpc_model.specs.Fragments.{serial, tagged_from, read_wire, outputs_after, fragment_value, log_of, stream_upto, fragments_upto, ideal_upto, LogsInOrder, at_port}
use Rattle.dpc_model.specs.declared.tuples.Tuple.{Tuple}
use Rattle.dpc_model.specs.declared.tuples.Tagged.{Tagged}
use Rattle.dpc_model.specs.declared.operators.Agg.{Agg}
use Rattle.dpc_model.specs.declared.operators.Wire.{Wire}
use Rattle.dpc_model.specs.declared.operators.Wire.TheVariants.{Port, Op}
use Rattle.dpc_model.specs.declared.operators.OpKind.{OpKind}
use Rattle.dpc_model.specs.declared.operators.OpKind.TheVariants.{Filter, Map, Union, Join, Aggregate}
use Rattle.dpc_model.specs.declared.operators.OpSpec.{OpSpec}
use Rattle.dpc_model.specs.declared.plans.FragSpec.{FragSpec}
use Rattle.dpc_model.specs.declared.plans.Plan.{Plan}
use Rattle.dpc_model.specs.declared.plans.StreamRef.{StreamRef}
use Rattle.dpc_model.specs.declared.plans.StreamRef.TheVariants.{Source, Frag}
use Rattle.dpc_model.proofs.Causality.{IsOrdered-sort, NoneBelow-le, NoneBelow-filter}

abbrev pub tagged_time : Tagged → ℕ
tagged_time x = x.tuple.stime

module _ {X : Type 0} (key : X → ℕ) where
  pub IsOrdered-filter : (p : X → Bool) (xs : List X) → IsOrdered key xs → IsOrdered key (filter p xs)
  IsOrdered-filter p [] s = tt
  IsOrdered-filter p (x ∷ xs) s =
      elim (p x) as (λ c. IsOrdered key (cond c (x ∷ filter p xs) (filter p xs))) [
        | true ↦ (NoneBelow-filter key p (key x) xs s.0, IsOrdered-filter p xs s.1)
        | false ↦ IsOrdered-filter p xs s.1
      ]

module _ {X Y : Type 0} (key : X → ℕ) (key' : Y → ℕ) (f : X → Y) (same : (x : X) → key' (f x) ≡ key x) where
  NoneBelow-map : (n : ℕ) (xs : List X) → NoneBelow key n xs → NoneBelow key' n (map f xs)
  NoneBelow-map n [] s = tt
  NoneBelow-map n (x ∷ xs) s = (rw (same x) s.0, NoneBelow-map n xs s.1)

  pub IsOrdered-map : (xs : List X) → IsOrdered key xs → IsOrdered key' (map f xs)
  IsOrdered-map [] s = tt
  IsOrdered-map (x ∷ xs) s = (rw (same x) (NoneBelow-map (key x) xs s.0), IsOrdered-map xs s.1)

-- ---- windows

-- rows made at one time, in front of others
made_first : {X : Type 0} (time : ℕ) (f : X → Tuple) → ((x : X) → time_of (f x) ≡ time) → (xs : List X) (ts : List Tuple) → NoneBelow time_of time ts → InOrder ts →
    NoneBelow time_of time (map f xs ++ ts) × InOrder (map f xs ++ ts)
made_first time f same [] ts n o = (n, o)
made_first time f same (x ∷ xs) ts n o =
    let rest = made_first time f same xs ts n o in
    let le : time ≤ time_of (f x) = omega (arith, same x) in
    ((le, rest.0), (rw (same x) rest.0, rest.1))

rows_first : (group : Option ℕ) (aggs : List Agg) (time : ℕ) (us ts : List Tuple) → NoneBelow time_of time ts → InOrder ts →
    NoneBelow time_of time (group_rows group aggs time us ++ ts) × InOrder (group_rows group aggs time us ++ ts)
rows_first None aggs time us ts n o =
    elim (is_nil us) as (λ c. NoneBelow time_of time (cond c [] (tuple_of time (map (total_of us) aggs) ∷ []) ++ ts) × InOrder (cond c [] (tuple_of time (map (total_of us) aggs) ∷ []) ++ ts)) [
      | true ↦ (n, o)
      | false ↦ ((omega arith, n), (n, o))
    ]
rows_first (Some c) aggs time us ts n o = made_first time _ (λ z. refl) (distinct_values (map (λ t. column t c) us)) ts n o

windows_in_order : (size step : ℕ) (group : Option ℕ) (aggs : List Agg) (us : List Tuple) (a n : ℕ) →
    NoneBelow time_of (a * step + size - 1) (flat_map (λ j. window_rows size group aggs us (j * step)) (range_with_len a n))
    × InOrder (flat_map (λ j. window_rows size group aggs us (j * step)) (range_with_len a n))
windows_in_order size step group aggs us a zero = (tt, tt)
windows_in_order size step group aggs us a (suc n) =
    let rest = windows_in_order size step group aggs us (a + 1) n in
    let later : a * step + size - 1 ≤ (a + 1) * step + size - 1 = omega arith in
    rows_first group aggs (a * step + size - 1) (between (a * step) (a * step + size) us) _ (NoneBelow-le time_of (a * step + size - 1) ((a + 1) * step + size - 1) _ later rest.0) rest.1

-- ---- any operator

pub nth-InOrder : (xss : List (List Tuple)) (i : ℕ) → AllInOrder xss → InOrder (nth [] xss i)
nth-InOrder [] i h = tt
nth-InOrder (ts ∷ xss) zero h = h.0
nth-InOrder (ts ∷ xss) (suc i) h = nth-InOrder xss i h.1

pub output_of-InOrder : (kind : OpKind) (ins : List (List Tuple)) (b : ℕ) → AllInOrder ins → InOrder (output_of kind ins b)
output_of-InOrder (Filter e) ins b h = IsOrdered-filter time_of (λ t. is_true (value_of e t)) (nth [] ins 0) (nth-InOrder ins 0 h)
output_of-InOrder (Map es) ins b h = IsOrdered-map time_of time_of (mapped_tuple es) (λ t. refl) (nth [] ins 0) (nth-InOrder ins 0 h)
output_of-InOrder Union ins b h = IsOrdered-sort time_of (all_of ins)
output_of-InOrder (Join w keys) ins b h = IsOrdered-sort time_of (flat_map (pairs_with w keys (nth [] ins 1)) (nth [] ins 0))
output_of-InOrder (Aggregate size step group aggs) ins b h = (windows_in_order size step group aggs (nth [] ins 0) 0 (window_count size step b)).1

-- ---- a fragment

pub at_port-InOrder : (p : ℕ) (xs : List Tagged) → IsOrdered tagged_time xs → InOrder (at_port p xs)
at_port-InOrder p xs o =
    IsOrdered-map tagged_time time_of (λ (x : Tagged). x.tuple) (λ x. refl) (filter (λ (x : Tagged). x.port == p) xs) (IsOrdered-filter tagged_time (λ (x : Tagged). x.port == p) xs o)

read_wire-InOrder : (xs : List Tagged) (outs : List (List Tuple)) (w : Wire) → IsOrdered tagged_time xs → AllInOrder outs → InOrder (read_wire xs outs w)
read_wire-InOrder xs outs (Port p) o h = at_port-InOrder p xs o
read_wire-InOrder xs outs (Op i) o h = nth-InOrder outs i h

pub reads-InOrder : (xs : List Tagged) (outs : List (List Tuple)) (ws : List Wire) → IsOrdered tagged_time xs → AllInOrder outs → AllInOrder (map (read_wire xs outs) ws)
reads-InOrder xs outs [] o h = tt
reads-InOrder xs outs (w ∷ ws) o h = (read_wire-InOrder xs outs w o h, reads-InOrder xs outs ws o h)

push-AllInOrder : (outs : List (List Tuple)) (ts : List Tuple) → AllInOrder outs → InOrder ts → AllInOrder (push outs ts)
push-AllInOrder [] ts h o = (o, tt)
push-AllInOrder (us ∷ outs) ts h o = (h.0, push-AllInOrder outs ts h.1 o)

pub outputs-InOrder : (outs : List (List Tuple)) (ops : List OpSpec) (xs : List Tagged) (b : ℕ) → IsOrdered tagged_time xs → AllInOrder outs → AllInOrder (outputs_after outs ops xs b)
outputs-InOrder outs [] xs b o h = h
outputs-InOrder outs (op ∷ ops) xs b o h =
    let ins = map (read_wire xs outs) op.reads in
    outputs-InOrder (push outs (output_of op.kind ins b)) ops xs b o
    (push-AllInOrder outs (output_of op.kind ins b) h (output_of-InOrder op.kind ins b (reads-InOrder xs outs op.reads o h)))

last-InOrder : (ts : List Tuple) (outs : List (List Tuple)) → InOrder ts → AllInOrder outs → InOrder (unwrap_or (last_or (Some ts) outs) [])
last-InOrder ts [] o h = o
last-InOrder ts (us ∷ outs) o h = last-InOrder us outs h.0 h.1

pub value-InOrder : (outs : List (List Tuple)) → AllInOrder outs → InOrder (unwrap_or (last_or None outs) [])
value-InOrder [] h = tt
value-InOrder (ts ∷ outs) h = last-InOrder ts outs h.0 h.1

pub fragment-InOrder : (ops : List OpSpec) (xs : List Tagged) (b : ℕ) → IsOrdered tagged_time xs → InOrder (fragment_value ops xs b)
fragment-InOrder ops xs b o = value-InOrder (outputs_after [] ops xs b) (outputs-InOrder [] ops xs b o tt)

pub fragment_value-InOrder : (ops : List OpSpec) (ports : List (List Tuple)) (b : ℕ) → InOrder (fragment_value ops (serial ports) b)
fragment_value-InOrder ops ports b = fragment-InOrder ops (serial ports) b (IsOrdered-sort tagged_time (tagged_from 0 ports))

-- ---- the failure-free output

pub fragments-InOrder : (plan : Plan) (b : ℕ) (values : List (List Tuple)) (frags : List FragSpec) → AllInOrder values → AllInOrder (fragments_upto plan b values frags)
fragments-InOrder plan b values [] h = h
fragments-InOrder plan b values (f ∷ rest) h =
    let ins = map (stream_upto plan b values) f.inputs in
    let out = fragment_value f.ops (serial ins) b in
    fragments-InOrder plan b (push values out) rest (push-AllInOrder values out h (fragment_value-InOrder f.ops ins b))

pub stream-InOrder : (plan : Plan) (b : ℕ) (values : List (List Tuple)) (s : StreamRef) → LogsInOrder plan → AllInOrder values → InOrder (stream_upto plan b values s)
stream-InOrder plan b values (Source s) l h = IsOrdered-filter time_of (is_below b) (log_of plan s) (l s)
stream-InOrder plan b values (Frag f) l h = nth-InOrder values f h

pub ideal_upto-InOrder : (plan : Plan) (s : StreamRef) (b : ℕ) → LogsInOrder plan → InOrder (ideal_upto plan s b)
unfolding ideal_upto
ideal_upto-InOrder plan s b l = stream-InOrder plan b (fragments_upto plan b [] plan.frags) s l (fragments-InOrder plan b [] plan.frags tt)
