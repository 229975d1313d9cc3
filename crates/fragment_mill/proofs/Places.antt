-- What is read of a bucket and of rows in it lies in it, and so do the rows of an operator that keeps nothing.
use Rattle.std.proofs.Common.{◌≡◌, ℕ, zero, suc, ◌+◌, ◌*◌, ◌<◌, ◌≤◌, Bool, true, false, cond, List, [], ◌∷◌, ◌++◌, map, filter, drop, unwrap_or, Result, Ok, Err, IfOk, subst, nat_lt, nat_le, All}
use Rattle.std.proofs.lemmas.Bool.{and_from, le-leb, lt-ltb}
use Rattle.std.proofs.lemmas.List.Elements.{recursion_from_All, All-from_recursion}
use Rattle.std.specs.List.{AllByRecursion}
use Rattle.dpc_lists.specs.Lists.{nth, range_with_len, insert_by, sort_by, push}
use Rattle.dpc_model.specs.Streams.{time_of}
use Rattle.dpc_model.specs.Values.{value_of, is_true}
use Rattle.dpc_model.specs.Formula.{Formula}
use Rattle.dpc_model.specs.Operators.{filtered, mapped, united, all_of}
use Rattle.dpc_model.specs.Fragments.{tag, tagged_from, at_port, read_wire}
use Rattle.dpc_model.specs.Engines.{LiesIn, ports_of}
use Rattle.dpc_model.specs.declared.faults.StepFault.{StepFault}
use Rattle.dpc_model.specs.declared.operators.OpKind.TheVariants as kind
use Rattle.dpc_model.specs.declared.operators.Wire.{Wire}
use Rattle.dpc_model.specs.declared.operators.Wire.TheVariants.{Port, Op}
use Rattle.dpc_model.specs.declared.tuples.Tuple.{Tuple}
use Rattle.dpc_model.specs.declared.tuples.Tagged.{Tagged}
use Rattle.dpc_model.proofs.Buckets.{lone-value, lies-from, lies-below, at_port-all}
use Rattle.dpc_model.proofs.Order.{tagged_time}
use Rattle.ops_stateless.specs.FilterOp.{FilterState}
use Rattle.ops_stateless.specs.MapOps.{MapState}
use Rattle.ops_stateless.specs.Unions.{UnionState}
use Rattle.fragment_mill.specs.declared.operator.Operator.{Operator}
use Rattle.fragment_mill.specs.declared.operator.Operator.TheVariants.{Filter, Map, Union}
use Rattle.fragment_mill.specs.Mills.{OperatorAfter, inputs_of, width_of}
use Rattle.fragment_mill.specs.Milling.{IsOfBucket, AreOfBucket, added_of}

-- ---- lists

all-append : {X : Type 0} (P : X → Type 0) (xs ys : List X) → AllByRecursion P xs → AllByRecursion P ys → AllByRecursion P (xs ++ ys)
all-append P [] ys h k = k
all-append P (x ∷ xs) ys h k = (h.0, all-append P xs ys h.1 k)

insert-all : {X : Type 0} (P : X → Type 0) (key : X → ℕ) (x : X) (xs : List X) → P x → AllByRecursion P xs → AllByRecursion P (insert_by key x xs)
insert-all P key x [] p h = (p, tt)
insert-all P key x (y ∷ xs) p h =
    elim (nat_lt (key y) (key x)) as (λ c. AllByRecursion P (cond c (y ∷ insert_by key x xs) (x ∷ y ∷ xs))) [
      | true ↦ (h.0, insert-all P key x xs p h.1)
      | false ↦ (p, h)
    ]

sort-all : {X : Type 0} (P : X → Type 0) (key : X → ℕ) (xs : List X) → AllByRecursion P xs → AllByRecursion P (sort_by key xs)
sort-all P key [] h = tt
sort-all P key (x ∷ xs) h = insert-all P key x (sort_by key xs) h.0 (sort-all P key xs h.1)

filter-all : {X : Type 0} (P : X → Type 0) (test : X → Bool) (xs : List X) → AllByRecursion P xs → AllByRecursion P (filter test xs)
filter-all P test [] h = tt
filter-all P test (x ∷ xs) h =
    elim (test x) as (λ c. AllByRecursion P (cond c (x ∷ filter test xs) (filter test xs))) [
      | true ↦ (h.0, filter-all P test xs h.1)
      | false ↦ filter-all P test xs h.1
    ]

drop-all : {X : Type 0} (P : X → Type 0) (n : ℕ) (xs : List X) → AllByRecursion P xs → AllByRecursion P (drop n xs)
drop-all P zero [] h = tt
drop-all P (suc n) [] h = tt
drop-all P zero (x ∷ xs) h = h
drop-all P (suc n) (x ∷ xs) h = drop-all P n xs h.1

all-weaker : {X : Type 0} (P Q : X → Type 0) → ((x : X) → P x → Q x) → (xs : List X) → AllByRecursion P xs → AllByRecursion Q xs
all-weaker P Q f [] h = tt
all-weaker P Q f (x ∷ xs) h = (f x h.0, all-weaker P Q f xs h.1)

pub push-all : {X : Type 0} (P : X → Type 0) (xs : List X) (x : X) → All P xs → P x → All P (push xs x)
push-all P xs x h p = All-from_recursion P (push xs x) (all-append P xs (x ∷ []) (recursion_from_All P xs h) (p, tt))

-- ---- what is read

module _ (w k : ℕ) where
  abbrev pub Lies : Tagged → Type 0
  Lies x = LiesIn w k x

  lies-of : (p : ℕ) (t : Tuple) → IsOfBucket w k t → Lies (tag p t)
  lies-of p t h = and_from (nat_le (k * w) t.stime) (nat_lt t.stime ((k + 1) * w)) (le-leb (k * w) t.stime h.0) (lt-ltb t.stime ((k + 1) * w) h.1)

  of-lies : (x : Tagged) → Lies x → IsOfBucket w k x.tuple
  of-lies x h = (lies-from w k x h, lies-below w k x h)

  inputs-of : (p : ℕ) (xs : List Tagged) → All Lies xs → AllByRecursion (IsOfBucket w k) (at_port p xs)
  inputs-of p xs h = at_port-all (IsOfBucket w k) p xs (all-weaker Lies (λ (x : Tagged). IsOfBucket w k x.tuple) of-lies xs (recursion_from_All Lies xs h))

  wire-of : (xs : List Tagged) (outs : List (List Tuple)) (wire : Wire) → All Lies xs → AllByRecursion (λ (ts : List Tuple). All (IsOfBucket w k) ts) outs → AllByRecursion (IsOfBucket w k) (read_wire xs outs wire)
  wire-of xs outs (Port p) h g = inputs-of p xs h
  wire-of xs outs (Op i) h g = at outs i g
    where
      at : (outs : List (List Tuple)) (i : ℕ) → AllByRecursion (λ (ts : List Tuple). All (IsOfBucket w k) ts) outs → AllByRecursion (IsOfBucket w k) (nth [] outs i)
      at [] i g = tt
      at (ts ∷ outs) zero g = recursion_from_All (IsOfBucket w k) ts g.0
      at (ts ∷ outs) (suc i) g = at outs i g.1

  tags-lie : (p : ℕ) (ts : List Tuple) → AllByRecursion (IsOfBucket w k) ts → AllByRecursion Lies (map (tag p) ts)
  tags-lie p [] h = tt
  tags-lie p (t ∷ ts) h = (lies-of p t h.0, tags-lie p ts h.1)

  wires-lie : (p : ℕ) (xs : List Tagged) (outs : List (List Tuple)) (wires : List Wire) → All Lies xs → AllByRecursion (λ (ts : List Tuple). All (IsOfBucket w k) ts) outs →
      AllByRecursion Lies (tagged_from p (map (read_wire xs outs) wires))
  wires-lie p xs outs [] h g = tt
  wires-lie p xs outs (wire ∷ wires) h g =
      all-append Lies (map (tag p) (read_wire xs outs wire)) (tagged_from (p + 1) (map (read_wire xs outs) wires)) (tags-lie p (read_wire xs outs wire) (wire-of xs outs wire h g)) (wires-lie (p + 1) xs outs wires h g)

  -- what wires read of the inputs of a bucket, and of outputs that lie in it, lies in it
  pub inputs-lie : (xs : List Tagged) (outs : List (List Tuple)) (wires : List Wire) → All Lies xs → AreOfBucket w k outs → All Lies (inputs_of xs outs wires)
  inputs-lie xs outs wires h g =
      All-from_recursion Lies (inputs_of xs outs wires)
      (sort-all Lies tagged_time (tagged_from 0 (map (read_wire xs outs) wires)) (wires-lie 0 xs outs wires h (recursion_from_All (λ (ts : List Tuple). All (IsOfBucket w k) ts) outs g)))

  -- ---- the rows of operators that keep nothing

  mapped-of : (es : List Formula) (ts : List Tuple) → AllByRecursion (IsOfBucket w k) ts → AllByRecursion (IsOfBucket w k) (mapped es ts)
  mapped-of es [] h = tt
  mapped-of es (t ∷ ts) h = (h.0, mapped-of es ts h.1)

  ports-of : (a n : ℕ) (xs : List Tagged) → All Lies xs → AllByRecursion (IsOfBucket w k) (all_of (map (λ p. at_port p xs) (range_with_len a n)))
  ports-of a zero xs h = tt
  ports-of a (suc n) xs h = all-append (IsOfBucket w k) (at_port a xs) (all_of (map (λ p. at_port p xs) (range_with_len (a + 1) n))) (inputs-of a xs h) (ports-of (a + 1) n xs h)

  -- a filter's, a map's and a union's
  pub filter-inside : (f : FilterState) (xs : List Tagged) → All Lies xs → All (IsOfBucket w k) (added_of (Filter f) [] xs k)
  filter-inside f xs h =
      All-from_recursion (IsOfBucket w k) (added_of (Filter f) [] xs k)
      (drop-all (IsOfBucket w k) 0 (filtered f.expr (at_port 0 xs)) (filter-all (IsOfBucket w k) (λ t. is_true (value_of f.expr t)) (at_port 0 xs) (inputs-of 0 xs h)))

  pub map-inside : (m : MapState) (xs : List Tagged) → All Lies xs → All (IsOfBucket w k) (added_of (Map m) [] xs k)
  map-inside m xs h =
      All-from_recursion (IsOfBucket w k) (added_of (Map m) [] xs k)
      (drop-all (IsOfBucket w k) 0 (mapped m.exprs (at_port 0 xs)) (mapped-of m.exprs (at_port 0 xs) (inputs-of 0 xs h)))

  pub union-inside : (u : UnionState) (xs : List Tagged) → All Lies xs → All (IsOfBucket w k) (added_of (Union u) [] xs k)
  union-inside u xs h =
      let value = lone-value kind.Union u.ports xs ((k + 1) * u.width) in
      let whole = sort-all (IsOfBucket w k) time_of (all_of (ports_of u.ports xs)) (ports-of 0 u.ports xs h) in
      All-from_recursion (IsOfBucket w k) (added_of (Union u) [] xs k) (rw value (drop-all (IsOfBucket w k) _ (united (ports_of u.ports xs)) whole))

-- ---- in code

-- rows that are what the bucket adds to nothing
pub inside-ok : (r : Result (List Tuple) StepFault) (o : Operator) (xs : List Tagged) (k : ℕ) → IfOk r (λ out. (before : List Tagged) → OperatorAfter o before k → out ≡ added_of o before xs k) → OperatorAfter o [] k →
    ((w : ℕ) → unwrap_or (width_of o) w ≡ w → All (LiesIn w k) xs → All (IsOfBucket w k) (added_of o [] xs k)) →
    IfOk r (λ out. (w : ℕ) → unwrap_or (width_of o) w ≡ w → All (LiesIn w k) xs → All (IsOfBucket w k) out)
inside-ok (Ok out) o xs k answer after lies = λ w wide h. let is = answer [] after in rw is (lies w wide h)
inside-ok (Err e) o xs k answer after lies = tt

-- rows of an operator's own bucket are rows of the bucket of that width
pub inside-wide : (r : Result (List Tuple) StepFault) (o : Operator) (width k : ℕ) (xs : List Tagged) → ((w : ℕ) → unwrap_or (width_of o) w ≡ w → width ≡ w) →
    IfOk r (λ out. All (λ (t : Tuple). (k * width ≤ t.stime) × (t.stime < (k + 1) * width)) out) →
    IfOk r (λ out. (w : ℕ) → unwrap_or (width_of o) w ≡ w → All (LiesIn w k) xs → All (IsOfBucket w k) out)
inside-wide (Ok out) o width k xs wide h = λ w e g. subst (λ (v : ℕ). All (IsOfBucket v k) out) (wide w e) h
inside-wide (Err e) o width k xs wide h = tt
