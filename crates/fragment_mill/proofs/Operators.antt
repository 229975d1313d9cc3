-- One operator: what stays of it fits, what it can take and answers, and an operator before bucket 0.
use Rattle.std.proofs.Common.{◌≡◌, ℕ, ◌-◌, ◌*◌, false, Option, Some, None, unwrap_or, List, [], ◌∷◌, map, length, refl, sym, ◌∙◌, ap, arith}
use Rattle.std.proofs.lemmas.List.Elements.{All-nil}
use Rattle.std.proofs.lemmas.List.FromFn.{length-map-range_with_len}
use Rattle.dpc_lists.specs.Lists.{range_with_len}
use Rattle.dpc_model.specs.Engines.{LiesBelow, FitsBucket, Accepts, engine_value, added_output}
use Rattle.dpc_model.specs.Operators.{output_of, united}
use Rattle.dpc_model.specs.Fragments.{serial, IsSoundKind}
use Rattle.dpc_model.specs.declared.tuples.Tuple.{Tuple}
use Rattle.dpc_model.specs.declared.tuples.Tagged.{Tagged}
use Rattle.dpc_model.specs.declared.operators.OpKind.{OpKind}
use Rattle.dpc_model.specs.declared.operators.OpSpec.{OpSpec}
use Rattle.dpc_model.specs.declared.operators.Wire.{Wire}
use Rattle.dpc_model.specs.declared.operators.Wire.TheVariants.{Port}
use Rattle.dpc_model.specs.declared.operators.OpKind.TheVariants as kind
use Rattle.fragment_mill.specs.declared.operator.Operator.{Operator}
use Rattle.fragment_mill.specs.declared.operator.Operator.TheVariants.{Filter, Map, Union, Join, Aggregate}
use Rattle.fragment_mill.specs.declared.mill.Stage.{Stage}
use Rattle.fragment_mill.specs.Mills.{kind_of, operators_of, port_count, width_of, next_of, spent_of, spec_of, new_operator, new_stage, OperatorAfter}
use Rattle.fragment_mill.specs.Milling.{added_of, ports_for, MakesOutput, IsFit}
use Rattle.dpc_model.proofs.Buckets.{lone-value}
use Rattle.dpc_model.proofs.Serial.{at_port-serial, ports_of-serial}

-- ---- what stays

pub kind-stays : (o p : Operator) → operators_of p ≡ operators_of o → kind_of p ≡ kind_of o
kind-stays o p e =
    let same : kind_of p ∷ [] ≡ kind_of o ∷ [] = ap (λ (ops : List OpSpec). map (λ (op : OpSpec). op.kind) ops) e in
    cc

pub ports-stay : (o p : Operator) → operators_of p ≡ operators_of o → port_count p ≡ port_count o
ports-stay o p e =
    let many : (n : ℕ) → length (map {A = ℕ} {B = Wire} Port (range_with_len 0 n)) ≡ n = length-map-range_with_len {X = Wire} Port 0 in
    let same : map {A = ℕ} {B = Wire} Port (range_with_len 0 (port_count p)) ∷ [] ≡ map {A = ℕ} {B = Wire} Port (range_with_len 0 (port_count o)) ∷ [] =
    ap (λ (ops : List OpSpec). map (λ (op : OpSpec). op.reads) ops) e in
    let one : map {A = ℕ} {B = Wire} Port (range_with_len 0 (port_count p)) ≡ map {A = ℕ} {B = Wire} Port (range_with_len 0 (port_count o)) = cc in
    sym (many (port_count p)) ∙ ap (λ (ws : List Wire). length ws) one ∙ many (port_count o)

pub spec-stays : (s t : Stage) → t.reads ≡ s.reads → operators_of t.operator ≡ operators_of s.operator → spec_of t ≡ spec_of s
spec-stays s t reads e = let kind = kind-stays s.operator t.operator e in rw (reads, kind) refl

pub IsFit-stays : (w : ℕ) (s t : Stage) → t.reads ≡ s.reads → operators_of t.operator ≡ operators_of s.operator → width_of t.operator ≡ width_of s.operator → IsFit w s → IsFit w t
IsFit-stays w s t reads e width f =
    let kind = kind-stays s.operator t.operator e in
    record {
      width = rw width f.width;
      ports =
          ports-stay s.operator t.operator e
          ∙ f.ports
          ∙ ap (λ (k : OpKind). ports_for k (length s.reads)) (sym kind)
          ∙ ap (λ (ws : List Wire). ports_for (kind_of t.operator) (length ws)) (sym reads);
      sound = rw kind f.sound;
      makes = λ ins b l o.
          ap (λ (ops : List OpSpec). engine_value ops (serial ins) b) e
          ∙ f.makes ins b (l ∙ ap (λ ws. length ws) reads) o
          ∙ ap (λ (k : OpKind). output_of k ins b) (sym kind);
    }

-- ---- what an operator can take, and what it answers

pub Accepts-from : (w k : ℕ) (width : Option ℕ) (xs : List Tagged) → unwrap_or width w ≡ w → FitsBucket w k xs → Accepts width k xs
Accepts-from w k None xs e b = tt
Accepts-from w k (Some v) xs e b = rw e b

-- where it has no width, any serves
pub added-fit : (w k : ℕ) (o : Operator) (before bucket : List Tagged) → unwrap_or (width_of o) w ≡ w → added_of o before bucket k ≡ added_output (engine_value (operators_of o)) w before bucket k
added-fit w k (Filter f) before bucket e = refl
added-fit w k (Map m) before bucket e = refl
added-fit w k (Union u) before bucket e = refl
added-fit w k (Join j) before bucket e = refl
added-fit w k (Aggregate a) before bucket e = rw e refl

pub next-after : (o : Operator) (xs : List Tagged) (k : ℕ) → OperatorAfter o xs k → next_of o ≡ k
next-after (Filter f) xs k h = h
next-after (Map m) xs k h = h
next-after (Union u) xs k h = h.next
next-after (Join j) xs k h = h.next
next-after (Aggregate a) xs k h = h.next

-- ---- an operator before bucket 0

pub kind-new : (w n : ℕ) (kind : OpKind) → kind_of (new_operator w n kind) ≡ kind
kind-new w n (kind.Filter e) = refl
kind-new w n (kind.Map es) = refl
kind-new w n kind.Union = refl
kind-new w n (kind.Join within keys) = refl
kind-new w n (kind.Aggregate size step group aggs) = refl

width-new : (w n : ℕ) (kind : OpKind) → unwrap_or (width_of (new_operator w n kind)) w ≡ w
width-new w n (kind.Filter e) = refl
width-new w n (kind.Map es) = refl
width-new w n kind.Union = refl
width-new w n (kind.Join within keys) = refl
width-new w n (kind.Aggregate size step group aggs) = refl

makes-new : (w n : ℕ) (kind : OpKind) → MakesOutput n (new_operator w n kind)
makes-new w n (kind.Filter e) ins b l o = rw (at_port-serial ins 0 o) refl
makes-new w n (kind.Map es) ins b l o = rw (at_port-serial ins 0 o) refl
makes-new w n kind.Union ins b l o = lone-value kind.Union n (serial ins) b ∙ rw (← l) (ap (λ (yss : List (List Tuple)). united yss) (ports_of-serial ins o))
makes-new w n (kind.Join within keys) ins b l o = rw (at_port-serial ins 0 o, at_port-serial ins 1 o) refl
makes-new w n (kind.Aggregate size step group aggs) ins b l o = rw (at_port-serial ins 0 o) refl

ports-new : (w n : ℕ) (kind : OpKind) → port_count (new_operator w n kind) ≡ ports_for (kind_of (new_operator w n kind)) n
ports-new w n (kind.Filter e) = refl
ports-new w n (kind.Map es) = refl
ports-new w n kind.Union = refl
ports-new w n (kind.Join within keys) = refl
ports-new w n (kind.Aggregate size step group aggs) = refl

pub IsFit-new : (w : ℕ) (op : OpSpec) → IsSoundKind op.kind → IsFit w (new_stage w op)
IsFit-new w op s = record {
  width = width-new w (length op.reads) op.kind;
  ports = ports-new w (length op.reads) op.kind;
  sound = rw (kind-new w (length op.reads) op.kind) s;
  makes = makes-new w (length op.reads) op.kind;
}

pub idle-new : (w n : ℕ) (kind : OpKind) → spent_of (new_operator w n kind) ≡ false
idle-new w n (kind.Filter e) = refl
idle-new w n (kind.Map es) = refl
idle-new w n kind.Union = refl
idle-new w n (kind.Join within keys) = refl
idle-new w n (kind.Aggregate size step group aggs) = refl

no_windows : (n : ℕ) → 0 - n ≡ 0
no_windows n = omega arith

pub after-new : (w n : ℕ) (kind : OpKind) → OperatorAfter (new_operator w n kind) [] 0
after-new w n (kind.Filter e) = refl
after-new w n (kind.Map es) = refl
after-new w n kind.Union = record { next = refl; below = All-nil (LiesBelow (0 * w)) }
after-new w n (kind.Join within keys) = record { next = refl; below = All-nil (LiesBelow (0 * w)); left = refl; right = refl }
after-new w n (kind.Aggregate size step group aggs) = record { next = refl; below = All-nil (LiesBelow (0 * w)); cells = grind (arith, no_windows) }
