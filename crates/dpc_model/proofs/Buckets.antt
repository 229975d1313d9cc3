-- Bucket by bucket: what a bucket adds to the output of a causal engine is its output from the bucket's begin on.
use Rattle.std.proofs.Common.{◌≡◌, ℕ, ◌+◌, ◌*◌, ◌<◌, ◌≤◌, true, ◌==◌, List, [], ◌∷◌, ◌++◌, map, length, drop, refl, ◌∙◌, ap, arith, nat_le, None, unwrap_or, All, false, cond}
use Rattle.std.proofs.lemmas.Grind.{common_steps}
use Rattle.std.proofs.Math.Seq.{drop-append_seam}
use Rattle.std.proofs.lemmas.List.{map-append, append-nil}
use Rattle.std.proofs.lemmas.List.Elements.{filter-append, recursion_from_All, All-append, All-weaker, All-filter, filter_passes}
use Rattle.std.specs.List.{filter, AllByRecursion}
use Rattle.std.specs.Cmp.Derive.{both_true}
use Rattle.dpc_lists.specs.Lists.{range_with_len, push, last_or}
use Rattle.dpc_model.specs.Streams.{NoneBelow, IsOrdered, time_of, InOrder, cut, is_below}
use Rattle.dpc_model.specs.Engines.{Value, IsBucket, LiesIn, LiesBelow, from_time, ports_of, engine_value, lone_operator, nameless, operator_value, added_output}
use Rattle.dpc_model.specs.Fragments.{at_port, cut_tagged, read_wire, outputs_after, IsSoundKind}
use Rattle.dpc_model.specs.Operators.{output_of}
use Rattle.dpc_model.specs.declared.tuples.Tuple.{Tuple}
use Rattle.dpc_model.specs.declared.tuples.Tagged.{Tagged}
use Rattle.dpc_model.specs.declared.operators.OpKind.{OpKind}
use Rattle.dpc_model.specs.declared.operators.OpSpec.{OpSpec}
use Rattle.dpc_model.specs.declared.operators.Wire.TheVariants.{Port}
use Rattle.dpc_model.proofs.IdealCausality.{cut-output_of}
use Rattle.dpc_model.proofs.Order.{tagged_time}
use Rattle.dpc_model.proofs.Cuts.{none-below, all-from, ordered-split, none_below-all, ordered-append}
use Rattle.dpc_model.proofs.Kept.{ports_of-kept}
use Rattle.dpc_model.proofs.Serial.{adjacent-ordered}

-- ---- the inputs before a bucket, and those of the bucket

cut_all : (b : ℕ) (xs : List Tagged) → AllByRecursion (LiesBelow b) xs → cut_tagged b xs ≡ xs
cut_all b [] h = refl
cut_all b (x ∷ xs) h = grind (arith, common_steps, h.0, cut_all b xs h.1)

-- a tuple of a bucket lies from its begin on and below its end
pub lies-from : (w k : ℕ) (x : Tagged) → LiesIn w k x → k * w ≤ x.tuple.stime
lies-from w k x h = grind (arith, common_steps)

pub lies-below : (w k : ℕ) (x : Tagged) → LiesIn w k x → x.tuple.stime < (k + 1) * w
lies-below w k x h = grind (arith, common_steps)

pub bucket-from : (w k : ℕ) (xs : List Tagged) → All (LiesIn w k) xs → AllByRecursion (λ (x : Tagged). k * w ≤ x.tuple.stime) xs
bucket-from w k xs l = recursion_from_All (λ (x : Tagged). k * w ≤ x.tuple.stime) xs (All-weaker (LiesIn w k) (λ (x : Tagged). k * w ≤ x.tuple.stime) (lies-from w k) xs l)

pub bucket-below : (w k : ℕ) (xs : List Tagged) → All (LiesIn w k) xs → AllByRecursion (LiesBelow ((k + 1) * w)) xs
bucket-below w k xs l = recursion_from_All (LiesBelow ((k + 1) * w)) xs (All-weaker (LiesIn w k) (LiesBelow ((k + 1) * w)) (lies-below w k) xs l)

late-bucket : (w k : ℕ) (xs : List Tagged) → All (LiesIn w k) xs → NoneBelow tagged_time (k * w) xs
late-bucket w k xs l = none_below-all tagged_time (k * w) (k * w) xs (omega arith) (bucket-from w k xs l)

-- inputs below a time stay when they are cut there
pub cut-below : (b : ℕ) (xs : List Tagged) → All (LiesBelow b) xs → cut_tagged b xs ≡ xs
cut-below b xs h = cut_all b xs (recursion_from_All (LiesBelow b) xs h)

-- before the begin of a bucket stands what came before
pub cut-before : (w k : ℕ) (xs ys : List Tagged) → All (LiesBelow (k * w)) xs → All (LiesIn w k) ys → cut_tagged (k * w) (xs ++ ys) ≡ xs
cut-before w k xs ys h l =
    filter-append (λ (x : Tagged). is_below (k * w) x.tuple) xs ys
    ∙ rw (cut_all (k * w) xs (recursion_from_All (LiesBelow (k * w)) xs h), none-below tagged_time (k * w) (k * w) ys (omega arith) (late-bucket w k ys l)) (append-nil xs)

-- the tagged tuples from a time on
abbrev pub from_tagged : ℕ → List Tagged → List Tagged
from_tagged b xs = filter (λ (x : Tagged). nat_le b x.tuple.stime) xs

from_none : (b : ℕ) (xs : List Tagged) → AllByRecursion (LiesBelow b) xs → from_tagged b xs ≡ []
from_none b [] h = refl
from_none b (x ∷ xs) h = grind (arith, common_steps, h.0, from_none b xs h.1)

-- what is cut out lies in the bucket
pub cut-inside : (w k : ℕ) (xs : List Tagged) → All (LiesIn w k) (cut_tagged ((k + 1) * w) (from_tagged (k * w) xs))
cut-inside w k xs =
    let early = λ (x : Tagged). is_below ((k + 1) * w) x.tuple in
    let late = λ (x : Tagged). nat_le (k * w) x.tuple.stime in
    let from = All-filter early (λ (x : Tagged). late x ≡ true) (from_tagged (k * w) xs) (filter_passes late xs) in
    λ i d h. both_true (from i d h) (filter_passes early (from_tagged (k * w) xs) i d h)

-- from the begin of a bucket on stands the bucket
pub after-begin : (w k : ℕ) (xs ys : List Tagged) → All (LiesBelow (k * w)) xs → All (LiesIn w k) ys → from_tagged (k * w) (xs ++ ys) ≡ ys
after-begin w k xs ys h l =
    filter-append (λ (x : Tagged). nat_le (k * w) x.tuple.stime) xs ys
    ∙ rw (from_none (k * w) xs (recursion_from_All (LiesBelow (k * w)) xs h), all-from tagged_time (k * w) (k * w) ys (omega arith) (late-bucket w k ys l)) refl

-- after a bucket all lies below its end
pub LiesBelow-next : (w k : ℕ) (xs ys : List Tagged) → All (LiesBelow (k * w)) xs → All (LiesIn w k) ys → All (LiesBelow ((k + 1) * w)) (xs ++ ys)
LiesBelow-next w k xs ys h l =
    let later : k * w ≤ (k + 1) * w = grind (arith, common_steps) in
    All-append (LiesBelow ((k + 1) * w)) xs ys
    (All-weaker (LiesBelow (k * w)) (LiesBelow ((k + 1) * w)) (λ x e. omega (arith, e, later)) xs h)
    (All-weaker (LiesIn w k) (LiesBelow ((k + 1) * w)) (lies-below w k) ys l)

-- ---- what came by a port

pub at_port-append : (p : ℕ) (xs ys : List Tagged) → at_port p (xs ++ ys) ≡ at_port p xs ++ at_port p ys
at_port-append p xs ys =
    ap (λ (zs : List Tagged). map (λ (x : Tagged). x.tuple) zs) (filter-append (λ (x : Tagged). x.port == p) xs ys)
    ∙ map-append (λ (x : Tagged). x.tuple) (filter (λ (x : Tagged). x.port == p) xs) (filter (λ (x : Tagged). x.port == p) ys)

-- what holds of each tuple holds of those of a port
pub at_port-all : (P : Tuple → Type 0) (p : ℕ) (xs : List Tagged) → AllByRecursion (λ (x : Tagged). P x.tuple) xs → AllByRecursion P (at_port p xs)
at_port-all P p [] h = tt
at_port-all P p (x ∷ xs) h =
    elim (x.port == p) as (λ c. AllByRecursion P (map (λ (y : Tagged). y.tuple) (cond c (x ∷ filter (λ (y : Tagged). y.port == p) xs) (filter (λ (y : Tagged). y.port == p) xs)))) [
      | true ↦ (h.0, at_port-all P p xs h.1)
      | false ↦ at_port-all P p xs h.1
    ]

-- the ports that one operator reads
ports-read : (xs : List Tagged) (ps : List ℕ) → map (read_wire xs []) (map Port ps) ≡ map (λ p. at_port p xs) ps
ports-read xs [] = refl
ports-read xs (p ∷ ps) = ap (λ (yss : List (List Tuple)). at_port p xs ∷ yss) (ports-read xs ps)

-- an engine of one operator makes what the operator does
pub lone-value : (kind : OpKind) (n : ℕ) (xs : List Tagged) (b : ℕ) → engine_value (lone_operator kind n) xs b ≡ operator_value kind n xs b
lone-value kind n xs b = ap (λ (yss : List (List Tuple)). output_of kind yss b) (ports-read xs (range_with_len 0 n))

pub lone-added : (kind : OpKind) (n w : ℕ) (before bucket : List Tagged) (k : ℕ) →
    added_output (engine_value (lone_operator kind n)) w before bucket k ≡ added_output (operator_value kind n) w before bucket k
lone-added kind n w before bucket k = rw (lone-value kind n before (k * w), lone-value kind n (before ++ bucket) ((k + 1) * w)) refl

nameless-outputs : (outs : List (List Tuple)) (ops : List OpSpec) (xs : List Tagged) (b : ℕ) → outputs_after outs (nameless ops) xs b ≡ outputs_after outs ops xs b
nameless-outputs outs [] xs b = refl
nameless-outputs outs (op ∷ ops) xs b = nameless-outputs (push outs (output_of op.kind (map (read_wire xs outs) op.reads) b)) ops xs b

-- names do not count
pub nameless-value : (ops : List OpSpec) (xs : List Tagged) (b : ℕ) → engine_value (nameless ops) xs b ≡ engine_value ops xs b
nameless-value ops xs b = ap (λ (yss : List (List Tuple)). unwrap_or (last_or None yss) []) (nameless-outputs [] ops xs b)

-- ---- causal engines

-- the output cut at a time is that of the cut inputs
abbrev pub IsCausal : Value → Type 0
IsCausal v = (xs : List Tagged) (b b' : ℕ) → b ≤ b' → cut (v xs b') b ≡ v (cut_tagged b xs) b

pub operator-causal : (kind : OpKind) (n : ℕ) → IsSoundKind kind → IsCausal (operator_value kind n)
operator-causal kind n s xs b b' h =
    cut-output_of kind (ports_of n xs) b b' s h ∙ ap (λ (yss : List (List Tuple)). output_of kind yss b) (ports_of-kept (is_below b) n xs)

-- the output of a bucket stands behind that of the buckets before it
pub value-split : (v : Value) (w k : ℕ) (before bucket : List Tagged) → IsCausal v → InOrder (v (before ++ bucket) ((k + 1) * w)) →
    All (LiesBelow (k * w)) before → All (LiesIn w k) bucket →
    v (before ++ bucket) ((k + 1) * w) ≡ v before (k * w) ++ from_time (k * w) (v (before ++ bucket) ((k + 1) * w))
value-split v w k before bucket causal o h l =
    let later : k * w ≤ (k + 1) * w = grind (arith, common_steps) in
    let whole = v (before ++ bucket) ((k + 1) * w) in
    ordered-split time_of (k * w) whole o
    ∙ ap (λ (ts : List Tuple). ts ++ from_time (k * w) whole)
    (causal (before ++ bucket) (k * w) ((k + 1) * w) later ∙ ap (λ (xs : List Tagged). v xs (k * w)) (cut-before w k before bucket h l))

pub added-is : (v : Value) (w k : ℕ) (before bucket : List Tagged) → IsCausal v → InOrder (v (before ++ bucket) ((k + 1) * w)) →
    All (LiesBelow (k * w)) before → All (LiesIn w k) bucket → added_output v w before bucket k ≡ from_time (k * w) (v (before ++ bucket) ((k + 1) * w))
added-is v w k before bucket causal o h l =
    ap (λ (ts : List Tuple). drop (length (v before (k * w))) ts) (value-split v w k before bucket causal o h l)
    ∙ drop-append_seam (v before (k * w)) (from_time (k * w) (v (before ++ bucket) ((k + 1) * w)))

-- inputs below a time give output below it
pub value-below : (v : Value) (b : ℕ) (xs : List Tagged) → IsCausal v → All (LiesBelow b) xs → cut (v xs b) b ≡ v xs b
value-below v b xs causal h = causal xs b b (omega arith) ∙ ap (λ (ys : List Tagged). v ys b) (cut-below b xs h)

-- ---- the order of a bucket

-- the inputs stay in order of time
pub inputs-ordered : (w k : ℕ) (xs ys : List Tagged) → IsOrdered tagged_time xs → All (LiesBelow (k * w)) xs → IsBucket w k ys → IsOrdered tagged_time (xs ++ ys)
inputs-ordered w k xs ys o h b =
    ordered-append tagged_time (k * w) xs ys o (adjacent-ordered ys b.ordered) (recursion_from_All (LiesBelow (k * w)) xs h)
    (bucket-from w k ys b.inside)
