-- One bucket more at the end.
use Rattle.std.proofs.Common.{◌≡◌, ℕ, ◌+◌, List, [], ◌∷◌, ◌++◌, length, refl, sym, ap, subst, ◌∙◌, arith, append-nil, append_assoc, length-append, Some, ◌*◌, false}
use Rattle.std.proofs.lemmas.Grind.{flat_map-append}
use Rattle.std.proofs.lemmas.List.FromFn.{map-range_with_len_more}
use Rattle.dpc_model.specs.Operators.{all_of}
use Rattle.dpc_model.specs.Engines.{Value, engine_value, added_output, nameless}
use Rattle.dpc_model.specs.Parts.{Inputs}
use Rattle.dpc_model.specs.declared.operators.OpSpec.{OpSpec}
use Rattle.dpc_model.specs.declared.tuples.Tuple.{Tuple}
use Rattle.dpc_model.specs.declared.tuples.Tagged.{Tagged}
use Rattle.dpc_model.proofs.Buckets.{nameless-value}
use Rattle.checkpoint_redo.specs.Keeping.{added_by}
use Rattle.fragment_mill.specs.Mills.{MillState, MillAfter, specs_of}
use Rattle.sunion.specs.Unions.{bucket_in}
use Rattle.law_buckets.specs.Series.{buckets_from}
use Rattle.pipeline.specs.Running.{HasRun}

pub buckets-more : (w : ℕ) (x : Inputs) (k i : ℕ) → buckets_from w x k (i + 1) ≡ buckets_from w x k i ++ bucket_in w x (k + i) ∷ []
buckets-more w x k i = map-range_with_len_more (bucket_in w x) k i (k + i) refl

all-more : (bs : List (List Tagged)) (b : List Tagged) → all_of (bs ++ b ∷ []) ≡ all_of bs ++ b
all-more bs b = flat_map-append (λ (xs : List Tagged). xs) bs (b ∷ []) ∙ ap (λ (xs : List Tagged). all_of bs ++ xs) (append-nil b)

length-more : (bs : List (List Tagged)) (b : List Tagged) (first k : ℕ) → k ≡ first + length bs → k + 1 ≡ first + length (bs ++ b ∷ [])
length-more bs b first k e = let more = length-append bs (b ∷ []) in omega (arith, more, e)

added-more : (v : Value) (w : ℕ) (before : List Tagged) (bs : List (List Tagged)) (b : List Tagged) (first : ℕ) →
    added_by v w before (bs ++ b ∷ []) first ≡ added_by v w before bs first ++ added_output v w (before ++ all_of bs) b (first + length bs)
added-more v w before [] b first =
    let none : first + 0 ≡ first = omega arith in rw (none, append-nil before) (append-nil (added_output v w before b first))
added-more v w before (a ∷ bs) b first =
    let number : (first + 1) + length bs ≡ first + length (a ∷ bs) = omega arith in
    let rest : added_by v w (before ++ a) (bs ++ b ∷ []) (first + 1)
    ≡ added_by v w (before ++ a) bs (first + 1) ++ added_output v w (before ++ (a ++ all_of bs)) b (first + length (a ∷ bs)) =
    added-more v w (before ++ a) bs b (first + 1)
    ∙ ap (λ (n : ℕ). added_by v w (before ++ a) bs (first + 1) ++ added_output v w ((before ++ a) ++ all_of bs) b n) number
    ∙ ap (λ (xs : List Tagged). added_by v w (before ++ a) bs (first + 1) ++ added_output v w xs b (first + length (a ∷ bs))) (append_assoc before a (all_of bs)) in
    ap (λ (ts : List Tuple). added_output v w before a first ++ ts) rest
    ∙ sym (append_assoc (added_output v w before a first) (added_by v w (before ++ a) bs (first + 1)) (added_output v w (before ++ (a ++ all_of bs)) b (first + length (a ∷ bs))))

-- names do not count
nameless-added : (ops : List OpSpec) (w : ℕ) (before bucket : List Tagged) (k : ℕ) → added_output (engine_value (nameless ops)) w before bucket k ≡ added_output (engine_value ops) w before bucket k
nameless-added ops w before bucket k = rw (nameless-value ops before (k * w), nameless-value ops (before ++ bucket) ((k + 1) * w)) refl

-- a mill takes one bucket more
pub run-more : (ops : List OpSpec) (w first k : ℕ) (m n : MillState) (before bucket : List Tagged) (bs : List (List Tagged)) (added out : List Tuple) →
    k ≡ m.next → specs_of n.stages ≡ specs_of m.stages → Some n.width ≡ Some m.width → n.spent ≡ false →
    ((xs : List Tagged) → MillAfter m xs k → out ≡ added_output (engine_value (specs_of m.stages)) m.width xs bucket k) →
    ((xs : List Tagged) → MillAfter m xs k → MillAfter n (xs ++ bucket) (k + 1)) →
    HasRun ops w m before bs first added → HasRun ops w n before (bs ++ bucket ∷ []) first (added ++ out)
run-more ops w first k m n before bucket bs added out here specs wide unspent told took h =
    let past = before ++ all_of bs in
    let number : k ≡ first + length bs = here ∙ h.after.next in
    let stood : MillAfter m past k = subst (λ (j : ℕ). MillAfter m past j) (sym number) h.after in
    let width : n.width ≡ m.width = cc in
    let inputs : past ++ bucket ≡ before ++ all_of (bs ++ bucket ∷ []) =
    append_assoc before (all_of bs) bucket ∙ ap (λ (xs : List Tagged). before ++ xs) (sym (all-more bs bucket)) in
    let output : out ≡ added_output (engine_value ops) w past bucket (first + length bs) =
    told past stood
    ∙ ap (λ (os : List OpSpec). added_output (engine_value os) m.width past bucket k) h.mill.operators
    ∙ ap (λ (v : ℕ). added_output (engine_value (nameless ops)) v past bucket k) h.mill.wide
    ∙ nameless-added ops w past bucket k
    ∙ ap (λ (j : ℕ). added_output (engine_value ops) w past bucket j) number in
    record {
      mill = record { operators = specs ∙ h.mill.operators; wide = width ∙ h.mill.wide; unspent = unspent };
      after =
          subst (λ (j : ℕ). MillAfter n (before ++ all_of (bs ++ bucket ∷ [])) j) (length-more bs bucket first k number)
          (subst (λ (xs : List Tagged). MillAfter n xs (k + 1)) inputs (took past stood));
      output =
          ap (λ (ts : List Tuple). ts ++ out) h.output
          ∙ ap (λ (ts : List Tuple). added_by (engine_value ops) w before bs first ++ ts) output
          ∙ sym (added-more (engine_value ops) w before bs bucket first);
    }
