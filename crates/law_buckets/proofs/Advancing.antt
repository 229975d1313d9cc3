-- Ready buckets are processed stably, and a stream with no bucket closed has its stable output alone.
use Rattle.std.proofs.Common.{◌≡◌, ℕ, ◌+◌, ◌*◌, ◌<◌, Bool, true, false, not, ◌&&◌, cond, List, [], ◌++◌, length, drop, refl, sym, ◌∙◌, ap, arith, Some, None, append-nil}
use Rattle.std.proofs.Math.Seq.{drop-length}
use Rattle.dpc_lists.specs.Lists.{is_nil}
use Rattle.dpc_model.specs.Operators.{all_of}
use Rattle.dpc_model.specs.Engines.{engine_value, AcceptsAll}
use Rattle.dpc_model.specs.Fragments.{AreSoundOps, fragment_value}
use Rattle.dpc_model.specs.Parts.{Inputs, stream_by, processed, processed_and_closed, frontier_of}
use Rattle.dpc_model.specs.declared.tuples.Tuple.{Tuple}
use Rattle.dpc_model.specs.declared.tuples.Tagged.{Tagged}
use Rattle.dpc_model.specs.declared.operators.OpSpec.{OpSpec}
use Rattle.checkpoint_redo.specs.Keeping.{added_by}
use Rattle.checkpoint_redo.proofs.Adding.{buckets-add}
use Rattle.sunion.specs.Unions.{after_advancing, without_closed}
use Rattle.law_buckets.specs.Series.{buckets_from, AreReady}
use Rattle.law_buckets.specs.Laws.{IsProcessed, ReadyBucketsAdvance, UndoingKeepsStable}
use Rattle.law_buckets.proofs.Accepted.{buckets-accepted, count-buckets}
use Rattle.law_buckets.proofs.Complete.{processed-cut, complete-next}
use Rattle.law_buckets.proofs.Ordered.{processed-ordered}

pub inputs-advance : (w : ℕ) (x : Inputs) (count : ℕ) → 0 < w → AreReady w x count → processed w (after_advancing count x) ≡ processed w x ++ all_of (buckets_from w x x.cursor count)
inputs-advance w x count pos h =
    processed-cut w (after_advancing count x)
    ∙ sym (complete-next w x x.cursor count pos h.past h.complete)
    ∙ ap (λ (xs : List Tagged). xs ++ all_of (buckets_from w x x.cursor count)) (sym (processed-cut w x))

-- the output of inputs with more buckets
pub value-more : (ops : List OpSpec) (w k : ℕ) (xs : List Tagged) (bs : List (List Tagged)) (count : ℕ) → AreSoundOps ops → IsProcessed w k xs → AcceptsAll (Some w) k bs → length bs ≡ count →
    fragment_value ops (xs ++ all_of bs) ((k + count) * w) ≡ fragment_value ops xs (k * w) ++ added_by (engine_value ops) w xs bs k
value-more ops w k xs bs count sound h a many =
    ap (λ (n : ℕ). fragment_value ops (xs ++ all_of bs) ((k + n) * w)) (sym many) ∙ buckets-add ops w k xs bs sound h.ordered h.below a

-- a stream with no bucket closed
pub open-stream : (ops : List OpSpec) (w : ℕ) (passing : Bool) (x : Inputs) (ts : List Tuple) → x.closed ≡ [] → fragment_value ops (processed w x) (x.cursor * w) ≡ ts →
    stream_by (fragment_value ops) w passing x ≡ record { stable = ts; bound = x.cursor * w; tentative = []; passed = None }
open-stream ops w passing x ts none same =
    let zero : x.cursor + 0 ≡ x.cursor = omega arith in
    let value = fragment_value ops in
    let whole : value (processed_and_closed w x) (frontier_of x * w) ≡ ts = rw (none, zero, append-nil (processed w x)) same in
    let nothing : drop (length (value (processed w x) (x.cursor * w))) (value (processed_and_closed w x) (frontier_of x * w)) ≡ [] =
    rw (same, whole) (drop-length ts) in
    let untold : cond (passing && not (is_nil x.closed)) (Some (frontier_of x * w)) None ≡ None = rw none (by-passing passing) in
    rw (nothing, same, untold) refl
  where
    by-passing : (b : Bool) → cond (b && false) (Some ((x.cursor + 0) * w)) None ≡ None
    by-passing true = refl
    by-passing false = refl

pub undoing-keeps-stable : UndoingKeepsStable
undoing-keeps-stable ops w passing x = open-stream ops w passing (without_closed x) (fragment_value ops (processed w x) (x.cursor * w)) refl refl

pub ready-buckets-advance : ReadyBucketsAdvance
ready-buckets-advance ops w passing x count pos h =
    let more = buckets_from w x x.cursor count in
    let accepted = buckets-accepted w x x.cursor count h.end in
    let inputs = inputs-advance w x count pos h in
    record {
      accepted = accepted;
      inputs = inputs;
      stream = λ sound.
          let value : fragment_value ops (processed w (after_advancing count x)) ((x.cursor + count) * w)
          ≡ fragment_value ops (processed w x) (x.cursor * w) ++ added_by (engine_value ops) w (processed w x) more x.cursor =
          ap (λ (xs : List Tagged). fragment_value ops xs ((x.cursor + count) * w)) inputs
          ∙ value-more ops w x.cursor (processed w x) more count sound (processed-ordered w x) accepted (count-buckets w x x.cursor count) in
          open-stream ops w passing (after_advancing count x) _ h.none_closed value;
    }
