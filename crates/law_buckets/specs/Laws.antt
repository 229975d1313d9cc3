-- What processing buckets makes of the inputs that were processed, and of the output.
use Rattle.std.specs.Prelude.{◌≡◌, ℕ, ◌+◌, ◌*◌, ◌<◌, Bool, not, ◌&&◌, List, [], ◌++◌, Some, None, if◌then◌else◌, All}
use Rattle.dpc_lists.specs.Lists.{is_nil}
use Rattle.dpc_model.specs.Streams.{IsOrdered}
use Rattle.dpc_model.specs.Operators.{all_of}
use Rattle.dpc_model.specs.Engines.{LiesBelow, engine_value, AcceptsAll}
use Rattle.dpc_model.specs.Fragments.{AreSoundOps, fragment_value}
use Rattle.dpc_model.specs.Parts.{Inputs, frontier_of, processed, processed_and_closed, Stream, stream_by}
use Rattle.dpc_model.specs.declared.tuples.Tagged.{Tagged}
use Rattle.dpc_model.specs.declared.operators.OpSpec.{OpSpec}
use Rattle.checkpoint_redo.specs.Keeping.{added_by}
use Rattle.sunion.specs.Unions.{after_advancing, without_closed}
use Rattle.law_buckets.specs.Series.{buckets_from, AreReady, CanClose, after_closing_all}

-- what was processed lies in order of time, below the next bucket
pub record IsProcessed (width k : ℕ) (xs : List Tagged) : Type 0 where
  pub ordered : IsOrdered (λ (x : Tagged). x.tuple.stime) xs
  pub below : All (LiesBelow (k * width)) xs

-- so do the inputs below the cursor's bucket, and with those of closed buckets that stand in their places
abbrev pub ProcessedInOrder : Type 0
ProcessedInOrder =
    (width : ℕ) (x : Inputs) →
    IsProcessed width x.cursor (processed width x) × (AcceptsAll (Some width) x.cursor x.closed → IsProcessed width (frontier_of x) (processed_and_closed width x))

-- ready buckets are accepted in their turn; with them processed the inputs go on by theirs, and the stable output by what they add
pub record Advances (ops : List OpSpec) (width : ℕ) (passing : Bool) (x : Inputs) (count : ℕ) : Type 0 where
  pub accepted : AcceptsAll (Some width) x.cursor (buckets_from width x x.cursor count)
  pub inputs : processed width (after_advancing count x) ≡ processed width x ++ all_of (buckets_from width x x.cursor count)
  pub stream : AreSoundOps ops → stream_by (fragment_value ops) width passing (after_advancing count x)
      ≡ record {
        stable = fragment_value ops (processed width x) (x.cursor * width) ++ added_by (engine_value ops) width (processed width x) (buckets_from width x x.cursor count) x.cursor;
        bound = (x.cursor + count) * width;
        tentative = [];
        passed = None;
      }

abbrev pub ReadyBucketsAdvance : Type 0
ReadyBucketsAdvance = (ops : List OpSpec) (width : ℕ) (passing : Bool) (x : Inputs) (count : ℕ) → 0 < width → AreReady width x count → Advances ops width passing x count

-- buckets that are closed as they stand are accepted in their turn; the inputs go on by theirs, and the tentative output by what they add
pub record Closes (ops : List OpSpec) (width : ℕ) (passing : Bool) (x : Inputs) (count : ℕ) : Type 0 where
  pub accepted : AcceptsAll (Some width) (frontier_of x) (buckets_from width x (frontier_of x) count)
  pub placed : AcceptsAll (Some width) x.cursor (after_closing_all width count x).closed
  pub inputs : processed_and_closed width (after_closing_all width count x) ≡ processed_and_closed width x ++ all_of (buckets_from width x (frontier_of x) count)
  pub stream : AreSoundOps ops → let s : Stream = stream_by (fragment_value ops) width passing x in
      stream_by (fragment_value ops) width passing (after_closing_all width count x)
      ≡ record s {
        tentative = s.tentative ++ added_by (engine_value ops) width (processed_and_closed width x) (buckets_from width x (frontier_of x) count) (frontier_of x);
        passed = if passing && not (is_nil (after_closing_all width count x).closed) then Some ((frontier_of x + count) * width) else None;
      }

abbrev pub BucketsClose : Type 0
BucketsClose = (ops : List OpSpec) (width : ℕ) (passing : Bool) (x : Inputs) (count : ℕ) → CanClose width x count → Closes ops width passing x count

-- without closed buckets the stable output stays, and there is no other
abbrev pub UndoingKeepsStable : Type 0
UndoingKeepsStable =
    (ops : List OpSpec) (width : ℕ) (passing : Bool) (x : Inputs) → let s : Stream = stream_by (fragment_value ops) width passing x in
    stream_by (fragment_value ops) width passing (without_closed x) ≡ record s { tentative = []; passed = None }
