-- What a verdict says of a recorded stream.
use Rattle.std.specs.Prelude.{◌≡◌, ◌≢◌, ◌⊎◌, ◌<◌, ◌≤◌, ℕ, List, ◌∷◌, ◌++◌, length, take, Some, slice_get}
use Rattle.dpc_model.specs.Fragments.{ideal}
use Rattle.dpc_model.specs.Reading.{Reader, empty_reader, is_settled, Folded, fold_items, NoReading, reading}
use Rattle.dpc_model.specs.Streams.{cut}
use Rattle.dpc_model.specs.declared.plans.Plan.{Plan}
use Rattle.dpc_model.specs.declared.plans.StreamRef.{StreamRef}
use Rattle.dpc_model.specs.declared.tuples.Item.{Item}
use Rattle.dpc_model.specs.declared.tuples.Tuple.{Tuple}
use Rattle.audit_core.specs.declared.verdict.Verdict.{Verdict}
use Rattle.audit_core.specs.declared.verdict.Verdict.TheVariants.{Whole, Prefix, Difference}
use Rattle.std.specs.Prelude.{true, false}

-- of what a reader holds, beside the failure-free stream: it is that stream, with nothing tentative; or a beginning of it that lacks
-- no tuple below the bound; or the two have the same tuples below a number, and others there, where one of them may have ended: the
-- recorded stream only where it lacks a tuple below its bound
abbrev pub SaysOf : ℕ → List Tuple → Reader → Verdict → Type 0
SaysOf end ts r Whole = (r.stable ≡ ts) × (is_settled end r ≡ true)
SaysOf end ts r (Prefix n b) =
    (n ≡ length r.stable) × (b ≡ r.bound) × (r.stable ≡ take n ts) × (length (cut ts b) ≤ n) × (is_settled end r ≡ false)
SaysOf end ts r (Difference n had t) =
    (had ≡ slice_get r.stable n) × (t ≡ slice_get ts n) × (had ≢ t) × (take n r.stable ≡ take n ts)
    × ((n < length r.stable) ⊎ ((n ≡ length r.stable) × (n < length (cut ts r.bound))))

-- each item has a reading, and so it is of what they leave
abbrev pub Says : Plan → StreamRef → List Item → Verdict → Type 0
Says plan stream items v = (f : Folded) × (fold_items empty_reader items ≡ Some f) × SaysOf plan.end (ideal plan stream) f.after v

-- the first n items have a reading, and the next one has none behind them
pub record IsFirstWithout (items : List Item) (n : ℕ) : Type 0 where
  pub before : List Item
  pub item : Item
  pub behind : List Item
  pub split : items ≡ before ++ item ∷ behind
  pub long : length before ≡ n
  pub read : Folded
  pub has : fold_items empty_reader before ≡ Some read
  pub lacks : reading read.after item ≡ NoReading
