-- What is true of every mill.
use Rattle.std.specs.Prelude.{◌≡◌, ℕ, ◌+◌, ◌*◌, ◌<◌, ◌≤◌, false, unwrap_or, List, length, All}
use Rattle.dpc_model.specs.Streams.{AllInOrder}
use Rattle.dpc_model.specs.Engines.{engine_value, added_output}
use Rattle.dpc_model.specs.Fragments.{serial, IsSoundKind}
use Rattle.dpc_model.specs.Operators.{output_of}
use Rattle.dpc_model.specs.declared.tuples.Tuple.{Tuple}
use Rattle.dpc_model.specs.declared.tuples.Tagged.{Tagged}
use Rattle.dpc_model.specs.declared.operators.OpKind.{OpKind}
use Rattle.dpc_model.specs.declared.operators.OpKind.TheVariants.{Filter, Map, Union, Join, Aggregate}
use Rattle.fragment_mill.specs.declared.operator.Operator.{Operator}
use Rattle.fragment_mill.specs.declared.mill.Stage.{Stage}
use Rattle.fragment_mill.specs.Mills.{kind_of, operators_of, port_count, width_of, next_of, spent_of, MillState, MillAfter}

-- an operator of n inputs makes of them, in serial order, what its kind does
abbrev pub MakesOutput : ℕ → Operator → Type 0
MakesOutput n o = (ins : List (List Tuple)) (b : ℕ) → length ins ≡ n → AllInOrder ins → engine_value (operators_of o) (serial ins) b ≡ output_of (kind_of o) ins b

-- what an operator answers to a bucket, where it took the inputs before it
abbrev pub added_of : Operator → List Tagged → List Tagged → ℕ → List Tuple
added_of o before bucket k = added_output (engine_value (operators_of o)) (unwrap_or (width_of o) 0) before bucket k

-- the ports of an operator whose stage reads n inputs: all of them by a union, else as many as its kind has
abbrev pub ports_for : OpKind → ℕ → ℕ
ports_for (Filter e) n = 1
ports_for (Map es) n = 1
ports_for Union n = n
ports_for (Join within keys) n = 2
ports_for (Aggregate size step group aggs) n = 1

-- a tuple lies in bucket k
abbrev pub IsOfBucket : ℕ → ℕ → Tuple → Type 0
IsOfBucket w k t = (k * w ≤ t.stime) × (t.stime < (k + 1) * w)

-- each tuple of these outputs does
abbrev pub AreOfBucket : ℕ → ℕ → List (List Tuple) → Type 0
AreOfBucket w k outputs = All (λ (ts : List Tuple). All (IsOfBucket w k) ts) outputs

-- a stage has the mill's width, and a sound operator for as many inputs as it reads
pub record IsFit (w : ℕ) (s : Stage) : Type 0 where
  -- where its operator's buckets have a width, it is the mill's
  pub width : unwrap_or (width_of s.operator) w ≡ w
  -- its operator has the ports that its kind has over what it reads
  pub ports : port_count s.operator ≡ ports_for (kind_of s.operator) (length s.reads)
  pub sound : IsSoundKind (kind_of s.operator)
  pub makes : MakesOutput (length s.reads) s.operator

-- what is true of every mill: its stages fit, and unless it wanted memory none of them did, and each waits for the
-- mill's next bucket
pub record IsReady (m : MillState) : Type 0 where
  pub fits : All (IsFit m.width) m.stages
  pub idle : m.spent ≡ false → All (λ (s : Stage). spent_of s.operator ≡ false) m.stages
  pub waits : m.spent ≡ false → All (λ (s : Stage). next_of s.operator ≡ m.next) m.stages

-- its stages fit, and unless it wanted memory it took some inputs
pub record IsMill (m : MillState) : Type 0 where
  pub fits : All (IsFit m.width) m.stages
  -- no stage of an unspent mill is spent
  pub idle : m.spent ≡ false → All (λ (s : Stage). spent_of s.operator ≡ false) m.stages
  -- it took some inputs, those below its next bucket: so each stage's next bucket is the mill's
  pub took : m.spent ≡ false → (before : List Tagged) × MillAfter m before m.next
