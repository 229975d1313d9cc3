-- Work that is taken out of a node: when it can be done, and what comes of it.
use Rattle.std.specs.Prelude.{◌≡◌, ℕ, ◌+◌, ◌^◌, ◌<◌, ◌≤◌, Bool, false, List, ◌++◌, length, Option, unwrap_or}
use Rattle.dpc_model.specs.Limits.{most_milled}
use Rattle.dpc_model.specs.Operators.{all_of}
use Rattle.dpc_model.specs.Engines.{engine_value, AcceptsAll}
use Rattle.dpc_model.specs.declared.operators.OpSpec.{OpSpec}
use Rattle.dpc_model.specs.declared.tuples.Tuple.{Tuple}
use Rattle.dpc_model.specs.declared.tuples.Tagged.{Tagged}
use Rattle.checkpoint_redo.specs.Keeping.{added_by}

-- the node and its incarnation, the bucket where it begins, the engine before it, and the buckets
pub record OrderValue (M : Type 0) : Type 0 where
  pub node : ℕ
  pub inc : ℕ
  pub cursor : ℕ
  pub before : M
  pub buckets : List (List Tagged)

-- an order can be milled: the engine stands at its first bucket and isn't spent, there are one to sixteen, and each is accepted in its turn
pub record IsOrder {M : Type 0} (next : M → ℕ) (width : M → Option ℕ) (spent : M → Bool) (o : OrderValue M) : Type 0 where
  pub begins : o.cursor ≡ next o.before
  pub fresh : spent o.before ≡ false
  pub some : 1 ≤ length o.buckets
  pub few : length o.buckets ≤ most_milled
  pub range : o.cursor + length o.buckets < 2 ^ 64
  pub accepts : AcceptsAll (width o.before) o.cursor o.buckets

-- the engine behind the buckets of an order, and what they added to its output
pub record IsMilled {M : Type 0} (next : M → ℕ) (width : M → Option ℕ) (spent : M → Bool) (operators : M → List OpSpec) (after : M → List Tagged → ℕ → Type 0)
    (o : OrderValue M) (m : M) (out : List Tuple) : Type 0 where
  pub order : IsOrder next width spent o
  pub took : (inputs : List Tagged) → after o.before inputs o.cursor → after m (inputs ++ all_of o.buckets) (o.cursor + length o.buckets)
  pub outputs : (inputs : List Tagged) → after o.before inputs o.cursor → out ≡ added_by (engine_value (operators o.before)) (unwrap_or (width o.before) 0) inputs o.buckets o.cursor
  pub ends : next m ≡ o.cursor + length o.buckets
  pub unspent : spent m ≡ false
  pub made_of : operators m ≡ operators o.before
  pub wide : width m ≡ width o.before

-- what contracts see of a milled order
pub record MilledValue (M : Type 0) : Type 0 where
  pub order : OrderValue M
  pub after : M
  pub outputs : List Tuple
