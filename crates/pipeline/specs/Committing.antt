-- Work that was done apart: when it still fits, and what it takes to put it back.
use Rattle.std.specs.Prelude.{◌≡◌, ℕ, ◌-◌, ◌≤◌, if◌then◌else◌, List, length, Some}
use Rattle.dpc_lists.specs.Lists.{is_nil}
use Rattle.dpc_model.specs.Parts.{Inputs, Outputs}
use Rattle.dpc_model.specs.declared.operators.OpSpec.{OpSpec}
use Rattle.dpc_model.specs.declared.tuples.Tuple.{Tuple}
use Rattle.law_buckets.specs.Series.{AreReady, buckets_from}
use Rattle.fragment_mill.specs.Mills.{MillState, MillAfter, specs_of}
use Rattle.mill_work.specs.Milling.{OrderValue, IsMilled as IsOrderMilled}
use Rattle.sunion.specs.Unions.{complete_upto_in}
use Rattle.pipeline.specs.Flowing.{PipelineValue, IsEngineOf, StandsForData, CanMill}

-- how many buckets may be milled
abbrev pub ready_in : ℕ → Inputs → ℕ
ready_in width x = if is_nil x.closed then complete_upto_in width x - x.cursor else 0

-- all of them can be processed
pub record CanMillReady (ops : List OpSpec) (v : PipelineValue) (x : Inputs) (o : Outputs) : Type 0 where
  pub stands : StandsForData ops v x o
  pub ready : (count : ℕ) → 1 ≤ count → count ≤ ready_in v.union.width x → AreReady v.union.width x count

-- an order's engine is the one at the cursor, and its buckets are the next ready ones
pub record IsAt (ops : List OpSpec) (v : PipelineValue) (x : Inputs) (order : OrderValue MillState) : Type 0 where
  pub engine : IsEngineOf ops v.union.width x order.before
  pub few : length order.buckets ≤ ready_in v.union.width x
  pub buckets : order.buckets ≡ buckets_from v.union.width x x.cursor (length order.buckets)

-- an order that was milled as far as this mill and these tuples
abbrev pub IsDone : OrderValue MillState → MillState → List Tuple → Type 0
IsDone order after outputs =
    IsOrderMilled (λ (m : MillState). m.next) (λ (m : MillState). Some m.width) (λ (m : MillState). m.spent) (λ (m : MillState). specs_of m.stages) MillAfter order after outputs

-- so many ready buckets can be processed, and an order for exactly these was milled from the engine at the cursor
pub record CanPut (ops : List OpSpec) (v : PipelineValue) (x : Inputs) (o : Outputs) (count : ℕ) (after : MillState) (outputs : List Tuple) : Type 0 where
  pub can : CanMill ops v x o count
  pub order : OrderValue MillState
  pub engine : IsEngineOf ops v.union.width x order.before
  pub buckets : order.buckets ≡ buckets_from v.union.width x x.cursor count
  pub milled : IsDone order after outputs
