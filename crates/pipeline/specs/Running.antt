-- The inputs and the operators of a node while buckets are processed, before the output is given.
use Rattle.std.specs.Prelude.{◌≡◌, ℕ, ◌+◌, ◌*◌, ◌^◌, ◌<◌, false, List, ◌++◌, length, IfSome}
use Rattle.dpc_model.specs.Operators.{all_of}
use Rattle.dpc_model.specs.Engines.{engine_value}
use Rattle.dpc_model.specs.Fragments.{AreSoundOps}
use Rattle.dpc_model.specs.Parts.{Inputs, frontier_of, processed, processed_and_closed}
use Rattle.dpc_model.specs.PartStands.{StandsForPorts, StandsForKeeper}
use Rattle.dpc_model.specs.declared.operators.OpSpec.{OpSpec}
use Rattle.dpc_model.specs.declared.tuples.Tuple.{Tuple}
use Rattle.dpc_model.specs.declared.tuples.Tagged.{Tagged}
use Rattle.checkpoint_redo.specs.Keeping.{KeptValue, added_by}
use Rattle.fragment_mill.specs.Mills.{MillState, MillAfter}
use Rattle.sunion.specs.Values.{SUnionValue}
use Rattle.sunion.specs.Unions.{after_advancing}
use Rattle.law_buckets.specs.Series.{buckets_from, AreReady, after_closing_all}
use Rattle.pipeline.specs.Flowing.{IsMillOf}

-- the inputs and the operators stand for these inputs
pub record StandsForWork (ops : List OpSpec) (u : SUnionValue) (k : KeptValue MillState) (x : Inputs) : Type 0 where
  pub sound : AreSoundOps ops
  pub some : 0 < u.width
  pub ports : StandsForPorts u.width u.union x
  pub state : IsMillOf ops u.width k.keeper.state
  pub held : IfSome k.keeper.held (IsMillOf ops u.width)
  pub keeper : StandsForKeeper MillAfter u.width false k.keeper x

-- behind these inputs a mill took these buckets, from a number on, and they added these tuples
pub record HasRun (ops : List OpSpec) (width : ℕ) (m : MillState) (before : List Tagged) (buckets : List (List Tagged)) (first : ℕ) (added : List Tuple) : Type 0 where
  pub mill : IsMillOf ops width m
  pub after : MillAfter m (before ++ all_of buckets) (first + length buckets)
  pub output : added ≡ added_by (engine_value ops) width before buckets first

-- so many buckets can be processed stably, and their end is in range where there is none
pub record CanAdvance (width : ℕ) (x : Inputs) (count : ℕ) : Type 0 where
  pub ready : 0 < count → AreReady width x count
  pub end : (x.cursor + count) * width < 2 ^ 64

-- they were processed stably, and added these tuples
pub record HasAdvanced (ops : List OpSpec) (u : SUnionValue) (k : KeptValue MillState) (width : ℕ) (x : Inputs) (count : ℕ) (added : List Tuple) : Type 0 where
  pub stands : StandsForWork ops u k (after_advancing count x)
  pub output : added ≡ added_by (engine_value ops) width (processed width x) (buckets_from width x x.cursor count) x.cursor

-- so many buckets were closed, and added these tuples
pub record HasClosed (ops : List OpSpec) (u : SUnionValue) (k : KeptValue MillState) (width : ℕ) (x : Inputs) (count : ℕ) (added : List Tuple) : Type 0 where
  pub stands : StandsForWork ops u k (after_closing_all width count x)
  pub output : added ≡ added_by (engine_value ops) width (processed_and_closed width x) (buckets_from width x (frontier_of x) count) (frontier_of x)
