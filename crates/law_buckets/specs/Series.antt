-- Buckets one after another, as the ports of a node hold them.
use Rattle.std.specs.Prelude.{◌≡◌, ℕ, ◌+◌, ◌*◌, ◌^◌, ◌<◌, ◌≤◌, List, [], ◌++◌, map, Some, All}
use Rattle.dpc_lists.specs.Lists.{range_with_len}
use Rattle.dpc_model.specs.Inlets.{InletState}
use Rattle.dpc_model.specs.Parts.{ArePastBounds, Inputs, frontier_of, AreInOrder}
use Rattle.dpc_model.specs.declared.tuples.Tuple.{Tuple}
use Rattle.dpc_model.specs.declared.tuples.Tagged.{Tagged}
use Rattle.dpc_model.specs.Engines.{AcceptsAll}
use Rattle.sunion.specs.Unions.{complete_upto_in, bucket_in}

-- so many buckets from number k on, as they stand
abbrev pub buckets_from : ℕ → Inputs → ℕ → ℕ → List (List Tagged)
buckets_from width x k count = map (bucket_in width x) (range_with_len k count)

-- so many buckets from the cursor on can be processed stably
pub record AreReady (width : ℕ) (x : Inputs) (count : ℕ) : Type 0 where
  pub ordered : AreInOrder x
  pub past : ArePastBounds x
  pub none_closed : x.closed ≡ []
  pub complete : x.cursor + count ≤ complete_upto_in width x
  pub end : (x.cursor + count) * width < 2 ^ 64

-- so many buckets more can be closed as they stand
pub record CanClose (width : ℕ) (x : Inputs) (count : ℕ) : Type 0 where
  pub ordered : AreInOrder x
  -- those that are closed stand in their places
  pub placed : AcceptsAll (Some width) x.cursor x.closed
  pub end : (frontier_of x + count) * width < 2 ^ 64

-- the inputs with so many buckets closed
abbrev pub after_closing_all : ℕ → ℕ → Inputs → Inputs
after_closing_all width count x = record x { closed = x.closed ++ buckets_from width x (frontier_of x) count }
