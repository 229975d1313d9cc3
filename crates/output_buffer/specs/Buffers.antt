-- The numbered stable output that a sender keeps, for readers that may still ask for it.
use Rattle.std.specs.Prelude.{◌≡◌, ℕ, ◌+◌, ◌-◌, ◌≤◌, List, length, drop, replicate}
use Rattle.dpc_model.specs.Sessions.{Acked, base_after}
use Rattle.dpc_model.specs.Parts.{Outputs}
use Rattle.dpc_model.specs.declared.tuples.Tuple.{Tuple}

-- what contracts see of a buffer: the number of the first tuple that it keeps, the tuples from there on, and by reader what it
-- acknowledged
pub record BufferState : Type 0 where
  pub base : ℕ
  pub kept : List Tuple
  pub acks : List Acked

-- a buffer of so many readers, none of which acknowledged anything
abbrev pub new_buffer : ℕ → ℕ → List Tuple → BufferState
new_buffer readers base kept = record { base = base; kept = kept; acks = replicate readers (0, 0) }

-- how many tuples there were
abbrev pub count_of : BufferState → ℕ
count_of b = b.base + length b.kept

-- the base follows the acknowledgements, and no tuple before it is kept
abbrev pub cut_to_base : BufferState → BufferState
cut_to_base b = let base = base_after b.base b.acks (count_of b) in record b { base = base; kept = drop (base - b.base) b.kept }

-- a buffer stands for a whole stable output where it keeps exactly what is numbered from the base on
pub record StandsForBuffer (stable : List Tuple) (x : Outputs) (b : BufferState) : Type 0 where
  pub base : b.base ≡ x.base
  pub within : x.base ≤ length stable
  pub kept : b.kept ≡ drop x.base stable
  pub acks : b.acks ≡ x.acks
