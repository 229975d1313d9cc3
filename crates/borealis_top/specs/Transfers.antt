-- How much a source gave in a transfer that did not end.
use Rattle.std.specs.Prelude.{ℕ, ◌≤◌, List, length}
use Rattle.std.specs.Io.KnownBytes.{Consumes}
use Rattle.dpc_edge.specs.Edges.{Edge}

-- a source gave at most so many bytes
pub record GaveAtMost (most : ℕ) (old new : Edge) : Type 0 where
  pub text : List ℕ
  pub bytes : Consumes old.bytes new.bytes text
  pub few : length text ≤ most
