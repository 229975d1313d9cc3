-- A snapshot of code, and the output that a plain one's inputs make.
use Rattle.std.specs.Prelude.{ℕ, ◌*◌, List}
use Rattle.dpc_model.specs.Fragments.{serial, fragment_value}
use Rattle.dpc_model.specs.declared.tuples.Tuple.{Tuple}
use Rattle.node_model.specs.Mails.{Snap}
use Rattle.node_model.specs.Nodes.{Home, spec_of}

-- what contracts see of a snapshot: its cursor, the number of tuples below it by port, the engine, and the output kept from base on
pub record SnapValue (M : Type 0) : Type 0 where
  pub cursor : ℕ
  pub counts : List ℕ
  pub mill : M
  pub base : ℕ
  pub kept : List Tuple

-- the output that a snapshot's inputs make
abbrev pub snap_output : Home → Snap → List Tuple
snap_output home s = fragment_value (spec_of home).ops (serial s.inputs) (s.cursor * home.plan.width)
