-- The snapshots whose bytes are read back.
use Rattle.std.specs.Prelude.{⊤, ◌≡◌, ◌<◌, ◌+◌, ◌^◌, ℕ, true, All, length, FitsSigned}
use Rattle.std.specs.Int.{w64, w128}
use Rattle.dpc_model.specs.declared.tuples.Item.TheVariants as item
use Rattle.dpc_model.specs.declared.tuples.Tuple.{Tuple}
use Rattle.dpc_model.specs.declared.plans.Plan.{Plan}
use Rattle.node_model.specs.Stands.{SnapValue}
use Rattle.stream_codec.specs.Frames.{is_in_range}
use Rattle.stream_codec.specs.declared.frames.Frame.TheVariants as frame
use Rattle.ops_window.specs.declared.saved.Cell.{Cell}
use Rattle.fragment_mill.specs.Mills.{MillState}
use Rattle.fragment_mill.specs.States.{parts_of, ComesBack}
use Rattle.fragment_mill.specs.declared.states.OperatorParts.{OperatorParts}
use Rattle.fragment_mill.specs.declared.states.OperatorParts.TheVariants.{Plain, Join, Aggregate}
use Rattle.snapshot_form.specs.Bytes.{snapshot_bytes}
use Rattle.snapshot_form.specs.Reading.{port_count_at}

-- a tuple that a frame can tell: its time is below 2^62, and it has 1 to 8 columns, each a number of i64
abbrev pub CanBeTold : Tuple → Type 0
CanBeTold t = is_in_range (frame.Item (item.Tentative t)) ≡ true

-- a cell of numbers of their widths: the begin of u64, the group of i64, totals of i128
pub record IsCell (c : Cell) : Type 0 where
  pub begin : c.begin < 2 ^ 64
  pub group : FitsSigned w64 c.group
  pub totals : All (FitsSigned w128) c.totals

abbrev pub CanBeKept : OperatorParts → Type 0
CanBeKept Plain = ⊤
CanBeKept (Join left right) = All CanBeTold left × All CanBeTold right
CanBeKept (Aggregate cells) = All IsCell cells

-- a snapshot of a plan's fragment, with numbers of their widths, tuples that frames can tell, and lists whose counts four bytes can tell
pub record IsSavable (plan : Plan) (frag : ℕ) (s : SnapValue MillState) : Type 0 where
  -- its engine is that of the fragment, and comes back from its state
  pub back : ComesBack plan frag s.mill (parts_of s.mill)
  -- it stands at the cursor
  pub next : s.mill.next ≡ s.cursor
  pub ports : length s.counts ≡ port_count_at plan frag
  pub cursor : s.cursor < 2 ^ 64
  pub counts : All (λ n. n < 2 ^ 64) s.counts
  pub numbers : s.base + length s.kept < 2 ^ 64
  pub kept : All CanBeTold s.kept
  pub operators : All CanBeKept (parts_of s.mill).operators
  pub short : length (snapshot_bytes s) < 2 ^ 32
