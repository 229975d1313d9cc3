-- The bytes of a snapshot.
use Rattle.std.specs.Prelude.{ℕ, ℤ, List, [], ◌∷◌, ◌++◌, flat_map, length}
use Rattle.std.specs.Int.{w64, w128, cast_unsigned}
use Rattle.byteorder.specs.Endian.{big_bytes}
use Rattle.dpc_model.specs.declared.tuples.Tuple.{Tuple}
use Rattle.node_model.specs.Stands.{SnapValue}
use Rattle.stream_codec.specs.Frames.{tuple_bytes}
use Rattle.ops_window.specs.declared.saved.Cell.{Cell}
use Rattle.fragment_mill.specs.Mills.{MillState}
use Rattle.fragment_mill.specs.States.{parts_of}
use Rattle.fragment_mill.specs.declared.states.OperatorParts.{OperatorParts}
use Rattle.fragment_mill.specs.declared.states.OperatorParts.TheVariants.{Plain, Join, Aggregate}

-- the frames of tuples, one behind another
abbrev pub tuples_bytes : List Tuple → List ℕ
tuples_bytes ts = flat_map tuple_bytes ts

-- their count in four bytes, and their frames
abbrev pub list_bytes : List Tuple → List ℕ
list_bytes ts = big_bytes 4 (length ts) ++ tuples_bytes ts

-- sixteen bytes, two's complement
abbrev pub total_bytes : ℤ → List ℕ
total_bytes z = big_bytes 16 (cast_unsigned w128 z)

-- begin, group, and the totals
abbrev pub cell_bytes : Cell → List ℕ
cell_bytes c = big_bytes 8 c.begin ++ big_bytes 8 (cast_unsigned w64 c.group) ++ flat_map total_bytes c.totals

-- what an operator keeps, behind a byte for its form
abbrev pub part_bytes : OperatorParts → List ℕ
part_bytes Plain = 0 ∷ []
part_bytes (Join left right) = 1 ∷ list_bytes left ++ list_bytes right
part_bytes (Aggregate cells) = 2 ∷ big_bytes 4 (length cells) ++ flat_map cell_bytes cells

-- what each operator keeps
abbrev pub parts_bytes : List OperatorParts → List ℕ
parts_bytes ps = flat_map part_bytes ps

-- the cursor, the count of ports in four bytes and each port's count of tuples, and the number of the first tuple that is kept
abbrev pub head_bytes : SnapValue MillState → List ℕ
head_bytes s = big_bytes 8 s.cursor ++ big_bytes 4 (length s.counts) ++ flat_map (big_bytes 8) s.counts ++ big_bytes 8 s.base

-- a snapshot: its head, the tuples that it keeps, and what each operator does
unfoldable pub snapshot_bytes : SnapValue MillState → List ℕ
snapshot_bytes s = head_bytes s ++ list_bytes s.kept ++ parts_bytes (parts_of s.mill).operators
