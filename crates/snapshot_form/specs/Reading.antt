-- The snapshot that stands in bytes.
use Rattle.std.specs.Prelude.{ℕ, zero, suc, ◌+◌, ◌^◌, ◌==◌, nat_lt, ◌&&◌, Bool, ℤ, if◌then◌else◌, List, [], ◌∷◌, length, drop, Option, Some, None, unwrap_or, slice_get, is_none}
use Rattle.std.specs.Option.{option_map}
use Rattle.std.specs.Int.{w64, w128, cast_signed}
use Rattle.byteorder.specs.Endian.{big_number}
use Rattle.dpc_model.specs.declared.tuples.Item.TheVariants as item
use Rattle.dpc_model.specs.declared.tuples.Tuple.{Tuple}
use Rattle.dpc_model.specs.declared.operators.OpSpec.{OpSpec}
use Rattle.dpc_model.specs.declared.operators.OpKind.{OpKind}
use Rattle.dpc_model.specs.declared.operators.OpKind.TheVariants as kind
use Rattle.dpc_model.specs.declared.plans.FragSpec.{FragSpec}
use Rattle.dpc_model.specs.declared.plans.Plan.{Plan}
use Rattle.node_model.specs.Stands.{SnapValue}
use Rattle.stream_codec.specs.declared.frames.Frame.{Frame}
use Rattle.stream_codec.specs.declared.frames.Frame.TheVariants as frame
use Rattle.frame_lists.specs.Lists.{part_at}
use Rattle.ops_window.specs.declared.saved.Cell.{Cell}
use Rattle.fragment_mill.specs.Mills.{MillState}
use Rattle.fragment_mill.specs.States.{ops_at, state_fault, mill_of}
use Rattle.fragment_mill.specs.declared.states.MillParts.{MillParts}
use Rattle.fragment_mill.specs.declared.states.OperatorParts.{OperatorParts}
use Rattle.fragment_mill.specs.declared.states.OperatorParts.TheVariants.{Plain, Join, Aggregate}

-- ---- what stands in front of bytes, and the bytes behind it

-- and then
abbrev pub followed_by : {A B : Type 0} → Option (A × List ℕ) → (A → List ℕ → Option (B × List ℕ)) → Option (B × List ℕ)
followed_by None next = None
followed_by (Some x) next = next x.0 x.1

-- a number of so many bytes, the highest first
abbrev pub number_at : ℕ → List ℕ → Option (ℕ × List ℕ)
number_at n bs = if nat_lt (length bs) n then None else Some (big_number n bs, drop n bs)

module _ {T : Type 0} (at : List ℕ → Option (T × List ℕ)) where
  -- so many, one behind another
  abbrev pub many_at : ℕ → List ℕ → Option (List T × List ℕ)
  many_at zero bs = Some ([], bs)
  many_at (suc n) bs = followed_by (at bs) (λ t more. followed_by (many_at n more) (λ ts rest. Some (t ∷ ts, rest)))

  -- as many as a count of four bytes says
  abbrev pub counted_at : List ℕ → Option (List T × List ℕ)
  counted_at bs = followed_by (number_at 4 bs) many_at

abbrev pub tuple_in : Frame → Option Tuple
tuple_in (frame.Item (item.Tentative t)) = Some t
tuple_in (frame.Item i) = None
tuple_in (frame.Head c) = None
tuple_in (frame.Tail stable bound tentative) = None
tuple_in (frame.Entry e) = None

-- the frame of a tuple alone
abbrev pub tuple_at : List ℕ → Option (Tuple × List ℕ)
tuple_at bs = elim (part_at tuple_in bs) [ None ↦ None | Some x ↦ Some (x.0, drop x.1 bs) ]

abbrev pub tuples_at : List ℕ → Option (List Tuple × List ℕ)
tuples_at bs = counted_at tuple_at bs

abbrev pub total_at : List ℕ → Option (ℤ × List ℕ)
total_at bs = followed_by (number_at 16 bs) (λ n rest. Some (cast_signed w128 n, rest))

-- a cell with so many totals
abbrev pub cell_at : ℕ → List ℕ → Option (Cell × List ℕ)
cell_at totals bs =
    followed_by (number_at 8 bs) (λ begin a.
    followed_by (number_at 8 a) (λ group b.
    followed_by (many_at total_at totals b) (λ zs rest.
    Some (record { begin = begin; group = cast_signed w64 group; totals = zs }, rest))))

-- ---- what the operators keep

-- how many totals a cell has
abbrev pub total_count : OpKind → ℕ
total_count (kind.Filter e) = 0
total_count (kind.Map es) = 0
total_count kind.Union = 0
total_count (kind.Join within keys) = 0
total_count (kind.Aggregate size step group aggs) = length aggs

-- what follows the byte of a form, where an operator's cells have so many totals
abbrev pub form_at : ℕ → ℕ → List ℕ → Option (OperatorParts × List ℕ)
form_at totals byte bs =
    if byte == 0 then Some (Plain, bs)
    else if byte == 1 then followed_by (tuples_at bs) (λ left more. followed_by (tuples_at more) (λ right rest. Some (Join left right, rest)))
    else if byte == 2 then followed_by (counted_at (cell_at totals) bs) (λ cells rest. Some (Aggregate cells, rest))
    else None

abbrev pub operator_at : OpKind → List ℕ → Option (OperatorParts × List ℕ)
operator_at k bs = followed_by (number_at 1 bs) (form_at (total_count k))

abbrev pub operators_at : List OpSpec → List ℕ → Option (List OperatorParts × List ℕ)
operators_at [] bs = Some ([], bs)
operators_at (op ∷ ops) bs = followed_by (operator_at op.kind bs) (λ p more. followed_by (operators_at ops more) (λ ps rest. Some (p ∷ ps, rest)))

-- ---- a snapshot

-- one whose engine is still plain data
pub record PlainSnapshot : Type 0 where
  pub cursor : ℕ
  pub counts : List ℕ
  pub base : ℕ
  pub kept : List Tuple
  pub operators : List OperatorParts

abbrev pub plain_at : List OpSpec → List ℕ → Option (PlainSnapshot × List ℕ)
plain_at ops bs =
    followed_by (number_at 8 bs) (λ cursor a.
    followed_by (counted_at (number_at 8) a) (λ counts b.
    followed_by (number_at 8 b) (λ base c.
    followed_by (tuples_at c) (λ kept d.
    followed_by (operators_at ops d) (λ operators rest.
    Some (record { cursor = cursor; counts = counts; base = base; kept = kept; operators = operators }, rest))))))

-- the engine's next bucket is the cursor
abbrev pub parts_in : PlainSnapshot → MillParts
parts_in p = record { next = p.cursor; operators = p.operators }

-- how many ports a fragment of a plan has
abbrev pub port_count_at : Plan → ℕ → ℕ
port_count_at plan frag = unwrap_or (option_map (λ (f : FragSpec). length f.inputs) (slice_get plan.frags frag)) 0

-- whether it can be one of a plan's fragment: a count for each port, numbers of tuples below 2^64, and a state that the operators can have
abbrev pub is_of : Plan → ℕ → PlainSnapshot → Bool
is_of plan frag p = length p.counts == port_count_at plan frag && nat_lt (p.base + length p.kept) (2 ^ 64) && is_none (state_fault plan frag (parts_in p))

abbrev pub made_of : Plan → ℕ → PlainSnapshot → SnapValue MillState
made_of plan frag p = record {
  cursor = p.cursor;
  counts = p.counts;
  mill = mill_of plan.width (ops_at plan frag) (parts_in p);
  base = p.base;
  kept = p.kept;
}

-- of a plan's fragment, where no byte is left over
abbrev pub whole_snapshot : Plan → ℕ → Option (PlainSnapshot × List ℕ) → Option (SnapValue MillState)
whole_snapshot plan frag None = None
whole_snapshot plan frag (Some (p, b ∷ bs)) = None
whole_snapshot plan frag (Some (p, [])) = if is_of plan frag p then Some (made_of plan frag p) else None

-- the snapshot of a plan's fragment that bytes are
unfoldable pub snapshot_in : Plan → ℕ → List ℕ → Option (SnapValue MillState)
snapshot_in plan frag bytes = whole_snapshot plan frag (plain_at (ops_at plan frag) bytes)
