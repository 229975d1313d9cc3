-- Numbers in the ranges of their types: what code knows of each snapshot.
use Rattle.std.specs.Prelude.{⊤, ◌≡◌, ◌<◌, ◌+◌, ◌^◌, Bool, true, All, length}
use Rattle.dpc_lists.specs.Lists.{list_all}
use Rattle.dpc_model.specs.declared.tuples.Tuple.{Tuple}
use Rattle.node_model.specs.Stands.{SnapValue}
use Rattle.stream_codec.specs.Frames.{is_i64}
use Rattle.fragment_mill.specs.Mills.{MillState}
use Rattle.fragment_mill.specs.Milling.{IsReady}
use Rattle.fragment_mill.specs.States.{parts_of}
use Rattle.fragment_mill.specs.declared.states.OperatorParts.{OperatorParts}
use Rattle.fragment_mill.specs.declared.states.OperatorParts.TheVariants.{Plain, Join, Aggregate}
use Rattle.snapshot_form.specs.Savable.{IsCell}

-- each value is a number of i64
abbrev pub has_values : Tuple → Bool
has_values t = list_all is_i64 t.vals

abbrev pub HasNumbers : OperatorParts → Type 0
HasNumbers Plain = ⊤
HasNumbers (Join left right) = (list_all has_values left ≡ true) × (list_all has_values right ≡ true)
HasNumbers (Aggregate cells) = All IsCell cells

pub record IsTyped (v : SnapValue MillState) : Type 0 where
  pub ready : IsReady v.mill
  pub cursor : v.cursor < 2 ^ 64
  pub counts : All (λ n. n < 2 ^ 64) v.counts
  pub numbers : v.base + length v.kept < 2 ^ 64
  pub kept : list_all has_values v.kept ≡ true
  pub operators : All HasNumbers (parts_of v.mill).operators
