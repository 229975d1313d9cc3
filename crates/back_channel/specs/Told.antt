-- What is told of two readers, beside what one reader holds.
use Rattle.std.specs.Prelude.{⊤, ◌≡◌, ◌⊎◌, ◌≤◌, max, List, length, take, Some, slice_get, All, Contains}
use Rattle.dpc_model.specs.Reading.{Reader}
use Rattle.dpc_model.specs.Streams.{cut}
use Rattle.dpc_model.specs.declared.tuples.Item.{Item}
use Rattle.dpc_model.specs.declared.tuples.Item.TheVariants.{Stable, Tentative, Passed, Boundary, Undo, RecDone}
use Rattle.dpc_model.specs.declared.tuples.Tuple.{Tuple}
use Rattle.back_channel.specs.Merging.{Merged, Leaves, longer}

-- a reader that holds just the merge
abbrev pub reader_of : Merged → Reader
reader_of m = record { stable = m.stable; bound = m.bound; tentative = m.tentative; passed = 0 }

-- a reader goes on by some items
abbrev pub Goes : Reader → Reader → Type 0
Goes x x' = (items : List Item) × Leaves x items x'

-- a merge goes on from another one: stable tuples stay, the bound does not fall, and tentative tuples are not below it
pub record IsLater (old new : Merged) : Type 0 where
  pub stays : old.stable ≡ take (length old.stable) new.stable
  pub bound : old.bound ≤ new.bound
  pub tentative : All (λ (t : Tuple). new.bound ≤ t.stime) new.tentative

-- the tuple of an item is one that a reader of the two holds: a stable one at its number, a tentative one among the tentative ones; a boundary
-- is the greater bound, with the number of stable tuples below it
abbrev pub IsOfOne : Reader → Reader → Item → Type 0
IsOfOne x y (Stable k t) = (slice_get x.stable k ≡ Some t) ⊎ (slice_get y.stable k ≡ Some t)
IsOfOne x y (Tentative t) = Contains x.tentative t ⊎ Contains y.tentative t
IsOfOne x y (Passed b) = ⊤
IsOfOne x y (Boundary b m) = (b ≡ max x.bound y.bound) × (m ≡ length (cut (longer x.stable y.stable) b))
IsOfOne x y (Undo n) = ⊤
IsOfOne x y RecDone = ⊤
