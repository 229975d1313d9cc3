-- Stable items one behind the other in a list, and the tuples in them.
use Rattle.std.specs.Prelude.{ℕ, suc, nat_le, nat_lt, Bool, true, false, if◌then◌else◌, List, [], ◌∷◌, ◌++◌, ◌<◌}
use Rattle.std.specs.List.{AllByRecursion}
use Rattle.dpc_model.specs.Streams.{is_below}
use Rattle.dpc_model.specs.declared.tuples.Tuple.{Tuple}
use Rattle.dpc_model.specs.declared.tuples.Item.{Item}
use Rattle.dpc_model.specs.declared.tuples.Item.TheVariants.{Stable, Tentative, Passed, Boundary, Undo, RecDone}

abbrev pub is_stable : Item → Bool
is_stable (Stable k t) = true
is_stable (Tentative t) = false
is_stable (Passed b) = false
is_stable (Boundary b m) = false
is_stable (Undo n) = false
is_stable RecDone = false

-- the tuples of the stable items, in order
abbrev pub stable_in : List Item → List Tuple
stable_in [] = []
stable_in (Stable k t ∷ items) = t ∷ stable_in items
stable_in (Tentative t ∷ items) = stable_in items
stable_in (Passed b ∷ items) = stable_in items
stable_in (Boundary b m ∷ items) = stable_in items
stable_in (Undo n ∷ items) = stable_in items
stable_in (RecDone ∷ items) = stable_in items

-- how many items at the front are stable
abbrev pub run_length : List Item → ℕ
run_length [] = 0
run_length (Stable k t ∷ items) = suc (run_length items)
run_length (Tentative t ∷ items) = 0
run_length (Passed b ∷ items) = 0
run_length (Boundary b m ∷ items) = 0
run_length (Undo n ∷ items) = 0
run_length (RecDone ∷ items) = 0

-- the tuples of the lists one after the other
abbrev pub joined : List (List Tuple) → List Tuple
joined [] = []
joined (ts ∷ tss) = ts ++ joined tss

-- each of the tuples lies below a time
abbrev pub AllBelow : ℕ → List Tuple → Type 0
AllBelow b ts = AllByRecursion (λ (t : Tuple). t.stime < b) ts

-- the tuples from the first one on that is not below b
abbrev pub from_first : ℕ → List Tuple → List Tuple
from_first b [] = []
from_first b (t ∷ ts) = if is_below b t then from_first b ts else t ∷ ts

-- whether there is a first tuple, and it isn't below b
abbrev pub begins_from : ℕ → List Tuple → Bool
begins_from b [] = false
begins_from b (t ∷ ts) = nat_le b t.stime

-- whether there is a last tuple, and it is below b
abbrev pub ends_below : ℕ → List Tuple → Bool
ends_below b [] = false
ends_below b (t ∷ []) = nat_lt t.stime b
ends_below b (t ∷ u ∷ ts) = ends_below b (u ∷ ts)
