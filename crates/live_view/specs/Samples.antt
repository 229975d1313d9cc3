-- A plan of one source and its one client, and what it is told.
use Rattle.std.specs.Prelude.{ℕ, pos, false, List, [], ◌∷◌}
use Rattle.dpc_model.specs.declared.plans.Plan.{Plan}
use Rattle.dpc_model.specs.declared.plans.StreamRef.TheVariants.{Source}
use Rattle.dpc_model.specs.declared.tuples.Tuple.{Tuple}
use Rattle.dpc_model.specs.declared.tuples.Item.{Item}
use Rattle.dpc_model.specs.declared.tuples.Item.TheVariants.{Stable, Tentative, Boundary, Undo}

abbrev pub tuple_of : ℕ → ℕ → Tuple
tuple_of time value = record { stime = time; vals = pos value ∷ [] }

-- the source logs two tuples, at times 1 and 11
abbrev pub sample_plan : Plan
sample_plan = record {
  version = 1;
  passing = false;
  width = 10;
  delay = 30;
  end = 20;
  sources = record { name = []; columns = 1; log = tuple_of 1 10 ∷ tuple_of 11 11 ∷ [] } ∷ [];
  frags = [];
  clients = record { name = []; input = Source 0 } ∷ [];
}

abbrev pub first_items : List Item
first_items = Stable 0 (tuple_of 1 10) ∷ Boundary 10 1 ∷ []

abbrev pub later_items : List Item
later_items = Tentative (tuple_of 11 1) ∷ Undo 1 ∷ Stable 1 (tuple_of 11 11) ∷ Boundary 20 2 ∷ []
