-- The tables of a plan.
use Rattle.std.specs.Prelude.{◌≡◌, ℕ, ◌*◌, ◌/◌, ◌%◌, ◌≤◌, Bool, List, map}
use Rattle.dpc_lists.specs.Lists.{range_with_len}
use Rattle.dpc_model.specs.Actors.{roles_of, are_linked}
use Rattle.dpc_model.specs.declared.actors.Role.{Role}
use Rattle.dpc_model.specs.declared.plans.Plan.{Plan}

-- the links among the first actors, row by row
abbrev pub links_of : Plan → ℕ → List Bool
links_of plan width = map (λ place. are_linked plan (place / width) (place % width)) (range_with_len 0 (width * width))

-- the tables say what the plan says
pub record IsRoster (plan : Plan) (roles : List Role) (width : ℕ) (links : List Bool) : Type 0 where
  pub roles_are : roles ≡ roles_of plan
  pub few : width ≤ 256
  pub links_are : links ≡ links_of plan width
