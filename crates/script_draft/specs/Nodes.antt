-- The names of nodes, and the actors of names.
use Rattle.std.specs.Prelude.{◌≡◌, Some, ℕ, Bool, ◌||◌, List, ◌∷◌, ◌++◌, map, flat_map, decimal}
use Rattle.dpc_lists.specs.Lists.{range_with_len}
use Rattle.dpc_model.specs.Words.{Word}
use Rattle.dpc_model.specs.Actors.{role_of, reads_from, are_peers}
use Rattle.dpc_model.specs.declared.actors.Role.{Role}
use Rattle.script_rules.specs.Drafts.{Draft, plan_of, actor_named}
use Rattle.dpc_model.specs.declared.plans.FragSpec.{FragSpec}
use Rattle.dpc_model.specs.declared.plans.Plan.{Plan}

-- a fragment, a dot and the number of a replica
abbrev pub node_name : Word → ℕ → Word
node_name fragment replica = fragment ++ 46 ∷ decimal replica

-- the names of all replicas of a fragment in order, and of all nodes
abbrev pub names_of_replicas : FragSpec → List Word
names_of_replicas f = map (node_name f.name) (range_with_len 0 f.replicas)

abbrev pub names_of_nodes : List FragSpec → List Word
names_of_nodes fs = flat_map names_of_replicas fs

-- the actor of a name: its number, and what it is
pub record IsActor (d : Draft) (name : Word) (number : ℕ) (role : Role) : Type 0 where
  pub named : actor_named d name ≡ Some number
  pub is : role_of (plan_of d) number ≡ role

-- two actors by their names
pub record AreNamed (d : Draft) (a b : Word) (x y : ℕ) : Type 0 where
  pub first : actor_named d a ≡ Some x
  pub second : actor_named d b ≡ Some y

-- whether a link joins two actors
abbrev pub roles_linked : Plan → Role → Role → Bool
roles_linked plan x y = reads_from plan x y || reads_from plan y x || are_peers x y
