-- Nodes that save, the last one first.
use Rattle.std.specs.Prelude.{◌≡◌, ℕ, ◌+◌, List, [], ◌∷◌, length}
use Rattle.disk_model.specs.declared.disk.Disk.{Ghosts}
use Rattle.dpc_model.specs.Actors.{role_of, nodes_of}
use Rattle.dpc_model.specs.declared.actors.Role.TheVariants.{Node as IsNode}
use Rattle.dpc_model.specs.declared.messages.Event.{Event}
use Rattle.dpc_model.specs.declared.plans.Plan.{Plan}
use Rattle.law_saves.specs.Saves.{saved_last}
use Rattle.saved_point.specs.Points.{room_in, IsResting}
use Rattle.phase_saves.specs.Nodes.{Agrees}
use Rattle.phase_saves.specs.declared.node.SavingNode.{SavingNode}

-- the first actor behind the nodes
abbrev pub past_nodes : Plan → ℕ
past_nodes plan = length plan.sources + length (nodes_of plan)

module _ {D : Type 0} {g : Ghosts D} where
  -- a node of the plan, whose slots have so many bytes
  pub record IsNodeOf (plan : Plan) (room : ℕ) (n : SavingNode D g) : Type 0 where
    pub replica : ℕ
    pub role : role_of plan n.actor ≡ IsNode n.frag replica
    pub slots : room_in n.point ≡ room

  -- their actors are those below this one, downwards
  abbrev pub IsNumbered : ℕ → List (SavingNode D g) → Type 0
  IsNumbered top [] = Unit {0}
  IsNumbered top (n ∷ ns) = (n.actor + 1 ≡ top) × IsNumbered n.actor ns

  -- a node has what it saved last in this run
  pub record IsReady (plan : Plan) (events : List Event) (n : SavingNode D g) : Type 0 where
    pub rests : IsResting n.point
    pub has : (r : ℕ) → role_of plan n.actor ≡ IsNode n.frag r → Agrees plan r n (saved_last plan events n.actor)
