-- How a node that is told of stands for the plain one.
use Rattle.std.specs.Prelude.{◌≡◌, Option, None}
use Rattle.dpc_model.specs.declared.actors.Role.{Role}
use Rattle.dpc_model.specs.declared.actors.Role.TheVariants.{Source as IsSource, Node as IsNode, Client as IsClient, Nobody}
use Rattle.dpc_model.specs.declared.plans.Plan.{Plan}
use Rattle.node_model.specs.Nodes.{PlainNode}
use Rattle.node_core.specs.Standing.{NodeValue}
use Rattle.world_model.specs.Worlds.{home_of}
use Rattle.world_parts.specs.Parts.{StandsForUp}

-- there is neither
pub record IsNoNode (v : Option NodeValue) (p : Option PlainNode) : Type 0 where
  pub code : v ≡ None
  pub plain : p ≡ None

-- the node that an actor of this role is, where it is one and is up
abbrev pub StandsForRole : Plan → Role → Option NodeValue → Option PlainNode → Type 0
StandsForRole plan (IsNode f r) v p = StandsForUp (home_of plan (f, r)) v p
StandsForRole plan (IsSource s) v p = IsNoNode v p
StandsForRole plan (IsClient c) v p = IsNoNode v p
StandsForRole plan Nobody v p = IsNoNode v p
