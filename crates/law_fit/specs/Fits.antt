-- What the code's nodes want of a world, and of a plan that they are made of.
use Rattle.std.specs.Prelude.{◌≡◌, ℕ, ◌^◌, ◌<◌, ◌≤◌, Some, slice_get, All}
use Rattle.dpc_model.specs.Actors.{role_of}
use Rattle.dpc_model.specs.declared.actors.Role.TheVariants.{Node as IsNode}
use Rattle.dpc_model.specs.declared.plans.FragSpec.{FragSpec}
use Rattle.dpc_model.specs.declared.plans.Plan.{Plan}
use Rattle.dpc_model.specs.declared.plans.TheConstants.{MOST_REPLICAS}
use Rattle.node_model.specs.Nodes.{PlainNode}
use Rattle.world_model.specs.Worlds.{World, Envelope, home_of, slot_of}
use Rattle.law_safety.specs.Plans.{IsCheckedPlan}
use Rattle.node_model.specs.Fitting.{IsFit, IsFitPacket}

-- ---- a world

-- each node that is up is fit
abbrev pub NodesAreFit : World → Type 0
NodesAreFit w = (a f r : ℕ) (p : PlainNode) → role_of w.plan a ≡ IsNode f r → (slot_of w a).node ≡ Some p → IsFit (home_of w.plan (f, r)) p

-- each packet that was sent to a node is fit for it, whenever it comes while the node is up
abbrev pub PacketsAreFit : World → Type 0
PacketsAreFit w =
    (k f r : ℕ) (e : Envelope) (p : PlainNode) → slice_get w.envelopes k ≡ Some e → role_of w.plan e.to ≡ IsNode f r → (slot_of w e.to).node ≡ Some p →
    IsFitPacket (home_of w.plan (f, r)) e.sender p e.packet

-- ---- a plan

-- no fragment has more replicas than this
abbrev pub HasFewReplicas : Plan → Type 0
HasFewReplicas plan = All (λ (frag : FragSpec). frag.replicas ≤ MOST_REPLICAS) plan.frags

-- a plan that can be run: checked, with few replicas and an end in range
pub record CanRun (plan : Plan) : Type 0 where
  pub checked : IsCheckedPlan plan
  pub few : HasFewReplicas plan
  pub end : plan.end < 2 ^ 63
