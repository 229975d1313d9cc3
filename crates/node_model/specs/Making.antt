-- What a plan is to be for a replica to be made.
use Rattle.std.specs.Prelude.{◌≡◌, ◌<◌, ◌≤◌, length, All}
use Rattle.dpc_model.specs.Actors.{senders_of, replicas_of}
use Rattle.dpc_model.specs.Fragments.{AreSoundFrags}
use Rattle.dpc_model.specs.declared.plans.StreamRef.{StreamRef}
use Rattle.dpc_model.specs.declared.plans.TheConstants.{MOST_REPLICAS}
use Rattle.node_model.specs.Nodes.{Home, spec_of, streams_of}

-- a replica of a fragment of the plan; the plan has sound operators, and at most so many replicas of each fragment
pub record IsReplica (home : Home) : Type 0 where
  pub frag : home.frag < length home.plan.frags
  pub replica : home.replica < length (replicas_of home.plan home.frag)
  pub same : (spec_of home).replicas ≡ length (replicas_of home.plan home.frag)
  pub most : length (replicas_of home.plan home.frag) ≤ MOST_REPLICAS
  -- each stream that it reads has a sender, and no more than so many
  pub senders : All (λ (s : StreamRef). (0 < length (senders_of home.plan s)) × (length (senders_of home.plan s) ≤ MOST_REPLICAS)) (streams_of home)
  pub sound : AreSoundFrags home.plan.frags
  pub width : 0 < home.plan.width
