use Rattle.std.proofs.Common.{◌≡◌, ◌-◌, map}
use Rattle.dpc_lists.specs.Lists.{range_with_len}
use Rattle.picture_model.specs.Points.{promise_of, replica_state}
use Rattle.world_core.specs.Runs.{world_of}
use Rattle.world_model.specs.Worlds.{node_at}
use Rattle.picture_watch.proofs.nodes.look_at_replicas.Given as goal

-- the replicas up to this actor
abbrev pub invariant-loop-actor : goal.invariant-loop-actor
invariant-loop-actor l =
    record {
      states : l.states.items ≡ map (λ a. replica_state (node_at (world_of l.world) a)) (range_with_len l.first (l.actor - l.first));
      promises : l.promises.items ≡ map (λ a. promise_of (node_at (world_of l.world) a)) (range_with_len l.first (l.actor - l.first));
    }
