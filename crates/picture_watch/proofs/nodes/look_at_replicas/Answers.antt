use Rattle.std.proofs.Common.{◌≤◌, arith}
use Rattle.picture_model.specs.Points.{promise_of, replica_state}
use Rattle.world_core.specs.Runs.{world_of}
use Rattle.world_model.specs.Worlds.{node_at}
use Rattle.picture_watch.proofs.Replicas.{replicas_more}
use Rattle.picture_watch.proofs.nodes.look_at_replicas.Goals as goal

pub loop-actor-preserved : goal.loop-actor-preserved
loop-actor-preserved c =
    let w = world_of c.args.world.now in
    let first = c.len-first.result in
    let a = c.loop-actor.actor in
    let past : first ≤ a = omega arith in
    record {
      states = replicas_more (λ b. replica_state (node_at w b)) first a c.loop-actor.states.items _ _ past c.loop-actor.invariant.states c.replica_state.ensures c.in_ok-push.ensures.items;
      promises = replicas_more (λ b. promise_of (node_at w b)) first a c.loop-actor.promises.items _ _ past c.loop-actor.invariant.promises c.promise_of.ensures c.in_ok-push-2.ensures.items;
    }
