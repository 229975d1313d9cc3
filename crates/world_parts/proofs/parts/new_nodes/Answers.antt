use Rattle.std.proofs.Common.{rules, take}
use Rattle.dpc_model.specs.Actors.{nodes_from}
use Rattle.world_parts.proofs.NewParts.{fragment_pushed}
use Rattle.world_parts.proofs.parts.new_nodes.Goals as goal

pub loop-frag-preserved : goal.loop-frag-preserved
loop-frag-preserved c =
    fragment_pushed c.args.plan.now c.loop-frag.frag c.push_replicas.new.nodes.items (search rules)
    (c.in_ok-push_replicas.ensures (nodes_from 0 (take c.loop-frag.frag c.args.plan.now.frags)) c.loop-frag.invariant)
