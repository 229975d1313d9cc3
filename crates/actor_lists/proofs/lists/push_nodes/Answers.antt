use Rattle.std.proofs.Common.{ap, ◌∙◌, ◌++◌, map}
use Rattle.dpc_lists.specs.Lists.{range_with_len}
use Rattle.dpc_model.specs.declared.actors.Role.TheVariants.{Node as IsNode}
use Rattle.dpc_model.specs.declared.plans.FragSpec.{FragSpec}
use Rattle.actor_lists.proofs.Roles.{roles-more}
use Rattle.actor_lists.proofs.lists.push_nodes.Goals as goal

pub loop-f-preserved : goal.loop-f-preserved
loop-f-preserved c =
    let frags = c.as_slice-frag-items.ensures in
    roles-more c.loop-f.f c.args.plan.now.frags _ _ c.loop-f.roles.items _ (rw frags at c.loop-f-test.true) c.loop-f.invariant
    (c.in_ok-push_replicas.ensures ∙ ap (λ (x : FragSpec). c.loop-f.roles.items ++ map (IsNode c.loop-f.f) (range_with_len 0 x.replicas)) (rw frags at c.frag-item.is))
