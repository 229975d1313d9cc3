use Rattle.std.proofs.Common.{rules, ℕ, ◌<◌, length, sym, subst, ◌∙◌}
use Rattle.dpc_model.specs.declared.plans.Plan.{Plan}
use Rattle.node_model.specs.Making.{IsReplica}
use Rattle.world_model.specs.Worlds.{Slot, home_of}
use Rattle.world_parts.specs.Slots.{CanStep}
use Rattle.world_parts.proofs.LentWork.{lends-from}
use Rattle.world_parts.proofs.NodeCalls.{read-low}
use Rattle.world_parts.proofs.NodeWork.{each-handed, handed-none}
use Rattle.world_parts.proofs.parts.WorldParts.lend.Goals as goal

pub index_mut-requires : goal.index_mut-requires
index_mut-requires c =
    let low : c.node_place-place.result < length c.self.inside.nodes.items =
    read-low c.args.roster.now _ _ c.args.actor c.in-Node.frag c.in-Node.field-1 c.node_place-place.result c.self.view_is c.requires.some (sym c.role_of.ensures ∙ c.in-Node.is) c.node_place-place.ensures in
    search (rules, low)

pub lend-requires : goal.lend-requires
lend-requires c =
    subst (λ (p : Plan). (replica : ℕ) × (s : Slot) × IsReplica (home_of p (c.in-Node.frag, replica)) × CanStep (home_of p (c.in-Node.frag, replica)) c.index_mut.result.now s) (sym c.plan.ensures)
    (lends-from c.args.roster.now _ _ c.args.actor c.in-Node.frag c.in-Node.field-1 c.node_place-place.result c.index_mut.result.now c.requires.plan
    (record { same = c.self.view_is; some = c.requires.some; role = sym c.role_of.ensures ∙ c.in-Node.is; place = c.node_place-place.ensures; value = c.index_mut.ensures.value }))

pub returns-clause-none : goal.returns-clause-none
returns-clause-none c =
    let told = c.in_ok-order.ensures {u = tt} in
    handed-none c.args.roster.now _ _ c.args.actor c.in-Node.frag c.in-Node.field-1 c.node_place-place.result c.index_mut.result.now c.in_ok-order.order c.requires.plan
    (record { same = c.self.view_is; some = c.requires.some; role = sym c.role_of.ensures ∙ c.in-Node.is; place = c.node_place-place.ensures; value = c.index_mut.ensures.value }) told.none told.some

pub returns-clause-some : goal.returns-clause-some
returns-clause-some c =
    let told = c.in_ok-order.ensures {u = tt} in
    each-handed c.args.roster.now _ _ c.args.actor c.in-Node.frag c.in-Node.field-1 c.node_place-place.result c.index_mut.result.now c.in_ok-order.order c.requires.plan
    (record { same = c.self.view_is; some = c.requires.some; role = sym c.role_of.ensures ∙ c.in-Node.is; place = c.node_place-place.ensures; value = c.index_mut.ensures.value }) told.some
