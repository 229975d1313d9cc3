use Rattle.std.proofs.Common.{rules, ◌<◌, length, sym, ◌∙◌}
use Rattle.world_parts.proofs.NodeCalls.{read-low, read-step}
use Rattle.world_parts.proofs.NodeWork.{each-handed, handed-none}
use Rattle.world_parts.proofs.parts.WorldParts.order.Goals as goal

pub index-requires : goal.index-requires
index-requires c =
    let low : c.node_place-place.result < length c.self.inside.nodes.items =
    read-low c.args.roster.now _ _ c.args.actor c.in-Node.field-0 c.in-Node.field-1 c.node_place-place.result c.self.view_is c.requires.some (sym c.role_of.ensures ∙ c.in-Node.is) c.node_place-place.ensures in
    search (rules, low)

pub order-requires : goal.order-requires
order-requires c =
    read-step c.args.roster.now _ _ c.args.actor c.in-Node.field-0 c.in-Node.field-1 c.node_place-place.result c.index.result.now c.requires.plan
    (record { same = c.self.view_is; some = c.requires.some; role = sym c.role_of.ensures ∙ c.in-Node.is; place = c.node_place-place.ensures; value = c.index.ensures })

pub returns-clause-none : goal.returns-clause-none
returns-clause-none c =
    handed-none c.args.roster.now _ _ c.args.actor c.in-Node.field-0 c.in-Node.field-1 c.node_place-place.result c.index.result.now c.in_ok-order.order c.requires.plan
    (record { same = c.self.view_is; some = c.requires.some; role = sym c.role_of.ensures ∙ c.in-Node.is; place = c.node_place-place.ensures; value = c.index.ensures }) c.in_ok-order.ensures.none c.in_ok-order.ensures.some

pub returns-clause-some : goal.returns-clause-some
returns-clause-some c =
    each-handed c.args.roster.now _ _ c.args.actor c.in-Node.field-0 c.in-Node.field-1 c.node_place-place.result c.index.result.now c.in_ok-order.order c.requires.plan
    (record { same = c.self.view_is; some = c.requires.some; role = sym c.role_of.ensures ∙ c.in-Node.is; place = c.node_place-place.ensures; value = c.index.ensures }) c.in_ok-order.ensures.some
