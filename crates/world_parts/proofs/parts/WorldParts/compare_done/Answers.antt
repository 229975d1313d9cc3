use Rattle.std.proofs.Common.{rules, ◌<◌, ◌≤◌, length, Err, sym, ap, subst, ◌∙◌}
use Rattle.node_core.specs.declared.faults.Point.{Point}
use Rattle.world_parts.proofs.LentWork.{timely-in, late-in, read-compare}
use Rattle.world_parts.proofs.NodeCalls.{read-low}
use Rattle.world_parts.proofs.NodeWork.{own-read, stale-of-node, enough-of-node}
use Rattle.world_parts.proofs.parts.WorldParts.compare_done.Goals as goal

pub index-requires : goal.index-requires
index-requires c =
    let low : c.node_place-place.result < length c.self.inside.nodes.items =
    read-low c.args.roster.now _ _ c.node-actor.result c.in-Node.field-0 c.in-Node.field-1 c.node_place-place.result c.self.view_is c.requires.some (sym c.role_of.ensures ∙ c.in-Node.is) c.node_place-place.ensures in
    search (rules, low)

pub returns-in_err-compare_done-clause-stale : goal.returns-in_err-compare_done-clause-stale
returns-in_err-compare_done-clause-stale c = λ had needed told.
    let o = c.args.done.now.order in
    let some : 1 ≤ length o.buckets = subst (λ (p : Point). 1 ≤ p.ready) c.needed_when_done-needed.ensures.needed c.needed_when_done-needed.ensures.some in
    late-in c.args.roster.now _ _ c.in-Node.field-0 c.in-Node.field-1 c.node_place-place.result c.index.result.now o had needed c.requires.plan c.requires.work some
    (own-read c.args.roster.now _ _ c.node-actor.result o.node c.in-Node.field-0 c.in-Node.field-1 c.node_place-place.result c.index.result.now c.node-actor.ensures
    (record { same = c.self.view_is; some = c.requires.some; role = sym c.role_of.ensures ∙ c.in-Node.is; place = c.node_place-place.ensures; value = c.index.ensures }))
    ((c.in_err-compare_done.ensures {u = tt}).stale had needed (ap Err (stale-of-node c.from_residual.result c.in_err-compare_done.field-0.0 had needed c.from_residual.ensures.1 told)))

pub returns-clause-fits : goal.returns-clause-fits
returns-clause-fits c =
    let o = c.args.done.now.order in
    let some : 1 ≤ length o.buckets = subst (λ (p : Point). 1 ≤ p.ready) c.needed_when_done-needed.ensures.needed c.needed_when_done-needed.ensures.some in
    timely-in c.args.roster.now _ _ c.in-Node.field-0 c.in-Node.field-1 c.node_place-place.result c.index.result.now o c.requires.plan c.requires.work some
    (own-read c.args.roster.now _ _ c.node-actor.result o.node c.in-Node.field-0 c.in-Node.field-1 c.node_place-place.result c.index.result.now c.node-actor.ensures
    (record { same = c.self.view_is; some = c.requires.some; role = sym c.role_of.ensures ∙ c.in-Node.is; place = c.node_place-place.ensures; value = c.index.ensures }))
    (c.in_ok-compare_done.ensures {u = tt}).fits

pub returns-in_err-compare_done-clause-enough : goal.returns-in_err-compare_done-clause-enough
returns-in_err-compare_done-clause-enough c = λ told.
    let o = c.args.done.now.order in
    let some : 1 ≤ length o.buckets = subst (λ (p : Point). 1 ≤ p.ready) c.needed_when_done-needed.ensures.needed c.needed_when_done-needed.ensures.some in
    let place = own-read c.args.roster.now _ _ c.node-actor.result o.node c.in-Node.field-0 c.in-Node.field-1 c.node_place-place.result c.index.result.now c.node-actor.ensures
    (record { same = c.self.view_is; some = c.requires.some; role = sym c.role_of.ensures ∙ c.in-Node.is; place = c.node_place-place.ensures; value = c.index.ensures }) in
    let at = read-compare c.args.roster.now _ _ c.in-Node.field-0 c.in-Node.field-1 c.node_place-place.result c.index.result.now o c.requires.plan c.requires.work some place in
    enough-of-node c.from_residual.result c.in_err-compare_done.field-0.0 c.from_residual.ensures.1 told
    (λ why. (c.in_err-compare_done.ensures {u = tt}).enough (ap Err why)) (λ why. (c.in_err-compare_done.ensures {u = tt}).unspent at.0 at.1 at.2.slot (ap Err why))
