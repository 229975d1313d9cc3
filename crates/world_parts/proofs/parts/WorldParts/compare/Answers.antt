use Rattle.std.proofs.Common.{rules, ◌<◌, length, Err, sym, ap, ◌∙◌}
use Rattle.fragment_mill.specs.Mills.{MillState}
use Rattle.mill_work.specs.Milling.{OrderValue}
use Rattle.world_parts.proofs.NodeCalls.{read-low, read-step}
use Rattle.world_parts.proofs.NodeWork.{own-read, timely, stale-at, stale-of-node}
use Rattle.world_parts.proofs.parts.WorldParts.compare.Goals as goal

pub index-requires : goal.index-requires
index-requires c =
    let low : c.node_place-place.result < length c.self.inside.nodes.items =
    read-low c.args.roster.now _ _ c.behind-milled.inside.node c.in-Node.field-0 c.in-Node.field-1 c.node_place-place.result c.self.view_is c.requires.some (sym c.role_of.ensures ∙ c.in-Node.is) c.node_place-place.ensures in
    search (rules, low)

pub compare-requires : goal.compare-requires
compare-requires c =
    read-step c.args.roster.now _ _ c.behind-milled.inside.node c.in-Node.field-0 c.in-Node.field-1 c.node_place-place.result c.index.result.now c.requires.plan
    (record { same = c.self.view_is; some = c.requires.some; role = sym c.role_of.ensures ∙ c.in-Node.is; place = c.node_place-place.ensures; value = c.index.ensures })

pub returns-in_err-compare-clause-stale : goal.returns-in_err-compare-clause-stale
returns-in_err-compare-clause-stale c = λ had needed told.
    let o = c.args.milled.now.order in
    let slot = c.in_err-compare.ensures.stale had needed (ap Err (stale-of-node c.from_residual.result c.in_err-compare.field-0.0 had needed c.from_residual.ensures.1 told)) in
    stale-at c.args.roster.now _ _ c.in-Node.field-0 c.in-Node.field-1 c.node_place-place.result c.index.result.now o had needed
    (own-read c.args.roster.now _ _ c.behind-milled.inside.node o.node c.in-Node.field-0 c.in-Node.field-1 c.node_place-place.result c.index.result.now (ap (λ (o : OrderValue MillState). o.node) (c.behind-milled.view_is ∙ c.order.ensures))
    (record { same = c.self.view_is; some = c.requires.some; role = sym c.role_of.ensures ∙ c.in-Node.is; place = c.node_place-place.ensures; value = c.index.ensures })) slot

pub returns-clause-fits : goal.returns-clause-fits
returns-clause-fits c =
    let o = c.args.milled.now.order in
    timely c.args.roster.now _ _ c.in-Node.field-0 c.in-Node.field-1 c.node_place-place.result c.index.result.now o
    (own-read c.args.roster.now _ _ c.behind-milled.inside.node o.node c.in-Node.field-0 c.in-Node.field-1 c.node_place-place.result c.index.result.now (ap (λ (o : OrderValue MillState). o.node) (c.behind-milled.view_is ∙ c.order.ensures))
    (record { same = c.self.view_is; some = c.requires.some; role = sym c.role_of.ensures ∙ c.in-Node.is; place = c.node_place-place.ensures; value = c.index.ensures })) c.in_ok-compare.ensures.fits
