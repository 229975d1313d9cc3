use Rattle.std.proofs.Common.{rules, ℕ, ◌<◌, length, Err, sym, ap, subst, ◌∙◌}
use Rattle.dpc_model.specs.declared.messages.Event.TheVariants as event
use Rattle.fragment_mill.specs.Mills.{MillState}
use Rattle.mill_work.specs.Milling.{OrderValue}
use Rattle.world_parts.specs.Events.{Happened, WouldPass}
use Rattle.world_parts.proofs.NodeCalls.{read-low, read-step, milled-leads, posted-happened}
use Rattle.world_parts.proofs.NodeWork.{own-read, timely, stale-at, place-stays, stale-of-node, commit-passes}
use Rattle.world_parts.proofs.parts.WorldParts.commit.Goals as goal

pub index_mut-requires : goal.index_mut-requires
index_mut-requires c =
    let low : c.node_place-place.result < length c.self.inside.nodes.items =
    read-low c.args.roster.now _ _ c.behind-milled.inside.node c.in-Node.field-0 c.in-Node.field-1 c.node_place-place.result c.self.view_is c.requires.some (sym c.role_of.ensures ∙ c.in-Node.is) c.node_place-place.ensures in
    search (rules, low)

pub commit-requires : goal.commit-requires
commit-requires c =
    read-step c.args.roster.now _ _ c.behind-milled.inside.node c.in-Node.field-0 c.in-Node.field-1 c.node_place-place.result c.index_mut.result.now c.requires.plan
    (record { same = c.self.view_is; some = c.requires.some; role = sym c.role_of.ensures ∙ c.in-Node.is; place = c.node_place-place.ensures; value = c.index_mut.ensures.value })

pub returns-in_err-mails-clause-stale : goal.returns-in_err-mails-clause-stale
returns-in_err-mails-clause-stale c = λ had needed told.
    let o = c.args.milled.order in
    let slot = c.in_err-mails.ensures.stale had needed (ap Err (stale-of-node c.from_residual.result c.in_err-mails.field-0.0 had needed c.from_residual.ensures.1 told)) in
    let own = own-read c.args.roster.now _ _ c.behind-milled.inside.node o.node c.in-Node.field-0 c.in-Node.field-1 c.node_place-place.result c.index_mut.result.now (ap (λ (o : OrderValue MillState). o.node) (c.behind-milled.view_is ∙ c.order.ensures))
    (record { same = c.self.view_is; some = c.requires.some; role = sym c.role_of.ensures ∙ c.in-Node.is; place = c.node_place-place.ensures; value = c.index_mut.ensures.value }) in (
      place-stays c.args.roster.now _ _ o.node c.in-Node.field-0 c.in-Node.field-1 c.node_place-place.result c.index_mut.result.now c.commit.new.self own slot.0,
      stale-at c.args.roster.now _ _ c.in-Node.field-0 c.in-Node.field-1 c.node_place-place.result c.index_mut.result.now o had needed own slot.1,
    )

pub returns-in_err-post-clause-long : goal.returns-in_err-post-clause-long
returns-in_err-post-clause-long c = λ envelopes items told.
    let count = length c.args.milled.order.buckets in
    subst (λ (n : ℕ). WouldPass c.args.roster.now c.args.self.now (event.Mill n count) envelopes items) (ap (λ (o : OrderValue MillState). o.node) (c.behind-milled.view_is ∙ c.order.ensures))
    (commit-passes c.args.roster.now _ _ (event.Mill c.behind-milled.inside.node count) c.from_residual-in_err-post.result c.in_err-post.field-0.0 c.from_residual-in_err-post.ensures.1 c.in_err-post.ensures.long
    (milled-leads c.args.roster.now _ _ c.behind-milled.inside.node c.in-Node.field-0 c.in-Node.field-1 (length c.args.milled.order.buckets) c.node_place-place.result c.index_mut.result.now c.commit.new.self
    c.in_ok-mails.mails.items c.requires.plan
    (record { same = c.self.view_is; some = c.requires.some; role = sym c.role_of.ensures ∙ c.in-Node.is; place = c.node_place-place.ensures; value = c.index_mut.ensures.value }) c.in_ok-mails.ensures.ok) envelopes items told)

pub returns-clause-ok : goal.returns-clause-ok
returns-clause-ok c =
    let count = length c.args.milled.order.buckets in
    subst (λ (n : ℕ). Happened c.args.roster.now c.args.self.now c.post.new.self (event.Mill n count)) (ap (λ (o : OrderValue MillState). o.node) (c.behind-milled.view_is ∙ c.order.ensures))
    (posted-happened c.args.roster.now _ _ _ (event.Mill c.behind-milled.inside.node count) c.in_ok-post.ensures.ok c.in_ok-post.ensures.within
    (milled-leads c.args.roster.now _ _ c.behind-milled.inside.node c.in-Node.field-0 c.in-Node.field-1 (length c.args.milled.order.buckets) c.node_place-place.result c.index_mut.result.now c.commit.new.self
    c.in_ok-mails.mails.items c.requires.plan
    (record { same = c.self.view_is; some = c.requires.some; role = sym c.role_of.ensures ∙ c.in-Node.is; place = c.node_place-place.ensures; value = c.index_mut.ensures.value }) c.in_ok-mails.ensures.ok))

pub returns-clause-fits : goal.returns-clause-fits
returns-clause-fits c =
    let o = c.args.milled.order in
    timely c.args.roster.now _ _ c.in-Node.field-0 c.in-Node.field-1 c.node_place-place.result c.index_mut.result.now o
    (own-read c.args.roster.now _ _ c.behind-milled.inside.node o.node c.in-Node.field-0 c.in-Node.field-1 c.node_place-place.result c.index_mut.result.now (ap (λ (o : OrderValue MillState). o.node) (c.behind-milled.view_is ∙ c.order.ensures))
    (record { same = c.self.view_is; some = c.requires.some; role = sym c.role_of.ensures ∙ c.in-Node.is; place = c.node_place-place.ensures; value = c.index_mut.ensures.value })) c.in_ok-mails.ensures.fits
