use Rattle.std.proofs.Common.{rules, ℕ, ◌<◌, ◌≤◌, length, Err, sym, ap, subst, ◌∙◌}
use Rattle.dpc_model.specs.declared.messages.Event.TheVariants as event
use Rattle.node_core.specs.declared.faults.Point.{Point}
use Rattle.world_parts.specs.Events.{Happened, WouldPass}
use Rattle.world_parts.proofs.LentWork.{read-compare, timely-in, late-in, put-back-leads}
use Rattle.world_parts.proofs.NodeCalls.{read-low, posted-happened}
use Rattle.world_parts.proofs.NodeWork.{own-read, place-stays, stale-of-node, commit-passes}
use Rattle.world_parts.proofs.parts.WorldParts.put_back.Goals as goal

pub index_mut-requires : goal.index_mut-requires
index_mut-requires c =
    let low : c.node_place-place.result < length c.self.inside.nodes.items =
    read-low c.args.roster.now _ _ c.node-actor.result c.in-Node.field-0 c.in-Node.field-1 c.node_place-place.result c.self.view_is c.requires.some (sym c.role_of.ensures ∙ c.in-Node.is) c.node_place-place.ensures in
    search (rules, low)

pub put_back-requires : goal.put_back-requires
put_back-requires c =
    let o = c.args.done.order in
    let some : 1 ≤ length o.buckets = subst (λ (p : Point). 1 ≤ p.ready) c.needed_when_done-needed.ensures.needed c.needed_when_done-needed.ensures.some in
    read-compare c.args.roster.now _ _ c.in-Node.field-0 c.in-Node.field-1 c.node_place-place.result c.index_mut.result.now o c.requires.plan c.requires.work some
    (own-read c.args.roster.now _ _ c.node-actor.result o.node c.in-Node.field-0 c.in-Node.field-1 c.node_place-place.result c.index_mut.result.now c.node-actor.ensures
    (record { same = c.self.view_is; some = c.requires.some; role = sym c.role_of.ensures ∙ c.in-Node.is; place = c.node_place-place.ensures; value = c.index_mut.ensures.value }))

pub returns-in_err-mails-clause-stale : goal.returns-in_err-mails-clause-stale
returns-in_err-mails-clause-stale c = λ had needed told.
    let o = c.args.done.order in
    let some : 1 ≤ length o.buckets = subst (λ (p : Point). 1 ≤ p.ready) c.needed_when_done-needed.ensures.needed c.needed_when_done-needed.ensures.some in
    let late = (c.in_err-mails.ensures {u = tt}).stale had needed (ap Err (stale-of-node c.from_residual.result c.in_err-mails.field-0.0 had needed c.from_residual.ensures.1 told)) in
    let own = own-read c.args.roster.now _ _ c.node-actor.result o.node c.in-Node.field-0 c.in-Node.field-1 c.node_place-place.result c.index_mut.result.now c.node-actor.ensures
    (record { same = c.self.view_is; some = c.requires.some; role = sym c.role_of.ensures ∙ c.in-Node.is; place = c.node_place-place.ensures; value = c.index_mut.ensures.value }) in (
      place-stays c.args.roster.now _ _ o.node c.in-Node.field-0 c.in-Node.field-1 c.node_place-place.result c.index_mut.result.now c.put_back.new.self own late.0,
      late-in c.args.roster.now _ _ c.in-Node.field-0 c.in-Node.field-1 c.node_place-place.result c.index_mut.result.now o had needed c.requires.plan c.requires.work some own late.1,
    )

pub returns-in_err-post-clause-long : goal.returns-in_err-post-clause-long
returns-in_err-post-clause-long c = λ envelopes items told.
    let o = c.args.done.order in
    let count = length o.buckets in
    let some : 1 ≤ count = subst (λ (p : Point). 1 ≤ p.ready) c.needed_when_done-needed.ensures.needed c.needed_when_done-needed.ensures.some in
    subst (λ (n : ℕ). WouldPass c.args.roster.now c.args.self.now (event.Mill n count) envelopes items) c.node-actor.ensures
    (commit-passes c.args.roster.now _ _ (event.Mill c.node-actor.result count) c.from_residual-in_err-post.result c.in_err-post.field-0.0 c.from_residual-in_err-post.ensures.1 c.in_err-post.ensures.long
    (put-back-leads c.args.roster.now _ _ c.node-actor.result c.in-Node.field-0 c.in-Node.field-1 count c.node_place-place.result c.index_mut.result.now c.put_back.new.self o c.in_ok-mails.mails.items c.requires.plan c.requires.work some c.node-actor.ensures
    (record { same = c.self.view_is; some = c.requires.some; role = sym c.role_of.ensures ∙ c.in-Node.is; place = c.node_place-place.ensures; value = c.index_mut.ensures.value }) (c.in_ok-mails.ensures {u = tt}).ok) envelopes items told)

pub returns-clause-ok : goal.returns-clause-ok
returns-clause-ok c =
    let o = c.args.done.order in
    let count = length o.buckets in
    let some : 1 ≤ count = subst (λ (p : Point). 1 ≤ p.ready) c.needed_when_done-needed.ensures.needed c.needed_when_done-needed.ensures.some in
    subst (λ (n : ℕ). Happened c.args.roster.now c.args.self.now c.post.new.self (event.Mill n count)) c.node-actor.ensures
    (posted-happened c.args.roster.now _ _ _ (event.Mill c.node-actor.result count) c.in_ok-post.ensures.ok c.in_ok-post.ensures.within
    (put-back-leads c.args.roster.now _ _ c.node-actor.result c.in-Node.field-0 c.in-Node.field-1 count c.node_place-place.result c.index_mut.result.now c.put_back.new.self o c.in_ok-mails.mails.items c.requires.plan c.requires.work some c.node-actor.ensures
    (record { same = c.self.view_is; some = c.requires.some; role = sym c.role_of.ensures ∙ c.in-Node.is; place = c.node_place-place.ensures; value = c.index_mut.ensures.value }) (c.in_ok-mails.ensures {u = tt}).ok))

pub returns-clause-fits : goal.returns-clause-fits
returns-clause-fits c =
    let o = c.args.done.order in
    let some : 1 ≤ length o.buckets = subst (λ (p : Point). 1 ≤ p.ready) c.needed_when_done-needed.ensures.needed c.needed_when_done-needed.ensures.some in
    timely-in c.args.roster.now _ _ c.in-Node.field-0 c.in-Node.field-1 c.node_place-place.result c.index_mut.result.now o c.requires.plan c.requires.work some
    (own-read c.args.roster.now _ _ c.node-actor.result o.node c.in-Node.field-0 c.in-Node.field-1 c.node_place-place.result c.index_mut.result.now c.node-actor.ensures
    (record { same = c.self.view_is; some = c.requires.some; role = sym c.role_of.ensures ∙ c.in-Node.is; place = c.node_place-place.ensures; value = c.index_mut.ensures.value }))
    (c.in_ok-mails.ensures {u = tt}).fits
