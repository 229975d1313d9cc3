use Rattle.std.proofs.Common.{rules, ◌<◌, length, sym, subst, ◌∙◌}
use Rattle.dpc_model.specs.declared.messages.Event.TheVariants as event
use Rattle.world_parts.specs.Parts.{WorldPartsValue}
use Rattle.world_parts.specs.Events.{Happened}
use Rattle.world_parts.proofs.Posting.{happened}
use Rattle.world_parts.proofs.NodeLeads.{mill-stays}
use Rattle.world_parts.proofs.NodeCalls.{read-low, read-step, milled-leads, posted-happened, posted-passes}
use Rattle.world_parts.proofs.parts.WorldParts.mill.Goals as goal

pub index_mut-requires : goal.index_mut-requires
index_mut-requires c =
    let low : c.node_place-place.result < length c.self.inside.nodes.items =
    read-low c.args.roster.now _ _ c.args.actor c.in-Node.field-0 c.in-Node.field-1 c.node_place-place.result c.self.view_is c.requires.some (sym c.role_of.ensures ∙ c.in-Node.is) c.node_place-place.ensures in
    search (rules, low)

pub mill-requires : goal.mill-requires
mill-requires c =
    read-step c.args.roster.now _ _ c.args.actor c.in-Node.field-0 c.in-Node.field-1 c.node_place-place.result c.index_mut.result.now c.requires.plan
    (record { same = c.self.view_is; some = c.requires.some; role = sym c.role_of.ensures ∙ c.in-Node.is; place = c.node_place-place.ensures; value = c.index_mut.ensures.value })

pub returns-in_err-post-clause-long : goal.returns-in_err-post-clause-long
returns-in_err-post-clause-long c =
    posted-passes c.args.roster.now _ _ (event.Mill c.args.actor c.args.count) c.from_residual-in_err-post.result c.in_err-post.field-0.0 c.from_residual-in_err-post.ensures.1 c.in_err-post.ensures.long
    (milled-leads c.args.roster.now _ _ c.args.actor c.in-Node.field-0 c.in-Node.field-1 c.args.count c.node_place-place.result c.index_mut.result.now c.mill.new.self c.in_ok-mails.mails.items c.requires.plan
    (record { same = c.self.view_is; some = c.requires.some; role = sym c.role_of.ensures ∙ c.in-Node.is; place = c.node_place-place.ensures; value = c.index_mut.ensures.value }) c.in_ok-mails.ensures)

pub returns-in_ok-post-clause-ok : goal.returns-in_ok-post-clause-ok
returns-in_ok-post-clause-ok c =
    posted-happened c.args.roster.now _ _ _ (event.Mill c.args.actor c.args.count) c.in_ok-post.ensures.ok c.in_ok-post.ensures.within
    (milled-leads c.args.roster.now _ _ c.args.actor c.in-Node.field-0 c.in-Node.field-1 c.args.count c.node_place-place.result c.index_mut.result.now c.mill.new.self c.in_ok-mails.mails.items c.requires.plan
    (record { same = c.self.view_is; some = c.requires.some; role = sym c.role_of.ensures ∙ c.in-Node.is; place = c.node_place-place.ensures; value = c.index_mut.ensures.value }) c.in_ok-mails.ensures)

pub returns-in_default : goal.returns-in_default
returns-in_default c =
    record {
      ok = subst (λ (v : WorldPartsValue). Happened c.args.roster.now v v (event.Mill c.args.actor c.args.count)) c.self.view_is
          (happened c.args.roster.now _ _ (event.Mill c.args.actor c.args.count) (record { envelopes = c.self.invariant.0; items = c.self.invariant.1 })
          (mill-stays c.args.roster.now _ c.args.actor c.args.count (λ f r e. c.in_default.not-Node f r (c.role_of.ensures ∙ e))));
      long = λ envelopes items e. cc;
    }
