use Rattle.std.proofs.Common.{rules, ◌<◌, length, sym, subst, ◌∙◌}
use Rattle.dpc_model.specs.declared.messages.Event.TheVariants as event
use Rattle.world_parts.specs.Parts.{WorldPartsValue}
use Rattle.world_parts.specs.Events.{Happened}
use Rattle.world_parts.proofs.Posting.{happened}
use Rattle.world_parts.proofs.NodeLeads.{crash-stays}
use Rattle.world_parts.proofs.NodeCalls.{read-low, crash-happened}
use Rattle.world_parts.proofs.parts.WorldParts.crash.Goals as goal

pub index_mut-requires : goal.index_mut-requires
index_mut-requires c =
    let low : c.node_place-place.result < length c.self.inside.nodes.items =
    read-low c.args.roster.now _ _ c.args.actor c.in-Node.field-0 c.in-Node.field-1 c.node_place-place.result c.self.view_is c.requires.some (sym c.role_of.ensures ∙ c.in-Node.is) c.node_place-place.ensures in
    search (rules, low)

pub returns-in-Node : goal.returns-in-Node
returns-in-Node c =
    crash-happened c.args.roster.now _ _ c.args.actor c.in-Node.field-0 c.in-Node.field-1 c.node_place-place.result c.index_mut.result.now c.crash.new.self
    (record { same = c.self.view_is; some = c.requires.some; role = sym c.role_of.ensures ∙ c.in-Node.is; place = c.node_place-place.ensures; value = c.index_mut.ensures.value })
    (record { envelopes = c.self.invariant.0; items = c.self.invariant.1 }) c.crash.ensures

pub returns-in_default : goal.returns-in_default
returns-in_default c =
    subst (λ (v : WorldPartsValue). Happened c.args.roster.now v v (event.Crash c.args.actor)) c.self.view_is
    (happened c.args.roster.now _ _ (event.Crash c.args.actor) (record { envelopes = c.self.invariant.0; items = c.self.invariant.1 })
    (crash-stays c.args.roster.now _ c.args.actor (λ f r e. c.in_default.not-Node f r (c.role_of.ensures ∙ e))))
