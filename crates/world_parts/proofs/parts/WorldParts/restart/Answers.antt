use Rattle.std.proofs.Common.{rules, ◌<◌, length, sym, subst, ◌∙◌}
use Rattle.dpc_model.specs.declared.messages.Event.TheVariants as event
use Rattle.dpc_model.specs.declared.plans.Plan.{Plan}
use Rattle.node_model.specs.Making.{IsReplica}
use Rattle.world_model.specs.Worlds.{Slot, home_of, restart_slot}
use Rattle.law_fit.proofs.Replicas.{actor-made}
use Rattle.world_parts.specs.Parts.{WorldPartsValue, StandsForSlot}
use Rattle.world_parts.specs.Events.{Happened}
use Rattle.world_parts.proofs.Posting.{happened}
use Rattle.world_parts.proofs.NodeLeads.{restart-stays}
use Rattle.world_parts.proofs.NodeCalls.{read-low, restart-happened}
use Rattle.world_parts.proofs.parts.WorldParts.restart.Goals as goal

pub index_mut-requires : goal.index_mut-requires
index_mut-requires c =
    let low : c.node_place-place.result < length c.self.inside.nodes.items =
    read-low c.args.roster.now _ _ c.args.actor c.in-Node.frag c.in-Node.replica c.node_place-place.result c.self.view_is c.requires.some (sym c.role_of.ensures ∙ c.in-Node.is) c.node_place-place.ensures in
    search (rules, low)

pub restart-requires : goal.restart-requires
restart-requires c =
    subst (λ (p : Plan). IsReplica (home_of p (c.in-Node.frag, c.in-Node.replica))) (sym c.plan.ensures)
    (actor-made c.args.roster.now c.args.actor c.in-Node.frag c.in-Node.replica c.requires.plan.checked c.requires.plan.few (sym c.role_of.ensures ∙ c.in-Node.is))

pub returns-in_ok-restart : goal.returns-in_ok-restart
returns-in_ok-restart c =
    restart-happened c.args.roster.now _ _ c.args.actor c.in-Node.frag c.in-Node.replica c.args.inc c.node_place-place.result c.index_mut.result.now c.restart.new.self
    (record { same = c.self.view_is; some = c.requires.some; role = sym c.role_of.ensures ∙ c.in-Node.is; place = c.node_place-place.ensures; value = c.index_mut.ensures.value })
    (record { envelopes = c.self.invariant.0; items = c.self.invariant.1 })
    (subst (λ (p : Plan). (x : Slot) → StandsForSlot (home_of p (c.in-Node.frag, c.in-Node.replica)) c.index_mut.result.now x
    → StandsForSlot (home_of p (c.in-Node.frag, c.in-Node.replica)) c.restart.new.self (restart_slot (home_of p (c.in-Node.frag, c.in-Node.replica)) c.args.inc x)) c.plan.ensures c.in_ok-restart.ensures)

pub returns-in_default : goal.returns-in_default
returns-in_default c =
    subst (λ (v : WorldPartsValue). Happened c.args.roster.now v v (event.Restart c.args.actor c.args.inc)) c.self.view_is
    (happened c.args.roster.now _ _ (event.Restart c.args.actor c.args.inc) (record { envelopes = c.self.invariant.0; items = c.self.invariant.1 })
    (restart-stays c.args.roster.now _ c.args.actor c.args.inc (λ f r e. c.in_default.not-Node f r (c.role_of.ensures ∙ e))))
