use Rattle.std.proofs.Common.{◌≡◌, ◌∙◌, ℕ, rules, ◌<◌, length, ap}
use Rattle.dpc_model.specs.declared.messages.Event.TheVariants as event
use Rattle.node_core.specs.declared.packets.Packet as code
use Rattle.world_parts.specs.Counting.{with_posted}
use Rattle.world_parts.specs.Events.{Leads}
use Rattle.world_parts.specs.Parts.{EnvelopeValue}
use Rattle.world_parts.specs.contracts.parts.WorldParts.{the_view}
use Rattle.world_parts.proofs.NodePlaces.{with_slot}
use Rattle.world_parts.proofs.NodeCalls.{coming-low, coming-role, read-low, read-come, taken-leads, posted-happened, posted-passes}
use Rattle.world_parts.proofs.parts.WorldParts.deliver_to_node.Goals as goal
use Rattle.world_parts.proofs.parts.WorldParts.deliver_to_node.Goals.{In_ok-mails}

-- an envelope with the number that was told of it
abbrev with-to : ℕ → EnvelopeValue → EnvelopeValue
with-to to e = record e { to = to }

front-is : (e : EnvelopeValue) (to : ℕ) → to ≡ e.to → with-to to e ≡ e
front-is e to is = ap (λ (a : ℕ). record e { to = a }) is

-- and with the packet that was lent
abbrev with-ends : ℕ → code.Packet → EnvelopeValue → EnvelopeValue
with-ends sender packet e = record e { sender = sender; packet = packet }

env-is : (e : EnvelopeValue) (sender : ℕ) (packet : code.Packet) → sender ≡ e.sender → packet ≡ e.packet → with-ends sender packet e ≡ e
env-is e sender packet is same = ap (λ (a : ℕ). record e { sender = a; packet = packet }) is ∙ ap (λ (p : code.Packet). record e { packet = p }) same

pub index-requires : goal.index-requires
index-requires c =
    let low : c.args.k < length c.self.inside.envelopes.items = coming-low c.args.roster.now _ _ c.args.k c.args.frag c.args.replica c.self.view_is c.requires.comes in
    search (rules, low)

pub index_mut-requires : goal.index_mut-requires
index_mut-requires c =
    let low : c.node_place-place.result < length c.self.inside.nodes.items =
    read-low c.args.roster.now _ _ c.to-to.result c.args.frag c.args.replica c.node_place-place.result c.self.view_is c.requires.some
    (coming-role c.args.roster.now _ _ c.args.k c.args.frag c.args.replica (with-to c.to-to.result c.index.result.now) c.index.result.now c.self.view_is c.requires.comes c.index.ensures
    (front-is c.index.result.now c.to-to.result c.to-to.ensures)) c.node_place-place.ensures in
    search (rules, low)

pub deliver-requires : goal.deliver-requires
deliver-requires c =
    read-come c.args.roster.now _ _ c.args.k c.args.frag c.args.replica c.node_place-place.result (with-to c.to-to.result c.index.result.now)
    (with-ends c.sender.result c.envelope.inside.packet c.index-envelope.result.now) c.index_mut.result.now c.requires.plan
    (record {
      same = c.self.view_is;
      some = c.requires.some;
      comes = c.requires.comes;
      first = c.index.result.now;
      first_is = c.index.ensures;
      front_is = front-is c.index.result.now c.to-to.result c.to-to.ensures;
      second = c.index-envelope.result.now;
      second_is = c.index-envelope.ensures;
      env_is = env-is c.index-envelope.result.now c.sender.result c.envelope.inside.packet c.sender.ensures (ap (λ (e : EnvelopeValue). e.packet) c.envelope.view_is);
      place = c.node_place-place.ensures;
      value = c.index_mut.ensures.value;
    })

-- what the node made of the envelope leads on, with its mails posted
led : (c : In_ok-mails) → Leads c.args.roster.now c.args.self.now (with_posted c.to-to.result c.in_ok-mails.mails.items (with_slot c.node_place-place.result c.deliver.new.self (the_view c.self.inside))) (event.Deliver c.args.k)
led c =
    taken-leads c.args.roster.now _ _ c.args.k c.args.frag c.args.replica c.node_place-place.result (with-to c.to-to.result c.index.result.now)
    (with-ends c.sender.result c.envelope.inside.packet c.index-envelope.result.now) c.index_mut.result.now c.deliver.new.self c.in_ok-mails.mails.items c.requires.plan
    (record {
      same = c.self.view_is;
      some = c.requires.some;
      comes = c.requires.comes;
      first = c.index.result.now;
      first_is = c.index.ensures;
      front_is = front-is c.index.result.now c.to-to.result c.to-to.ensures;
      second = c.index-envelope.result.now;
      second_is = c.index-envelope.ensures;
      env_is = env-is c.index-envelope.result.now c.sender.result c.envelope.inside.packet c.sender.ensures (ap (λ (e : EnvelopeValue). e.packet) c.envelope.view_is);
      place = c.node_place-place.ensures;
      value = c.index_mut.ensures.value;
    }) c.in_ok-mails.ensures

pub returns-in_err-post-clause-long : goal.returns-in_err-post-clause-long
returns-in_err-post-clause-long c =
    posted-passes c.args.roster.now _ _ (event.Deliver c.args.k) c.from_residual-in_err-post.result c.in_err-post.field-0.0 c.from_residual-in_err-post.ensures.1 c.in_err-post.ensures.long
    (led (goal.at.returns-in_err-post-clause-long c).In_ok-mails)

pub returns-clause-ok : goal.returns-clause-ok
returns-clause-ok c = posted-happened c.args.roster.now _ _ _ (event.Deliver c.args.k) c.in_ok-post.ensures.ok c.in_ok-post.ensures.within (led (goal.at.returns-clause-ok c).In_ok-mails)
