use Rattle.std.proofs.Common.{rules, ℕ, ◌<◌, ap, sym, subst, ◌∙◌, length}
use Rattle.node_model.specs.Mails.{Plain}
use Rattle.node_model.specs.Clients.{client_after_packet}
use Rattle.client_fold.specs.Folding.{Follows}
use Rattle.world_parts.proofs.PartFrames.{read-at}
use Rattle.dpc_model.specs.declared.actors.Role.TheVariants.{Client as IsClient}
use Rattle.world_parts.specs.Parts.{WorldPartsValue, EnvelopeValue}
use Rattle.world_parts.specs.Counting.{IsWithinLimits}
use Rattle.world_parts.proofs.ClientPlaces.{client_there, client_message, client_took}
use Rattle.world_parts.proofs.Arrivals.{envelope-is}
use Rattle.world_parts.proofs.parts.WorldParts.deliver_to_client.Goals as goal

pub returns-in_default-clause-ok : goal.returns-in_default-clause-ok
returns-in_default-clause-ok c =
    let same = ap (λ (s : WorldPartsValue). s.envelopes) c.self.view_is in
    let is = envelope-is c.args.roster.now c.args.self.now c.args.k (IsClient c.args.client) c.self.inside.envelopes.items c.index-envelope.result.now c.requires.comes same c.index-envelope.ensures in
    let told = client_message c.args.roster.now c.args.self.now c.args.k c.args.client c.requires.some c.requires.comes in
    absurd (c.in_default.not-Plain told.0 (ap (λ (e : EnvelopeValue). e.packet) (c.envelope.view_is ∙ sym is) ∙ told.1))

pub index_mut-requires : goal.index_mut-requires
index_mut-requires c =
    let low : c.args.client < length c.args.self.now.clients = client_there c.args.roster.now c.args.self.now c.requires.comes.envelope.to c.args.client c.requires.some c.requires.comes.to in
    search rules

pub returns-clause-ok : goal.returns-clause-ok
returns-clause-ok c =
    let same = ap (λ (s : WorldPartsValue). s.envelopes) c.self.view_is in
    let is = envelope-is c.args.roster.now c.args.self.now c.args.k (IsClient c.args.client) c.self.inside.envelopes.items c.index-envelope.result.now c.requires.comes same c.index-envelope.ensures in
    let low : c.args.client < length c.args.self.now.clients = client_there c.args.roster.now c.args.self.now c.requires.comes.envelope.to c.args.client c.requires.some c.requires.comes.to in
    let within : IsWithinLimits c.args.self.now = search rules in
    client_took c.args.roster.now c.args.self.now _ c.args.k c.args.client c.in-Plain.message c.index_mut.result.now c.deliver.new.self within c.requires.comes
    (ap (λ (e : EnvelopeValue). e.packet) (is ∙ sym c.envelope.view_is) ∙ c.in-Plain.is)
    (read-at c.self.inside.clients.items c.args.self.now.clients c.args.client c.index_mut.result.now (ap (λ (s : WorldPartsValue). s.clients) c.self.view_is) low c.index_mut.ensures.value)
    (subst (λ (a : ℕ). Follows (λ plan n x. client_after_packet plan n a (Plain c.in-Plain.message) x) c.index_mut.result.now c.deliver.new.self)
    (c.sender.ensures ∙ ap (λ (e : EnvelopeValue). e.sender) (sym is)) c.in_ok-deliver.ensures.ok)
    (search rules)
