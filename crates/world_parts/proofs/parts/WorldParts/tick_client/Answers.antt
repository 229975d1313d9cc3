use Rattle.std.proofs.Common.{rules, ◌≡◌, ℕ, true, ◌<◌, ap, sym, ◌∙◌, length}
use Rattle.client_fold.specs.Folding.{ClientValue}
use Rattle.world_parts.specs.declared.faults.EventFault.TheVariants as fault
use Rattle.dpc_model.specs.declared.messages.Event.TheVariants as event
use Rattle.world_model.specs.Worlds.{is_clock}
use Rattle.world_parts.specs.Parts.{WorldPartsValue}
use Rattle.world_parts.specs.Counting.{IsWithinLimits}
use Rattle.world_parts.proofs.Posting.{would-pass}
use Rattle.world_parts.proofs.PartFrames.{read-at, read-twice, handed_on, posted_happened}
use Rattle.world_parts.proofs.ClientPlaces.{client_there}
use Rattle.world_parts.proofs.ClientTicks.{client_ticked, client_waits}
use Rattle.world_parts.proofs.parts.WorldParts.tick_client.Goals as goal

pub index-requires : goal.index-requires
index-requires c =
    let low : c.args.client < length c.args.self.now.clients = client_there c.args.roster.now c.args.self.now c.args.actor c.args.client c.requires.some c.requires.role in
    search rules

pub returns-then-not-is_clock-clause-ok : goal.returns-then-not-is_clock-clause-ok
returns-then-not-is_clock-clause-ok c =
    let low : c.args.client < length c.args.self.now.clients = client_there c.args.roster.now c.args.self.now c.args.actor c.args.client c.requires.some c.requires.role in
    let within : IsWithinLimits c.args.self.now = search rules in
    let same = ap (λ (s : WorldPartsValue). s.clients) c.self.view_is in
    client_waits c.args.roster.now c.args.self.now c.args.actor c.args.client c.args.now c.index.result.now within c.requires.role
    (read-at c.self.inside.clients.items c.args.self.now.clients c.args.client c.index.result.now same low c.index.ensures)
    (ap (λ (n : ℕ). is_clock n c.args.now) (sym c.clock.ensures) ∙ sym c.is_clock.ensures ∙ c.if-not-is_clock.true)

pub index_mut-requires : goal.index_mut-requires
index_mut-requires c =
    let low : c.args.client < length c.args.self.now.clients = client_there c.args.roster.now c.args.self.now c.args.actor c.args.client c.requires.some c.requires.role in
    search rules

pub returns-in_err-post-clause-long : goal.returns-in_err-post-clause-long
returns-in_err-post-clause-long c envelopes items e =
    let same = ap (λ (s : WorldPartsValue). s.clients) c.self.view_is in
    let low : c.args.client < length c.args.self.now.clients = client_there c.args.roster.now c.args.self.now c.args.actor c.args.client c.requires.some c.requires.role in
    let first = read-at c.self.inside.clients.items c.args.self.now.clients c.args.client c.index.result.now same low c.index.ensures in
    let read = read-at c.self.inside.clients.items c.args.self.now.clients c.args.client c.index_mut.result.now same low c.index_mut.ensures.value in
    let is : is_clock c.index_mut.result.now.clock c.args.now ≡ true =
    ap (λ (y : ClientValue). is_clock y.clock c.args.now) (read-twice c.args.self.now.clients c.args.client c.index_mut.result.now c.index.result.now read first)
    ∙ ap (λ (n : ℕ). is_clock n c.args.now) (sym c.clock.ensures) ∙ sym c.is_clock.ensures ∙ c.if-not-is_clock.false in
    would-pass c.args.roster.now c.args.self.now _ (event.Tick c.args.actor c.args.now) envelopes items
    (c.in_err-post.ensures.long envelopes items (handed_on c.from_residual-in_err-post.result c.in_err-post.field-0.0 (fault.TooLong envelopes items) c.from_residual-in_err-post.ensures.1 e))
    (client_ticked c.args.roster.now c.args.self.now _ c.args.actor c.args.client c.args.now c.index_mut.result.now c.tick.new.self c.in_ok-mails.mails.items c.in_ok-outs.outs.items c.requires.role
    read is c.in_ok-outs.ensures.after c.in_ok-outs.ensures.sends (search rules) c.in_ok-mails.ensures)

pub returns-clause-ok : goal.returns-clause-ok
returns-clause-ok c =
    let same = ap (λ (s : WorldPartsValue). s.clients) c.self.view_is in
    let low : c.args.client < length c.args.self.now.clients = client_there c.args.roster.now c.args.self.now c.args.actor c.args.client c.requires.some c.requires.role in
    let first = read-at c.self.inside.clients.items c.args.self.now.clients c.args.client c.index.result.now same low c.index.ensures in
    let read = read-at c.self.inside.clients.items c.args.self.now.clients c.args.client c.index_mut.result.now same low c.index_mut.ensures.value in
    let is : is_clock c.index_mut.result.now.clock c.args.now ≡ true =
    ap (λ (y : ClientValue). is_clock y.clock c.args.now) (read-twice c.args.self.now.clients c.args.client c.index_mut.result.now c.index.result.now read first)
    ∙ ap (λ (n : ℕ). is_clock n c.args.now) (sym c.clock.ensures) ∙ sym c.is_clock.ensures ∙ c.if-not-is_clock.false in
    posted_happened c.args.roster.now c.args.self.now _ c.post.new.self c.args.actor c.in_ok-mails.mails.items (event.Tick c.args.actor c.args.now) c.in_ok-post.ensures.ok c.in_ok-post.ensures.within
    (client_ticked c.args.roster.now c.args.self.now _ c.args.actor c.args.client c.args.now c.index_mut.result.now c.tick.new.self c.in_ok-mails.mails.items c.in_ok-outs.outs.items c.requires.role
    read is c.in_ok-outs.ensures.after c.in_ok-outs.ensures.sends (search rules) c.in_ok-mails.ensures)
