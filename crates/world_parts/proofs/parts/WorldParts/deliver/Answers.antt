use Rattle.std.proofs.Common.{◌≡◌, ℕ, rules, refl, ap, sym, ◌∙◌}
use Rattle.dpc_model.specs.Actors.{role_of}
use Rattle.dpc_model.specs.declared.actors.Role.{Role}
use Rattle.dpc_model.specs.declared.actors.Role.TheVariants as role
use Rattle.dpc_model.specs.declared.plans.Plan.{Plan}
use Rattle.world_model.specs.Worlds.{World, link_up}
use Rattle.world_parts.specs.Parts.{WorldPartsValue, EnvelopeValue}
use Rattle.world_parts.specs.Counting.{IsWithinLimits}
use Rattle.world_parts.proofs.PartFrames.{past_all, read_seen}
use Rattle.world_parts.proofs.Arrivals.{not_sent, link_down, to_nobody, is_coming}
use Rattle.world_parts.proofs.parts.WorldParts.deliver.Goals as goal

-- said of the numbers that were told of an envelope
same-tally : (x : World) (sender to : ℕ) (e : EnvelopeValue) → sender ≡ e.sender → to ≡ e.to → link_up x sender to ≡ link_up x e.sender e.to
same-tally x sender to e p q = ap (λ (a : ℕ). link_up x a to) p ∙ ap (λ (b : ℕ). link_up x e.sender b) q

same-role : (plan : Plan) (e : EnvelopeValue) (to : ℕ) (r : Role) → to ≡ e.to → role_of plan to ≡ r → role_of plan e.to ≡ r
same-role plan e to r is role = ap (λ (a : ℕ). role_of plan a) (sym is) ∙ role

pub returns-in_default-clause-ok : goal.returns-in_default-clause-ok
returns-in_default-clause-ok c =
    let within : IsWithinLimits c.args.self.now = search rules in
    let same = c.deref.ensures.value ∙ ap (λ (s : WorldPartsValue). s.envelopes) c.self.view_is in
    not_sent c.args.roster.now c.args.self.now c.args.k within (past_all c.deref.result.now c.args.self.now.envelopes c.args.k same c.in_default.ensures.lookup.3)

pub returns-then-not-link_up-clause-ok : goal.returns-then-not-link_up-clause-ok
returns-then-not-link_up-clause-ok c =
    let within : IsWithinLimits c.args.self.now = search rules in
    let same = c.deref.ensures.value ∙ ap (λ (s : WorldPartsValue). s.envelopes) c.self.view_is in
    let e = c.in-Some.envelope.now in
    let is = read_seen c.deref.result.now c.args.self.now.envelopes c.args.k e e same c.in-Some.ensures.lookup.3.0 c.in-Some.ensures.lookup.1 refl in
    link_down c.args.roster.now c.args.self.now c.args.k e within is (λ x h. sym c.if-not-link_up.true ∙ c.link_up.ensures x h ∙ same-tally x _ _ e c.sender.ensures c.to.ensures)

pub deliver_to_source-requires-clause-comes : goal.deliver_to_source-requires-clause-comes
deliver_to_source-requires-clause-comes c =
    let same = c.deref.ensures.value ∙ ap (λ (s : WorldPartsValue). s.envelopes) c.self.view_is in
    let e = c.in-Some.envelope.now in
    let is = read_seen c.deref.result.now c.args.self.now.envelopes c.args.k e e same c.in-Some.ensures.lookup.3.0 c.in-Some.ensures.lookup.1 refl in
    is_coming c.args.roster.now c.args.self.now c.args.k (role.Source c.in-Source.source) e is (λ x h. sym c.if-not-link_up.false ∙ c.link_up.ensures x h ∙ same-tally x _ _ e c.sender.ensures c.to.ensures) (same-role c.args.roster.now e _ _ c.to-2.ensures (sym c.role_of.ensures ∙ c.in-Source.is))

pub deliver_to_node-requires-clause-comes : goal.deliver_to_node-requires-clause-comes
deliver_to_node-requires-clause-comes c =
    let same = c.deref.ensures.value ∙ ap (λ (s : WorldPartsValue). s.envelopes) c.self.view_is in
    let e = c.in-Some.envelope.now in
    let is = read_seen c.deref.result.now c.args.self.now.envelopes c.args.k e e same c.in-Some.ensures.lookup.3.0 c.in-Some.ensures.lookup.1 refl in
    is_coming c.args.roster.now c.args.self.now c.args.k (role.Node c.in-Node.frag c.in-Node.replica) e is (λ x h. sym c.if-not-link_up.false ∙ c.link_up.ensures x h ∙ same-tally x _ _ e c.sender.ensures c.to.ensures) (same-role c.args.roster.now e _ _ c.to-2.ensures (sym c.role_of.ensures ∙ c.in-Node.is))

pub deliver_to_client-requires-clause-comes : goal.deliver_to_client-requires-clause-comes
deliver_to_client-requires-clause-comes c =
    let same = c.deref.ensures.value ∙ ap (λ (s : WorldPartsValue). s.envelopes) c.self.view_is in
    let e = c.in-Some.envelope.now in
    let is = read_seen c.deref.result.now c.args.self.now.envelopes c.args.k e e same c.in-Some.ensures.lookup.3.0 c.in-Some.ensures.lookup.1 refl in
    is_coming c.args.roster.now c.args.self.now c.args.k (role.Client c.in-Client.client) e is (λ x h. sym c.if-not-link_up.false ∙ c.link_up.ensures x h ∙ same-tally x _ _ e c.sender.ensures c.to.ensures) (same-role c.args.roster.now e _ _ c.to-2.ensures (sym c.role_of.ensures ∙ c.in-Client.is))

pub returns-in-Nobody-clause-ok : goal.returns-in-Nobody-clause-ok
returns-in-Nobody-clause-ok c =
    let within : IsWithinLimits c.args.self.now = search rules in
    let same = c.deref.ensures.value ∙ ap (λ (s : WorldPartsValue). s.envelopes) c.self.view_is in
    let e = c.in-Some.envelope.now in
    let is = read_seen c.deref.result.now c.args.self.now.envelopes c.args.k e e same c.in-Some.ensures.lookup.3.0 c.in-Some.ensures.lookup.1 refl in
    to_nobody c.args.roster.now c.args.self.now c.args.k within
    (is_coming c.args.roster.now c.args.self.now c.args.k role.Nobody e is (λ x h. sym c.if-not-link_up.false ∙ c.link_up.ensures x h ∙ same-tally x _ _ e c.sender.ensures c.to.ensures) (same-role c.args.roster.now e _ _ c.to-2.ensures (sym c.role_of.ensures ∙ c.in-Nobody.is)))
