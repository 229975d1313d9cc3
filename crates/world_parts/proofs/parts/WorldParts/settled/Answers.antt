use Rattle.std.proofs.Common.{◌≤◌, List, ◌∙◌, refl, ap, subst, length}
use Rattle.client_fold.specs.Folding.{ClientValue}
use Rattle.world_parts.specs.Parts.{WorldPartsValue}
use Rattle.world_parts.proofs.PartFrames.{read_seen}
use Rattle.world_parts.proofs.SettledClients.{one_waits, one_more, all_told}
use Rattle.world_parts.proofs.parts.WorldParts.settled.Goals as goal

pub returns-then-not-settled : goal.returns-then-not-settled
returns-then-not-settled c plan x h =
    let same = c.deref-client-items.ensures.value ∙ ap (λ (s : WorldPartsValue). s.clients) c.self.view_is in
    let at = read_seen c.deref-client-items.result.now c.args.self.now.clients c.loop-client.client-index c.client-item.result c.client-item.result same c.loop-client-test.true c.client-item.is refl in
    one_waits plan c.args.self.now x c.loop-client.client-index c.client-item.result c.settled.result h at c.settled.ensures.stands c.if-not-settled.true

pub loop-client-preserved : goal.loop-client-preserved
loop-client-preserved c plan x h =
    let same = c.deref-client-items.ensures.value ∙ ap (λ (s : WorldPartsValue). s.clients) c.self.view_is in
    let at = read_seen c.deref-client-items.result.now c.args.self.now.clients c.loop-client.client-index c.client-item.result c.client-item.result same c.loop-client-test.true c.client-item.is refl in
    one_more plan c.args.self.now x c.loop-client.client-index c.client-item.result c.settled.result h at c.settled.ensures.stands c.if-not-settled.false (c.loop-client.invariant plan x h)

pub returns : goal.returns
returns c plan x h =
    let same = c.deref-client-items.ensures.value ∙ ap (λ (s : WorldPartsValue). s.clients) c.self.view_is in
    all_told plan c.args.self.now x c.loop-client.client-index h (subst (λ (vs : List ClientValue). length vs ≤ c.loop-client.client-index) same c.loop-client-test.false) (c.loop-client.invariant plan x h)
