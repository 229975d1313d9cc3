use Rattle.std.proofs.Common.{◌≡◌, ◌∙◌, ℕ, Option, Some, refl, ap}
use Rattle.world_parts.specs.Parts.{WorldPartsValue, EnvelopeValue}
use Rattle.world_parts.proofs.PartFrames.{past_all, read_seen}
use Rattle.world_parts.proofs.EnvelopeEnds.{ends_some, ends_none}
use Rattle.world_parts.proofs.parts.WorldParts.ends.Goals as goal

pub returns-in_err-envelope : goal.returns-in_err-envelope
returns-in_err-envelope c plan x h =
    let same = c.deref.ensures.value ∙ ap (λ (s : WorldPartsValue). s.envelopes) c.self.view_is in
    c.from_residual.ensures ∙ ends_none plan c.args.self.now x c.args.k h (past_all c.deref.result.now c.args.self.now.envelopes c.args.k same c.in_err-envelope.ensures.lookup.3)

pub returns : goal.returns
returns c plan x h =
    let same = c.deref.ensures.value ∙ ap (λ (s : WorldPartsValue). s.envelopes) c.self.view_is in
    let e : EnvelopeValue = c.in_ok-envelope.envelope.now in
    let at : ◌≡◌ {A = Option (ℕ × ℕ)} (Some (c.sender.result, c.to.result)) (Some (e.sender, e.to)) = ap (λ (a : ℕ). Some (a, c.to.result)) c.sender.ensures ∙ ap (λ (b : ℕ). Some (e.sender, b)) c.to.ensures in
    at ∙ ends_some plan c.args.self.now x c.args.k e h
    (read_seen c.deref.result.now c.args.self.now.envelopes c.args.k e c.in_ok-envelope.envelope.now same c.in_ok-envelope.ensures.lookup.3.0 c.in_ok-envelope.ensures.lookup.1 refl)
