-- The ends of envelopes, and how many there are.
use Rattle.std.proofs.Common.{◌≡◌, ℕ, length, sym, ap, ◌∙◌, Option, Some, None, slice_get}
use Rattle.std.specs.Prelude.{option_map}
use Rattle.dpc_model.specs.declared.plans.Plan.{Plan}
use Rattle.world_model.specs.Worlds.{World, Envelope}
use Rattle.world_parts.specs.Parts.{WorldPartsValue, EnvelopeValue, StandsForEnvelope, StandsForWorld}
use Rattle.world_parts.proofs.Arrivals.{zip-at, zip-none, zip-length}

pub ends_some : (plan : Plan) (v : WorldPartsValue) (x : World) (k : ℕ) (e : EnvelopeValue) → StandsForWorld plan v x → slice_get v.envelopes k ≡ Some e → ◌≡◌ {A = Option (ℕ × ℕ)} (Some (e.sender, e.to)) (option_map (λ (y : Envelope). (y.sender, y.to)) (slice_get x.envelopes k))
ends_some plan v x k e h at =
    let found = zip-at (StandsForEnvelope plan) v.envelopes x.envelopes k e h.envelopes at in
    let y = found.0 in
    let same : ◌≡◌ {A = Option (ℕ × ℕ)} (Some (e.sender, e.to)) (Some (y.sender, y.to)) = ap (λ (a : ℕ). Some (a, e.to)) found.2.sender ∙ ap (λ (b : ℕ). Some (y.sender, b)) found.2.to in
    same ∙ sym (ap (λ (o : Option Envelope). option_map (λ (z : Envelope). (z.sender, z.to)) o) found.1)

pub ends_none : (plan : Plan) (v : WorldPartsValue) (x : World) (k : ℕ) → StandsForWorld plan v x → slice_get v.envelopes k ≡ None → ◌≡◌ {A = Option (ℕ × ℕ)} None (option_map (λ (y : Envelope). (y.sender, y.to)) (slice_get x.envelopes k))
ends_none plan v x k h at = sym (ap (λ (o : Option Envelope). option_map (λ (z : Envelope). (z.sender, z.to)) o) (zip-none (StandsForEnvelope plan) v.envelopes x.envelopes k h.envelopes at))

pub envelopes_counted : (plan : Plan) (v : WorldPartsValue) (x : World) → StandsForWorld plan v x → length v.envelopes ≡ length x.envelopes
envelopes_counted plan v x h = zip-length (StandsForEnvelope plan) v.envelopes x.envelopes h.envelopes
