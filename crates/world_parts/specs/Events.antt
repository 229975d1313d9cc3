-- How contracts say what an event makes of all actors and envelopes.
use Rattle.std.specs.Prelude.{◌≡◌, ℕ, true, false, Some, slice_get}
use Rattle.dpc_model.specs.Actors.{role_of}
use Rattle.dpc_model.specs.declared.actors.Role.{Role}
use Rattle.dpc_model.specs.declared.messages.Event.{Event}
use Rattle.dpc_model.specs.declared.plans.Plan.{Plan}
use Rattle.world_model.specs.Worlds.{World, happens, link_up, sums_after, passes_limit}
use Rattle.law_safety.specs.Keeps.{IsFineWorld}
use Rattle.world_parts.specs.Parts.{WorldPartsValue, EnvelopeValue, StandsForWorld}

-- it stands for a plain world that is safe and orderly
pub record IsWorldOf (plan : Plan) (v : WorldPartsValue) (x : World) (most : ℕ) : Type 0 where
  pub stands : StandsForWorld plan v x
  pub fine : IsFineWorld x most

abbrev pub IsSomeWorld : Plan → WorldPartsValue → Type 0
IsSomeWorld plan v = (x : World) × (most : ℕ) × IsWorldOf plan v x most

-- envelope number k was sent to an actor that is this, over a link that is up
pub record IsComing (plan : Plan) (v : WorldPartsValue) (k : ℕ) (role : Role) : Type 0 where
  pub envelope : EnvelopeValue
  pub is : slice_get v.envelopes k ≡ Some envelope
  pub to : role_of plan envelope.to ≡ role
  pub linked : (x : World) → StandsForWorld plan v x → link_up x envelope.sender envelope.to ≡ true

-- whatever plain world it stood for, this stands for what the event leaves of that
abbrev pub Leads : Plan → WorldPartsValue → WorldPartsValue → Event → Type 0
Leads plan old v e = (x : World) (most : ℕ) → IsWorldOf plan old x most → StandsForWorld plan v (happens x e)

-- the event stayed within the limits, and it stands for what that leaves
pub record Happened (plan : Plan) (old new : WorldPartsValue) (e : Event) : Type 0 where
  pub within : (x : World) (most : ℕ) → IsWorldOf plan old x most → passes_limit x e ≡ false
  pub after : Leads plan old new e

-- the event would pass a limit, with these numbers
pub record WouldPass (plan : Plan) (old : WorldPartsValue) (e : Event) (envelopes items : ℕ) : Type 0 where
  pub passes : (x : World) (most : ℕ) → IsWorldOf plan old x most → passes_limit x e ≡ true
  pub envelopes_are : (x : World) (most : ℕ) → IsWorldOf plan old x most → (sums_after x e).envelopes ≡ envelopes
  pub items_are : (x : World) (most : ℕ) → IsWorldOf plan old x most → (sums_after x e).items ≡ items
