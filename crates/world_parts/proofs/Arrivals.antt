-- An envelope that comes: the plain one that it stands for, and what the event makes of the world.
use Rattle.std.proofs.Common.{◌≡◌, ℕ, zero, suc, Bool, true, false, cond, ◌&&◌, List, [], ◌∷◌, refl, sym, ap, subst, ◌∙◌, Option, Some, None, slice_get, length, get_or}
use Rattle.std.specs.List.{AllZip}
use Rattle.std.proofs.lemmas.Option.{get_or_from_slice_get}
use Rattle.dpc_model.specs.Actors.{role_of}
use Rattle.dpc_model.specs.declared.actors.Role.{Role}
use Rattle.dpc_model.specs.declared.actors.Role.TheVariants.{Nobody}
use Rattle.dpc_model.specs.declared.messages.Event.TheVariants.{Deliver}
use Rattle.dpc_model.specs.declared.plans.Plan.{Plan}
use Rattle.world_model.specs.Worlds.{World, Envelope, link_up, role_up, taken_by, comes, happens}
use Rattle.world_parts.specs.Parts.{WorldPartsValue, EnvelopeValue, StandsForSent, StandsForEnvelope, StandsForWorld}
use Rattle.world_parts.specs.Counting.{IsWithinLimits}
use Rattle.world_parts.specs.Events.{IsComing, Happened}
use Rattle.world_parts.proofs.PartFrames.{void}

-- an element of the one list has one of the other
pub zip-at : {A B : Type 0} (R : A → B → Type 0) (xs : List A) (ys : List B) (i : ℕ) (x : A) → AllZip R xs ys → slice_get xs i ≡ Some x → (y : B) × (slice_get ys i ≡ Some y) × R x y
zip-at R [] ys i x h e = cc
zip-at R (a ∷ xs) [] i x h e = absurd h
zip-at {A = A} {B = B} R (a ∷ xs) (b ∷ ys) zero x h e = let same : a ≡ x = cc in (b, refl, subst (λ (z : A). R z b) same h.0)
zip-at R (a ∷ xs) (b ∷ ys) (suc i) x h e = zip-at R xs ys i x h.1 e

-- where there is none in the one, there is none in the other
pub zip-none : {A B : Type 0} (R : A → B → Type 0) (xs : List A) (ys : List B) (i : ℕ) → AllZip R xs ys → slice_get xs i ≡ None → slice_get ys i ≡ None
zip-none R [] [] i h e = refl
zip-none R [] (b ∷ ys) i h e = absurd h
zip-none R (a ∷ xs) [] i h e = absurd h
zip-none R (a ∷ xs) (b ∷ ys) zero h e = cc
zip-none R (a ∷ xs) (b ∷ ys) (suc i) h e = zip-none R xs ys i h.1 e

pub zip-length : {A B : Type 0} (R : A → B → Type 0) (xs : List A) (ys : List B) → AllZip R xs ys → length xs ≡ length ys
zip-length R [] [] h = refl
zip-length R [] (b ∷ ys) h = absurd h
zip-length R (a ∷ xs) [] h = absurd h
zip-length R (a ∷ xs) (b ∷ ys) h = ap suc (zip-length R xs ys h.1)

-- an envelope over a link that is up is taken where its addressee is up
pub comes-to :
    (x : World) (k : ℕ) (y : Envelope) (role : Role) → slice_get x.envelopes k ≡ Some y → role_of x.plan y.to ≡ role → link_up x y.sender y.to ≡ true →
    happens x (Deliver k) ≡ cond (role_up x y.to role) (taken_by x y role) x
comes-to x k y role at is up =
    let taken : Role → Bool → World = λ r b. cond (b && role_up x y.to r) (taken_by x y r) x in
    ap (λ (o : Option Envelope). comes x o) at ∙ ap (λ (r : Role). taken r (link_up x y.sender y.to)) is ∙ ap (λ (b : Bool). taken role b) up

-- what an envelope that comes to this stands for
pub record Arrived (plan : Plan) (x : World) (k : ℕ) (e : EnvelopeValue) (role : Role) : Type 0 where
  pub plain : Envelope
  pub sender : e.sender ≡ plain.sender
  pub to : e.to ≡ plain.to
  pub packet : StandsForSent plan role e.packet plain.packet
  pub happens : happens x (Deliver k) ≡ cond (role_up x plain.to role) (taken_by x plain role) x

pub arrived : (plan : Plan) (v : WorldPartsValue) (x : World) (k : ℕ) (role : Role) → StandsForWorld plan v x → (c : IsComing plan v k role) → Arrived plan x k c.envelope role
arrived plan v x k role h c =
    let found = zip-at (StandsForEnvelope plan) v.envelopes x.envelopes k c.envelope h.envelopes c.is in
    let plain = found.0 in
    let stands = found.2 in
    let is : role_of plan plain.to ≡ role = subst (λ (a : ℕ). role_of plan a ≡ role) stands.to c.to in
    let here : role_of x.plan plain.to ≡ role = subst (λ (p : Plan). role_of p plain.to ≡ role) (sym h.plan_is) is in
    let up : link_up x plain.sender plain.to ≡ true = subst (λ (b : ℕ). link_up x plain.sender b ≡ true) stands.to (subst (λ (a : ℕ). link_up x a c.envelope.to ≡ true) stands.sender (c.linked x h)) in
    record {
      plain = plain;
      sender = stands.sender;
      to = stands.to;
      packet = subst (λ (r : Role). StandsForSent plan r c.envelope.packet plain.packet) is stands.packet;
      happens = comes-to x k plain role found.1 here up;
    }

-- the envelope at its place, as an index reads it
pub envelope-is :
    (plan : Plan) (v : WorldPartsValue) (k : ℕ) (role : Role) (es : List EnvelopeValue) (e : EnvelopeValue) → (c : IsComing plan v k role) → es ≡ v.envelopes → e ≡ get_or es k e → c.envelope ≡ e
envelope-is plan v k role es e c same read = sym (get_or_from_slice_get v.envelopes k c.envelope e c.is) ∙ ap (λ (ys : List EnvelopeValue). get_or ys k e) (sym same) ∙ sym read

-- ---- what changes nothing

-- an envelope that was not sent
pub not_sent : (plan : Plan) (v : WorldPartsValue) (k : ℕ) → IsWithinLimits v → slice_get v.envelopes k ≡ None → Happened plan v v (Deliver k)
not_sent plan v k within none =
    void plan v (Deliver k) within (λ x h. ap (λ (o : Option Envelope). comes x o) (zip-none (StandsForEnvelope plan) v.envelopes x.envelopes k h.envelopes none))

-- one whose link is not up
pub link_down :
    (plan : Plan) (v : WorldPartsValue) (k : ℕ) (e : EnvelopeValue) → IsWithinLimits v → slice_get v.envelopes k ≡ Some e → ((x : World) → StandsForWorld plan v x → false ≡ link_up x e.sender e.to) → Happened plan v v (Deliver k)
link_down plan v k e within is down = void plan v (Deliver k) within stays
  where
    stays : (x : World) → StandsForWorld plan v x → happens x (Deliver k) ≡ x
    stays x h =
        let found = zip-at (StandsForEnvelope plan) v.envelopes x.envelopes k e h.envelopes is in
        let y = found.0 in
        let low : link_up x y.sender y.to ≡ false = subst (λ (b : ℕ). link_up x y.sender b ≡ false) found.2.to (subst (λ (a : ℕ). link_up x a e.to ≡ false) found.2.sender (sym (down x h))) in
        ap (λ (o : Option Envelope). comes x o) found.1 ∙ ap (λ (b : Bool). cond (b && role_up x y.to (role_of x.plan y.to)) (taken_by x y (role_of x.plan y.to)) x) low

-- one to nobody
pub to_nobody : (plan : Plan) (v : WorldPartsValue) (k : ℕ) → IsWithinLimits v → IsComing plan v k Nobody → Happened plan v v (Deliver k)
to_nobody plan v k within c = void plan v (Deliver k) within (λ x h. (arrived plan v x k Nobody h c).happens)

-- one that was read comes over a link that is up
pub is_coming :
    (plan : Plan) (v : WorldPartsValue) (k : ℕ) (role : Role) (e : EnvelopeValue) → slice_get v.envelopes k ≡ Some e → ((x : World) → StandsForWorld plan v x → true ≡ link_up x e.sender e.to) → role_of plan e.to ≡ role →
    IsComing plan v k role
is_coming plan v k role e is up to = record { envelope = e; is = is; to = to; linked = λ x h. sym (up x h) }
