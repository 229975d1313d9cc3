-- A link is cut, and is up again.
use Rattle.std.proofs.Common.{◌≡◌, ℕ, Bool, true, false, not, cond, List, filter, refl, sym, ap, subst}
use Rattle.dpc_lists.specs.Lists.{push}
use Rattle.dpc_model.specs.declared.messages.Event.TheVariants.{Cut, Heal}
use Rattle.dpc_model.specs.declared.plans.Plan.{Plan}
use Rattle.world_model.specs.Worlds.{World, same_pair, link_up}
use Rattle.world_parts.specs.Parts.{WorldPartsValue, StandsForWorld}
use Rattle.world_parts.specs.Counting.{IsWithinLimits}
use Rattle.world_parts.specs.Events.{Happened}
use Rattle.world_parts.proofs.PartFrames.{with-cuts, unsent, void}

pub is_cut :
    (plan : Plan) (v new : WorldPartsValue) (a b : ℕ) → IsWithinLimits v → record v { cuts = push v.cuts (a, b) } ≡ new → ((x : World) → StandsForWorld plan v x → true ≡ link_up x a b) →
    Happened plan v new (Cut a b)
is_cut plan v new a b within is up =
    subst (λ (n : WorldPartsValue). Happened plan v n (Cut a b)) is
    (unsent plan v (record v { cuts = push v.cuts (a, b) }) (Cut a b) within refl refl
    (λ x most h. subst (λ (c : Bool). StandsForWorld plan (record v { cuts = push v.cuts (a, b) }) (cond c (record x { cuts = push x.cuts (a, b) }) x)) (up x h.stands)
    (with-cuts plan v x (push v.cuts (a, b)) (push x.cuts (a, b)) h.stands (ap (λ (ps : List (ℕ × ℕ)). push ps (a, b)) h.stands.cuts))))

pub stays_cut : (plan : Plan) (v : WorldPartsValue) (a b : ℕ) → IsWithinLimits v → ((x : World) → StandsForWorld plan v x → false ≡ link_up x a b) → Happened plan v v (Cut a b)
stays_cut plan v a b within down =
    void plan v (Cut a b) within (λ x h. ap (λ (c : Bool). cond c (record x { cuts = push x.cuts (a, b) }) x) (sym (down x h)))

pub is_healed :
    (plan : Plan) (v new : WorldPartsValue) (a b : ℕ) → IsWithinLimits v → record v { cuts = filter (λ p. not (same_pair a b p)) v.cuts } ≡ new → Happened plan v new (Heal a b)
is_healed plan v new a b within is =
    let keep = λ (ps : List (ℕ × ℕ)). filter (λ p. not (same_pair a b p)) ps in
    subst (λ (n : WorldPartsValue). Happened plan v n (Heal a b)) is
    (unsent plan v (record v { cuts = keep v.cuts }) (Heal a b) within refl refl (λ x most h. with-cuts plan v x (keep v.cuts) (keep x.cuts) h.stands (ap keep h.stands.cuts)))
