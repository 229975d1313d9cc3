-- The first of its way, asked by the ends of its envelope; what a phase and an event leave of all lists.
use Rattle.std.proofs.Common.{◌≡◌, ℕ, false, ◌==◌, List, [], ◌∷◌, refl, sym, ap, ◌∙◌, Option, Some, None, slice_get}
use Rattle.std.specs.Prelude.{option_map}
use Rattle.dpc_lists.specs.Lists.{nth}
use Rattle.world_model.specs.Worlds.{World, Envelope}
use Rattle.world_model.specs.Schedules.{Undelivered, same_way, is_first_of_its_way}
use Rattle.live_parts.specs.declared.inbox.Awaited.{Awaited}
use Rattle.live_parts.specs.Inboxes.{first_that, is_first_from, StandsForWaiting}
use Rattle.live_parts.proofs.Firsts.{first-of}
use Rattle.live_parts.proofs.Filing.{first-way-filed}

abbrev pub ends : Option Envelope → Option (ℕ × ℕ)
ends o = option_map (λ (e : Envelope). (e.sender, e.to)) o

never : (w : World) (k : ℕ) (xs : List Undelivered) → first_that (λ (x : Undelivered). same_way None (slice_get w.envelopes x.number)) (λ (x : Undelivered). x.number == k) xs ≡ false
never w k [] = refl
never w k (x ∷ xs) = never w k xs

pub ends_none : (w : World) (k : ℕ) (xs : List Undelivered) → ends (slice_get w.envelopes k) ≡ None → false ≡ is_first_of_its_way w k xs
ends_none w k xs h = by-envelope (slice_get w.envelopes k) refl h
  where
    by-envelope : (o : Option Envelope) → slice_get w.envelopes k ≡ o → ends o ≡ None → false ≡ is_first_of_its_way w k xs
    by-envelope (Some e) there g = cc
    by-envelope None there g =
        sym (never w k xs)
        ∙ ap (λ (o : Option Envelope). first_that (λ (x : Undelivered). same_way o (slice_get w.envelopes x.number)) (λ (x : Undelivered). x.number == k) xs) (sym there)
        ∙ sym (first-of (λ (x : Undelivered). same_way (slice_get w.envelopes k) (slice_get w.envelopes x.number)) (λ (x : Undelivered). x.number == k) xs)

pub ends_some : (boxes : List (List Awaited)) (w : World) (k s t : ℕ) (xs : List Undelivered) → StandsForWaiting boxes w xs → ◌≡◌ {A = Option (ℕ × ℕ)} (ends (slice_get w.envelopes k)) (Some (s, t)) →
    is_first_from s k (nth [] boxes t) ≡ is_first_of_its_way w k xs
ends_some boxes w k s t xs stands h = by-envelope (slice_get w.envelopes k) refl h
  where
    by-envelope : (o : Option Envelope) → slice_get w.envelopes k ≡ o → ◌≡◌ {A = Option (ℕ × ℕ)} (ends o) (Some (s, t)) → is_first_from s k (nth [] boxes t) ≡ is_first_of_its_way w k xs
    by-envelope None there g = cc
    by-envelope (Some e) there g =
        let same : ◌≡◌ {A = ℕ × ℕ} (e.sender, e.to) (s, t) = cc in
        ap (λ (p : ℕ × ℕ). is_first_from p.0 k (nth [] boxes p.1)) (sym same) ∙ ap (is_first_from e.sender k) (stands.each e.to) ∙ first-way-filed w k e xs there
