-- What waits at an actor, as deliveries.
use Rattle.std.proofs.Common.{◌≡◌, ℕ, ◌+◌, ◌<◌, true, false, cond, List, [], ◌∷◌, ◌++◌, map, flat_map, take, length, refl, sym, ap, ◌∙◌, append-nil, slice_get, slice_index_or}
use Rattle.std.specs.List.{filter}
use Rattle.std.proofs.lemmas.List.{take_more}
use Rattle.std.proofs.lemmas.Grind.{flat_map-append}
use Rattle.world_model.specs.Worlds.{World}
use Rattle.world_model.specs.Schedules.{Undelivered}
use Rattle.live_parts.specs.declared.due.Due.{Due}
use Rattle.live_parts.specs.declared.inbox.Awaited.{Awaited}
use Rattle.live_parts.specs.Inboxes.{goes_to, awaited, waiting_at}
use Rattle.live_parts.specs.Dues.{deliveries, is_due_now, deliveries_of, deliveries_in, deliveries_to}

-- with one more of those that wait
pub deliveries_more : (w : World) (a : ℕ) (qs : List Awaited) (i : ℕ) (q : Awaited) → i < length qs → q ≡ slice_index_or qs i q →
    deliveries_in w a (take (i + 1) qs) ≡ deliveries_in w a (take i qs) ++ deliveries_of w a q
deliveries_more w a qs i q low at =
    ap (deliveries_in w a) (take_more qs i q low ∙ ap (λ (x : Awaited). take i qs ++ x ∷ []) (sym at))
    ∙ flat_map-append (deliveries_of w a) (take i qs) (q ∷ [])
    ∙ ap (λ (ds : List Due). deliveries_in w a (take i qs) ++ ds) (append-nil (deliveries_of w a q))

pub due-at : (w : World) (a : ℕ) (xs : List Undelivered) → deliveries_in w a (waiting_at w xs a) ≡ flat_map (deliveries_to w a) xs
due-at w a [] = refl
due-at w a (x ∷ xs) =
    let its : List Due = cond (is_due_now w x) (deliveries a x.number x.left) [] in
    let rest : List Undelivered = filter (λ (y : Undelivered). goes_to a (slice_get w.envelopes y.number)) xs in
    elim (goes_to a (slice_get w.envelopes x.number))
    as (λ b. deliveries_in w a (map (awaited w) (cond b (x ∷ rest) rest)) ≡ cond b its [] ++ flat_map (deliveries_to w a) xs) [
      | true ↦ ap (λ (ds : List Due). its ++ ds) (due-at w a xs)
      | false ↦ due-at w a xs
    ]
