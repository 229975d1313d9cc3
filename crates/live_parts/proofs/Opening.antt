-- One more of those that wait as a phase opens.
use Rattle.std.proofs.Common.{◌≡◌, ℕ, ◌+◌, ◌<◌, true, false, cond, List, [], ◌∷◌, ◌++◌, map, take, length, refl, sym, ap, ◌∙◌, slice_index_or}
use Rattle.std.specs.List.{filter}
use Rattle.std.proofs.lemmas.List.{take_more, map-append}
use Rattle.std.proofs.lemmas.List.Elements.{filter-append}
use Rattle.dpc_model.specs.declared.scripts.Directive.{Directive}
use Rattle.live_parts.specs.declared.inbox.Awaited.{Awaited}
use Rattle.live_parts.specs.Inboxes.{becomes_due, is_kept, opened}

pub opened_more : (t : ℕ) (ds : List Directive) (qs : List Awaited) (i : ℕ) (q : Awaited) → i < length qs → q ≡ slice_index_or qs i q →
    opened t ds (take (i + 1) qs) ≡ opened t ds (take i qs) ++ cond (is_kept t ds q) (becomes_due t ds q ∷ []) []
opened_more t ds qs i q low at =
    ap (opened t ds) (take_more qs i q low ∙ ap (λ (x : Awaited). take i qs ++ x ∷ []) (sym at))
    ∙ ap (map (becomes_due t ds)) (filter-append (is_kept t ds) (take i qs) (q ∷ []))
    ∙ map-append (becomes_due t ds) (filter (is_kept t ds) (take i qs)) (filter (is_kept t ds) (q ∷ []))
    ∙ ap (λ (xs : List Awaited). opened t ds (take i qs) ++ xs) alone
  where
    alone : map (becomes_due t ds) (filter (is_kept t ds) (q ∷ [])) ≡ cond (is_kept t ds q) (becomes_due t ds q ∷ []) []
    alone =
        (elim (is_kept t ds q) as (λ b. map (becomes_due t ds) (cond b (q ∷ []) []) ≡ cond b (becomes_due t ds q ∷ []) []) [
          | true ↦ refl
          | false ↦ refl
        ])
