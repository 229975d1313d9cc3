-- The places of a line, by the limits of a draft.
use Rattle.std.proofs.Common.{◌≡◌, true, false, [], ◌∷◌, refl, sym, ap, ◌∙◌}
use Rattle.script_rules.specs.Drafts.{Draft, is_wide}
use Rattle.script_rules.specs.Places.{must, header_sorts, places_of}
use Rattle.script_rules.specs.declared.keywords.Keyword.{Keyword}
use Rattle.script_rules.specs.declared.keywords.Keyword.TheVariants as key
use Rattle.script_rules.specs.declared.places.Sort.TheVariants.{Anything}
use Rattle.dpc_lists.specs.Lists.{nth}
use Rattle.script_words.specs.Limits.{HasLimits, draft_with, places_by}
use Rattle.script_words.specs.declared.places.Limits.{Limits}

wide_with : (l : Limits) → is_wide (draft_with l) ≡ l.wide
wide_with l = elim l.wide as (λ b. is_wide (draft_with (record l { wide = b })) ≡ b) [ true ↦ refl | false ↦ refl ]

same_wide : (d : Draft) (l : Limits) → HasLimits d l → is_wide (draft_with l) ≡ is_wide d
same_wide d l h = wide_with l ∙ sym h.wide

same_header : (d : Draft) (l : Limits) → HasLimits d l → header_sorts (draft_with l) ≡ header_sorts d
same_header d l h = rw (same_wide d l h, h.width) refl

-- a draft's limits say what stands where
pub same_places : (d : Draft) (l : Limits) (k : Keyword) → HasLimits d l → places_by l k ≡ places_of d k
same_places d l (key.Header place) h = ap (λ sorts. must (nth Anything sorts place) ∷ []) (same_header d l h)
same_places d l key.Source h = refl
same_places d l key.Log h = refl
same_places d l key.Fragment h = refl
same_places d l key.Patience h = refl
same_places d l key.Filter h = refl
same_places d l key.Map h = refl
same_places d l key.Union h = refl
same_places d l key.Join h = rw (same_wide d l h) refl
same_places d l key.Aggregate h = rw (same_wide d l h) refl
same_places d l key.Client h = refl
same_places d l key.Begin h = refl
same_places d l key.Emit h = rw h.end refl
same_places d l key.Release h = rw h.end refl
same_places d l key.Cut h = refl
same_places d l key.Heal h = refl
same_places d l key.Lose h = refl
same_places d l key.Repeat h = refl
same_places d l key.Crash h = refl
same_places d l key.Restart h = refl
same_places d l key.Tick h = refl
same_places d l key.Settle h = refl
