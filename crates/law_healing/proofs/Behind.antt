-- What directives leave, one after another: each cut link and each node that is down was cut, or crashed, by one of them.
use Rattle.std.proofs.Common.{◌≡◌, ℕ, Bool, true, false, not, cond, ◌&&◌, ◌||◌, ◌==◌, List, [], ◌∷◌, ◌++◌, refl, sym, ap, subst, ◌∙◌, ◌⊎◌, inl, inr}
use Rattle.std.specs.Prelude.{fold}
use Rattle.std.specs.List.{filter}
use Rattle.std.proofs.lemmas.List.Sums.{fold-append}
use Rattle.std.proofs.lemmas.List.Folds.{list_any-append}
use Rattle.dpc_lists.specs.Lists.{list_all, list_any}
use Rattle.dpc_model.specs.declared.plans.Plan.{Plan}
use Rattle.dpc_model.specs.declared.scripts.Directive.{Directive}
use Rattle.dpc_model.specs.declared.scripts.Directive.TheVariants as directive
use Rattle.world_model.specs.Schedules.{has_event}
use Rattle.dpc_lists.proofs.Truths.{both, eq-of, not-of, or-of}
use Rattle.world_model.specs.Worlds.{same_pair}
use Rattle.law_healing.specs.Healing.{cut_behind, down_behind, releases_all, is_mended}

-- ---- one directive more

pub fold-push : (f : Bool → Directive → Bool) (was : Bool) (ds : List Directive) (d : Directive) → fold f was (ds ++ d ∷ []) ≡ f (fold f was ds) d
fold-push f was ds d = fold-append f was ds (d ∷ [])

pub any-push : (test : Directive → Bool) (ds : List Directive) (d : Directive) → list_any test (ds ++ d ∷ []) ≡ true → (list_any test ds ≡ true) ⊎ (test d ≡ true)
any-push test ds d e =
    elim (or-of (list_any test ds) (test d || false) (sym (list_any-append test ds (d ∷ [])) ∙ e)) [
      | inl old ↦ inl old
      | inr new ↦ inr (elim (or-of (test d) false new) [ inl it ↦ it | inr never ↦ cc ])
    ]

-- ---- directives without an event count for nothing

fold-events : (f : Bool → Directive → Bool) → ((was : Bool) (d : Directive) → has_event d ≡ false → f was d ≡ was) → (was : Bool) (ds : List Directive) → fold f was (filter has_event ds) ≡ fold f was ds
fold-events f same was [] = refl
fold-events f same was (d ∷ ds) =
    (elim (has_event d) as (λ t. has_event d ≡ t → fold f was (cond t (d ∷ filter has_event ds) (filter has_event ds)) ≡ fold f (f was d) ds) [
      | true ↦ λ e. fold-events f same (f was d) ds
      | false ↦ λ e. fold-events f same was ds ∙ ap (λ (b : Bool). fold f b ds) (sym (same was d e))
    ]) refl

idle-cut : (a b : ℕ) (was : Bool) (d : Directive) → has_event d ≡ false → cut_behind a b was d ≡ was
idle-cut a b was (directive.Lose c e) h = refl
idle-cut a b was (directive.Repeat c e) h = refl
idle-cut a b was (directive.Emit s t) h = cc
idle-cut a b was (directive.Release s t) h = cc
idle-cut a b was (directive.Cut c e) h = cc
idle-cut a b was (directive.Heal c e) h = cc
idle-cut a b was (directive.Crash c) h = cc
idle-cut a b was (directive.Restart c) h = cc

idle-down : (a : ℕ) (was : Bool) (d : Directive) → has_event d ≡ false → down_behind a was d ≡ was
idle-down a was (directive.Lose c e) h = refl
idle-down a was (directive.Repeat c e) h = refl
idle-down a was (directive.Emit s t) h = cc
idle-down a was (directive.Release s t) h = cc
idle-down a was (directive.Cut c e) h = cc
idle-down a was (directive.Heal c e) h = cc
idle-down a was (directive.Crash c) h = cc
idle-down a was (directive.Restart c) h = cc

idle-release : (plan : Plan) (s : ℕ) (d : Directive) → has_event d ≡ false → releases_all plan s d ≡ false
idle-release plan s (directive.Lose c e) h = refl
idle-release plan s (directive.Repeat c e) h = refl
idle-release plan s (directive.Emit u t) h = cc
idle-release plan s (directive.Release u t) h = cc
idle-release plan s (directive.Cut c e) h = cc
idle-release plan s (directive.Heal c e) h = cc
idle-release plan s (directive.Crash c) h = cc
idle-release plan s (directive.Restart c) h = cc

pub release-events : (plan : Plan) (s : ℕ) (ds : List Directive) → list_any (releases_all plan s) (filter has_event ds) ≡ list_any (releases_all plan s) ds
release-events plan s [] = refl
release-events plan s (d ∷ ds) =
    (elim (has_event d) as (λ t. has_event d ≡ t → list_any (releases_all plan s) (cond t (d ∷ filter has_event ds) (filter has_event ds)) ≡ (releases_all plan s d || list_any (releases_all plan s) ds)) [
      | true ↦ λ e. ap (λ (b : Bool). releases_all plan s d || b) (release-events plan s ds)
      | false ↦ λ e. release-events plan s ds ∙ ap (λ (b : Bool). b || list_any (releases_all plan s) ds) (sym (idle-release plan s d e))
    ]) refl

-- ---- what is cut, or down, was made so

cut-here : (q : Directive → Bool) (a b : ℕ) (was : Bool) (d : Directive) → q d ≡ true → cut_behind a b was d ≡ true → (was ≡ true) ⊎ (q (directive.Cut a b) ≡ true)
cut-here q a b was (directive.Cut c e) h now =
    elim (or-of was (c == a && e == b) now) [
      | inl before ↦ inl before
      | inr here ↦
          let parts = both (c == a) (e == b) here in
          inr (subst (λ (y : ℕ). q (directive.Cut a y) ≡ true) (eq-of e b parts.1) (subst (λ (x : ℕ). q (directive.Cut x e) ≡ true) (eq-of c a parts.0) h))
    ]
cut-here q a b was (directive.Heal c e) h now = inl (both was (not (same_pair c e (a, b))) now).0
cut-here q a b was (directive.Lose c e) h now = inl now
cut-here q a b was (directive.Repeat c e) h now = inl now
cut-here q a b was (directive.Emit s t) h now = inl now
cut-here q a b was (directive.Release s t) h now = inl now
cut-here q a b was (directive.Crash c) h now = inl now
cut-here q a b was (directive.Restart c) h now = inl now

cut-by : (q : Directive → Bool) (a b : ℕ) (was : Bool) (ds : List Directive) → list_all q ds ≡ true → fold (cut_behind a b) was ds ≡ true → (was ≡ true) ⊎ (q (directive.Cut a b) ≡ true)
cut-by q a b was [] h now = inl now
cut-by q a b was (d ∷ ds) h now =
    let p = both (q d) (list_all q ds) h in
    elim (cut-by q a b (cut_behind a b was d) ds p.1 now) [ inl before ↦ cut-here q a b was d p.0 before | inr cut ↦ inr cut ]

down-here : (q : Directive → Bool) (a : ℕ) (was : Bool) (d : Directive) → q d ≡ true → down_behind a was d ≡ true → (was ≡ true) ⊎ (q (directive.Crash a) ≡ true)
down-here q a was (directive.Crash c) h now =
    elim (or-of was (c == a) now) [
      | inl before ↦ inl before
      | inr here ↦ inr (subst (λ (x : ℕ). q (directive.Crash x) ≡ true) (eq-of c a here) h)
    ]
down-here q a was (directive.Restart c) h now = inl (both was (not (c == a)) now).0
down-here q a was (directive.Lose c e) h now = inl now
down-here q a was (directive.Repeat c e) h now = inl now
down-here q a was (directive.Emit s t) h now = inl now
down-here q a was (directive.Release s t) h now = inl now
down-here q a was (directive.Cut c e) h now = inl now
down-here q a was (directive.Heal c e) h now = inl now

down-by : (q : Directive → Bool) (a : ℕ) (was : Bool) (ds : List Directive) → list_all q ds ≡ true → fold (down_behind a) was ds ≡ true → (was ≡ true) ⊎ (q (directive.Crash a) ≡ true)
down-by q a was [] h now = inl now
down-by q a was (d ∷ ds) h now =
    let p = both (q d) (list_all q ds) h in
    elim (down-by q a (down_behind a was d) ds p.1 now) [ inl before ↦ down-here q a was d p.0 before | inr crash ↦ inr crash ]

-- so where each directive is mended, no link is cut and no node is down behind those that have events
pub none-cut : (ds : List Directive) (a b : ℕ) → list_all (is_mended ds) ds ≡ true → fold (cut_behind a b) false (filter has_event ds) ≡ true → ⊥
none-cut ds a b mended cut =
    let now : fold (cut_behind a b) false ds ≡ true = sym (fold-events (cut_behind a b) (idle-cut a b) false ds) ∙ cut in
    elim (cut-by (is_mended ds) a b false ds mended now) [
      | inl never ↦ cc
      | inr m ↦ let clash : false ≡ true = sym (not-of (fold (cut_behind a b) false ds) m) ∙ now in cc
    ]

pub none-down : (ds : List Directive) (a : ℕ) → list_all (is_mended ds) ds ≡ true → fold (down_behind a) false (filter has_event ds) ≡ true → ⊥
none-down ds a mended down =
    let now : fold (down_behind a) false ds ≡ true = sym (fold-events (down_behind a) (idle-down a) false ds) ∙ down in
    elim (down-by (is_mended ds) a false ds mended now) [
      | inl never ↦ cc
      | inr m ↦ let clash : false ≡ true = sym (not-of (fold (down_behind a) false ds) m) ∙ now in cc
    ]
