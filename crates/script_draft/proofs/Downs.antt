-- The nodes that are down, behind a further directive.
use Rattle.std.proofs.Common.{◌≡◌, ℕ, Bool, true, false, List, [], ◌∷◌, ◌++◌, refl, sym, ap, ◌∙◌, arith}
use Rattle.std.specs.Prelude.{filter, fold, flat_map, not, ◌||◌, ◌==◌}
use Rattle.std.proofs.lemmas.Bool.{eqb-true}
use Rattle.std.proofs.lemmas.Bool.Decides.{nat_tests}
use Rattle.std.proofs.lemmas.List.{append-nil, append_assoc}
use Rattle.std.proofs.lemmas.List.Folds.{list_any-append}
use Rattle.std.proofs.lemmas.List.Sums.{fold-append}
use Rattle.std.proofs.lemmas.Grind.{flat_map-append}
use Rattle.std.proofs.lemmas.Map.Views.{any-filter_same}
use Rattle.dpc_lists.specs.Lists.{has}
use Rattle.dpc_model.specs.declared.scripts.Directive.{Directive}
use Rattle.dpc_model.specs.declared.scripts.Directive.TheVariants.{Crash, Restart}
use Rattle.dpc_model.specs.declared.scripts.Phase.{Phase}
use Rattle.dpc_lists.proofs.Truths.{or-none}
use Rattle.script_rules.specs.Reasons.{down_after}
use Rattle.script_draft.specs.Caches.{AreDown}

-- a directive that makes these of those that were down
pub down-push : (phases : List Phase) (xs : List Directive) (x : Directive) (down now : List ℕ) → AreDown phases xs down → ((a : ℕ) → has now a ≡ down_after a (has down a) x) → AreDown phases (xs ++ x ∷ []) now
down-push phases xs x down now h step a =
    let said = flat_map (λ (p : Phase). p.directives) phases in
    step a ∙ ap (λ b. down_after a b x) (h a) ∙ sym (fold-append (down_after a) false (said ++ xs) (x ∷ [])) ∙ ap (fold (down_after a) false) (append_assoc said xs (x ∷ []))

pub has-push : (down : List ℕ) (n a : ℕ) → has (down ++ n ∷ []) a ≡ (has down a || n == a)
has-push down n a = list_any-append (λ x. x == a) down (n ∷ []) ∙ ap (λ b. has down a || b) (or-none (n == a))

or_swap : (b c : Bool) → (b || c) ≡ (c || b)
or_swap true true = refl
or_swap true false = refl
or_swap false true = refl
or_swap false false = refl

eq_swap : (m n : ℕ) → (m == n) ≡ (n == m)
eq_swap m n = grind (arith, nat_tests)

pub down-crash : (phases : List Phase) (xs : List Directive) (n : ℕ) (down : List ℕ) → AreDown phases xs down → AreDown phases (xs ++ Crash n ∷ []) (down ++ n ∷ [])
down-crash phases xs n down h = down-push phases xs (Crash n) down (down ++ n ∷ []) h (λ a. has-push down n a ∙ or_swap (has down a) (n == a) ∙ ap (λ b. b || has down a) (eq_swap n a))

pub down-restart : (phases : List Phase) (xs : List Directive) (n : ℕ) (down : List ℕ) → AreDown phases xs down → AreDown phases (xs ++ Restart n ∷ []) (filter (λ x. not (x == n)) down)
down-restart phases xs n down h =
    down-push phases xs (Restart n) down (filter (λ x. not (x == n)) down) h (λ a. any-filter_same (λ x. x == a) (λ x. not (x == n)) (not (a == n)) (λ x k. let same : x ≡ a = eqb-true x a k in ap (λ m. not (m == n)) same) down)

-- a tick ends a phase
pub down-tick : (phases : List Phase) (xs : List Directive) (now : ℕ) (down : List ℕ) → AreDown phases xs down → AreDown (phases ++ record { directives = xs; now = now } ∷ []) [] down
down-tick phases xs now down h a =
    let said = λ (ps : List Phase). flat_map (λ (p : Phase). p.directives) ps in
    h a ∙ ap (fold (down_after a) false) (sym (append-nil (said (phases ++ record { directives = xs; now = now } ∷ []))
    ∙ flat_map-append (λ (p : Phase). p.directives) phases (record { directives = xs; now = now } ∷ []) ∙ ap (λ l. said phases ++ l) (append-nil xs)))
