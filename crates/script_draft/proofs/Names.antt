-- Where a name stands among several.
use Rattle.std.proofs.Common.{subst, ◌≡◌, ℕ, zero, suc, ◌+◌, ◌<◌, Bool, true, false, List, [], ◌∷◌, map, take, length, Option, Some, None, refl, sym, ap, ◌∙◌, arith, get_or}
use Rattle.std.specs.Prelude.{bytes_eq, is_some, flat_map, ◌||◌}
use Rattle.std.proofs.lemmas.List.{length-map}
use Rattle.std.proofs.lemmas.List.Folds.{list_any-append, list_any_more}
use Rattle.dpc_model.specs.declared.plans.FragSpec.{FragSpec}
use Rattle.script_rules.proofs.Apart.{among_neither}
use Rattle.std.proofs.lemmas.Bool.{or_parts}
use Rattle.dpc_lists.specs.Lists.{list_any}
use Rattle.dpc_model.specs.Words.{Word}
use Rattle.dpc_lists.proofs.Truths.{or-true}
use Rattle.script_rules.specs.Drafts.{place_of_name, op_names}
use Rattle.script_rules.specs.Reasons.{is_among}

-- the i-th one is the first of that name
pub place-here : {X : Type 0} (f : X → Word) (w : Word) (i : ℕ) (x d : X) (xs : List X) → i < length xs → x ≡ get_or xs i d → is_among w (map f (take i xs)) ≡ false →
    bytes_eq w (f x) ≡ true → place_of_name w (map f xs) ≡ Some i
place-here f w i x d [] low is h k = absurd (omega (arith, low))
place-here f w zero x d (y ∷ ys) low is h k = let e : bytes_eq w (f y) ≡ true = subst (λ z. bytes_eq w (f z) ≡ true) is k in rw e refl
place-here f w (suc i) x d (y ∷ ys) low is h k =
    let p = or_parts (bytes_eq w (f y)) (is_among w (map f (take i ys))) h in
    rw (p.0, place-here f w i x d ys (omega (arith, low)) is p.1 k) refl

-- none of the first ones is of that name, nor the next one
pub none-next : {X : Type 0} (f : X → Word) (w : Word) (i : ℕ) (x d : X) (xs : List X) → i < length xs → x ≡ get_or xs i d → is_among w (map f (take i xs)) ≡ false →
    bytes_eq w (f x) ≡ false → is_among w (map f (take (i + 1) xs)) ≡ false
none-next f w i x d [] low is h k = absurd (omega (arith, low))
none-next f w zero x d (y ∷ ys) low is h k = let e : bytes_eq w (f y) ≡ false = subst (λ z. bytes_eq w (f z) ≡ false) is k in rw e refl
none-next f w (suc i) x d (y ∷ ys) low is h k =
    let p = or_parts (bytes_eq w (f y)) (is_among w (map f (take i ys))) h in
    let next : suc i + 1 ≡ suc (i + 1) = omega arith in
    rw (next, p.0) (none-next f w i x d ys (omega (arith, low)) is p.1 k)

-- a name has a place exactly where it is there
pub among-place : (w : Word) (ws : List Word) → is_some (place_of_name w ws) ≡ is_among w ws
among-place w [] = refl
among-place w (v ∷ ws) =
    (elim (bytes_eq w v) as (λ b. bytes_eq w v ≡ b → is_some (place_of_name w (v ∷ ws)) ≡ is_among w (v ∷ ws)) [
      | true ↦ λ e. rw e refl
      | false ↦ λ e. rw e (later (place_of_name w ws) ∙ among-place w ws)
    ]) refl
  where
    later : (o : Option ℕ) → is_some (elim o [ None ↦ None | Some i ↦ Some (suc i) ]) ≡ is_some o
    later None = refl
    later (Some i) = refl

-- a name that has a place has one within
pub place-within : (w : Word) (ws : List Word) (i : ℕ) → place_of_name w ws ≡ Some i → i < length ws
place-within w [] i h = absurd cc
place-within w (v ∷ ws) i h =
    (elim (bytes_eq w v) as (λ b. bytes_eq w v ≡ b → i < length (v ∷ ws)) [
      | true ↦ λ e. let first : place_of_name w (v ∷ ws) ≡ Some 0 = rw e refl in let at : i ≡ 0 = cc in omega (arith, at)
      | false ↦ λ e. later (place_of_name w ws) (λ j is. place-within w ws j is) (rw e at h)
    ]) refl
  where
    later : (o : Option ℕ) → ((j : ℕ) → o ≡ Some j → j < length ws) → (elim o [ None ↦ None | Some j ↦ Some (suc j) ]) ≡ Some i → i < length (v ∷ ws)
    later None within k = absurd cc
    later (Some j) within k = let at : suc j ≡ i = cc in let low = within j refl in omega (arith, at, low)

pub named-within : {X : Type 0} (f : X → Word) (w : Word) (xs : List X) (i : ℕ) → place_of_name w (map f xs) ≡ Some i → i < length xs
named-within f w xs i h = let low = place-within w (map f xs) i h in omega (arith, low, length-map xs f)

-- ---- operators of fragments

pub operator-here : (w : Word) (i : ℕ) (f : FragSpec) (fs : List FragSpec) → i < length fs → f ≡ get_or fs i f → is_among w (op_names f) ≡ true → is_among w (flat_map op_names fs) ≡ true
operator-here w i f [] low is h = absurd (omega (arith, low))
operator-here w zero f (g ∷ fs) low is h = let here : is_among w (op_names g) ≡ true = subst (λ x. is_among w (op_names x) ≡ true) is h in rw (list_any-append (bytes_eq w) (op_names g) (flat_map op_names fs), here) refl
operator-here w (suc i) f (g ∷ fs) low is h =
    rw (list_any-append (bytes_eq w) (op_names g) (flat_map op_names fs), operator-here w i f fs (omega (arith, low)) is h) (or-true (is_among w (op_names g)))

pub no-operator-next : (w : Word) (i : ℕ) (f : FragSpec) (fs : List FragSpec) → i < length fs → f ≡ get_or fs i f → is_among w (flat_map op_names (take i fs)) ≡ false → is_among w (op_names f) ≡ false →
    is_among w (flat_map op_names (take (i + 1) fs)) ≡ false
no-operator-next w i f [] low is h k = absurd (omega (arith, low))
no-operator-next w zero f (g ∷ fs) low is h k =
    let here : is_among w (op_names g) ≡ false = subst (λ x. is_among w (op_names x) ≡ false) is k in rw (list_any-append (bytes_eq w) (op_names g) [], here) refl
no-operator-next w (suc i) f (g ∷ fs) low is h k =
    let p = among_neither w (op_names g) (flat_map op_names (take i fs)) h in
    let next : suc i + 1 ≡ suc (i + 1) = omega arith in
    rw (next, list_any-append (bytes_eq w) (op_names g) (flat_map op_names (take (i + 1) fs)), p.0) (no-operator-next w i f fs (omega (arith, low)) is p.1 k)

pub any-here : {X : Type 0} (test : X → Bool) (i : ℕ) (x d : X) (xs : List X) → i < length xs → x ≡ get_or xs i d → test x ≡ true → list_any test xs ≡ true
any-here test i x d [] low is h = absurd (omega (arith, low))
any-here test zero x d (y ∷ xs) low is h = let here : test y ≡ true = subst (λ z. test z ≡ true) is h in rw here refl
any-here test (suc i) x d (y ∷ xs) low is h = rw (any-here test i x d xs (omega (arith, low)) is h) (or-true (test y))

pub none-more : {X : Type 0} (test : X → Bool) (i : ℕ) (x d : X) (xs : List X) → i < length xs → x ≡ get_or xs i d → list_any test (take i xs) ≡ false → test x ≡ false → list_any test (take (i + 1) xs) ≡ false
none-more test i x d xs low is h k = list_any_more test xs i d low ∙ ap (λ b. b || test (get_or xs i d)) h ∙ ap test (sym is) ∙ k
