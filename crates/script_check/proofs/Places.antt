-- Where a name stands among several.
use Rattle.std.proofs.Common.{subst, ◌≡◌, ℕ, zero, suc, ◌+◌, ◌<◌, Bool, true, false, List, [], ◌∷◌, map, drop, length, refl, arith, get_or}
use Rattle.std.specs.Prelude.{◌||◌}
use Rattle.dpc_lists.specs.Lists.{list_any, list_all}
use Rattle.dpc_model.specs.Words.{Word}
use Rattle.dpc_lists.proofs.Truths.{or-true, and-none}
use Rattle.script_rules.specs.Reasons.{is_among, has_twice}

-- where one of them fails, not all of them pass
pub all-fails : {X : Type 0} (test : ℕ → Bool) (f : X → ℕ) (i : ℕ) (x d : X) (xs : List X) → i < length xs → x ≡ get_or xs i d → test (f x) ≡ false → list_all test (map f xs) ≡ false
all-fails test f i x d [] low is h = absurd (omega (arith, low))
all-fails test f zero x d (y ∷ xs) low is h = let here : test (f y) ≡ false = subst (λ z. test (f z) ≡ false) is h in rw here refl
all-fails test f (suc i) x d (y ∷ xs) low is h = rw (all-fails test f i x d xs (omega (arith, low)) is h) (and-none (test (f y)))

-- whether a word stands twice, from the place i on
pub twice-from : {X : Type 0} (f : X → Word) (i : ℕ) (x d : X) (xs : List X) → i < length xs → x ≡ get_or xs i d → has_twice (map f (drop i xs)) ≡ (is_among (f x) (map f (drop (i + 1) xs)) || has_twice (map f (drop (i + 1) xs)))
twice-from f i x d [] low is = absurd (omega (arith, low))
twice-from f zero x d (y ∷ xs) low is = rw is refl
twice-from f (suc i) x d (y ∷ xs) low is =
    let next : suc i + 1 ≡ suc (i + 1) = omega arith in
    rw next (twice-from f i x d xs (omega (arith, low)) is)

pub any-named : {X : Type 0} (test : Word → Bool) (f : X → Word) (i : ℕ) (x d : X) (xs : List X) → i < length xs → x ≡ get_or xs i d → test (f x) ≡ true → list_any test (map f xs) ≡ true
any-named test f i x d [] low is h = absurd (omega (arith, low))
any-named test f zero x d (y ∷ xs) low is h = let here : test (f y) ≡ true = subst (λ z. test (f z) ≡ true) is h in rw here refl
any-named test f (suc i) x d (y ∷ xs) low is h = rw (any-named test f i x d xs (omega (arith, low)) is h) (or-true (test (f y)))
