-- Whether each actor that is up had its tick, asked one after another.
use Rattle.std.proofs.Common.{◌≡◌, ℕ, ◌+◌, ◌<◌, Bool, true, false, not, ◌&&◌, ◌||◌, List, [], ◌∷◌, ◌++◌, length, refl, sym, ap, ◌∙◌, arith}
use Rattle.dpc_model.specs.Actors.{roles_of}
use Rattle.dpc_lists.specs.Lists.{nth, list_all, has, range_with_len}
use Rattle.dpc_lists.proofs.Truths.{both, both-of, in-range, true-not-false}
use Rattle.dpc_lists.proofs.Elements.{range-more}
use Rattle.world_model.specs.Worlds.{World, is_up}
use Rattle.world_model.specs.Schedules.{Progress, all_ticked}

abbrev pub is_served : World → List Bool → ℕ → Bool
is_served w ticked a = not (is_up w a) || nth false ticked a

abbrev pub all_served : World → List Bool → ℕ → Bool
all_served w ticked n = list_all (is_served w ticked) (range_with_len 0 n)

all-added : (test : ℕ → Bool) (ns : List ℕ) (n : ℕ) → list_all test ns ≡ true → test n ≡ true → list_all test (ns ++ n ∷ []) ≡ true
all-added test [] n h k = both-of (test n) true k refl
all-added test (m ∷ ns) n h k = let p = both (test m) (list_all test ns) h in both-of (test m) (list_all test (ns ++ n ∷ [])) p.0 (all-added test ns n p.1 k)

pub all_served_more : (w : World) (ticked : List Bool) (n : ℕ) → all_served w ticked n ≡ true → is_served w ticked n ≡ true → all_served w ticked (n + 1) ≡ true
all_served_more w ticked n h k =
    let none : 0 + n ≡ n = omega arith in
    ap (list_all (is_served w ticked)) (range-more 0 n ∙ ap (λ (m : ℕ). range_with_len 0 n ++ m ∷ []) none)
    ∙ all-added (is_served w ticked) (range_with_len 0 n) n h k

-- the answer, by the notes of the ticks
all-same : (f g : ℕ → Bool) (ns : List ℕ) → ((a : ℕ) → f a ≡ g a) → list_all f ns ≡ list_all g ns
all-same f g [] h = refl
all-same f g (n ∷ ns) h = ap (λ (b : Bool). b && list_all f ns) (h n) ∙ ap (λ (b : Bool). g n && b) (all-same f g ns h)

pub all_served_is : (w : World) (ticked : List Bool) (p : Progress) → ((a : ℕ) → has p.ticked a ≡ nth false ticked a) → p.world ≡ w → length ticked ≡ length (roles_of p.world.plan) → all_served w ticked (length ticked) ≡ all_ticked p
all_served_is w ticked p t same n =
    ap (λ (k : ℕ). all_served w ticked k) n
    ∙ all-same (is_served w ticked) (λ a. not (is_up p.world a) || has p.ticked a) (range_with_len 0 (length (roles_of p.world.plan)))
    (λ a. ap (λ (v : World). not (is_up v a) || nth false ticked a) (sym same) ∙ ap (λ (b : Bool). not (is_up p.world a) || b) (sym (t a)))

-- one that is not served
pub not_all_served : (w : World) (ticked : List Bool) (n a : ℕ) → a < n → is_served w ticked a ≡ false → false ≡ all_served w ticked n
not_all_served w ticked n a low h = by-all (all_served w ticked n) refl
  where
    by-all : (b : Bool) → all_served w ticked n ≡ b → false ≡ b
    by-all false e = refl
    by-all true e = let up : a < 0 + n = omega (arith, low) in absurd (true-not-false (sym (in-range (is_served w ticked) 0 n a e (omega arith) up) ∙ h))
