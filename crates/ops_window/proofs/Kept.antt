-- The first cells by tests of one meaning.
use Rattle.std.proofs.Common.{◌≡◌, ℕ, ◌+◌, ◌-◌, ◌<◌, arith, nat_lt, nat_le, Bool, true, false, cond, List, [], ◌∷◌, refl, ap}
use Rattle.std.proofs.lemmas.Grind.{common_steps}
use Rattle.ops_window.specs.Windows.{Cell}
use Rattle.ops_window.specs.Feeding.{first_cells, later_cells}

module _ (p q : ℕ → Bool) (same : (n : ℕ) → q n ≡ p n) where
  pub first-same : (cells : List Cell) → first_cells p (first_cells q cells) ≡ first_cells p cells
  first-same [] = refl
  first-same (c ∷ cells) =
      rw (same c.0.0)
      ((elim (p c.0.0) as (λ b. p c.0.0 ≡ b → first_cells p (cond b (c ∷ first_cells q cells) []) ≡ cond b (c ∷ first_cells p cells) []) [
        | true ↦ λ e. rw e (ap (λ (cs : List Cell). c ∷ cs) (first-same cells))
        | false ↦ λ e. refl
      ]) refl)

  pub later-same : (cells : List Cell) → later_cells q cells ≡ later_cells p cells
  later-same [] = refl
  later-same (c ∷ cells) =
      rw (same c.0.0)
      (elim (p c.0.0) as (λ b. cond b (later_cells q cells) (c ∷ cells) ≡ cond b (later_cells p cells) (c ∷ cells)) [ true ↦ later-same cells | false ↦ refl ])

-- a window ends by b where it begins early enough
pub ended-early : (size b n : ℕ) → 0 < size → nat_lt n (b - (size - 1)) ≡ nat_le (n + size) b
ended-early size b n some = grind (arith, common_steps)
