-- How far a cell reaches: over a window, or over one of the panes of which a window is made.
use Rattle.std.proofs.Common.{◌≡◌, ℕ, zero, suc, ◌*◌, ◌/◌, ◌%◌, ◌<◌, ◌≤◌, ◌==◌, Bool, true, false, cond, refl, arith, nat_lt}
use Rattle.std.proofs.lemmas.Grind.{common_steps}
use Rattle.std.proofs.lemmas.Bool.{eqb-true, eqb-false, ltb-true, ltb-false}
use Rattle.std.proofs.lemmas.Nat.{div-add-mod'}
use Rattle.dpc_model.specs.Operators.{window_count}
use Rattle.dpc_model.proofs.WindowCausality.{window_before, window_after, window_count-le}
use Rattle.ops_window.specs.Windows.{reach}

pub times-le : (step i j : ℕ) → i ≤ j → i * step ≤ j * step
times-le step i j h = grind (arith, common_steps)

-- a window of whole steps is made of some
pub whole-steps : (size step : ℕ) → size % step ≡ 0 → size ≡ size / step * step
whole-steps size step whole = let parts = div-add-mod' size step in omega (arith, parts, whole)

pub some-steps : (size step : ℕ) → 0 < size → size % step ≡ 0 → 0 < size / step
some-steps size step some whole = by (size / step) (whole-steps size step whole)
  where
    by : (n : ℕ) → size ≡ n * step → 0 < n
    by zero e = let none : zero * step ≡ 0 = omega arith in absurd (omega (arith, some, e, none))
    by (suc n) e = omega arith

pub step-le : (size step : ℕ) → 0 < size → size % step ≡ 0 → step ≤ size
step-le size step some whole = by (size / step) (whole-steps size step whole) (some-steps size step some whole)
  where
    by : (n : ℕ) → size ≡ n * step → 0 < n → step ≤ size
    by zero e h = absurd (omega (arith, h))
    by (suc n) e h = omega (arith, e)

pub reach-le : (size step : ℕ) → 0 < size → reach size step ≤ size
reach-le size step some =
    (elim (size % step == 0) as (λ b. (size % step == 0) ≡ b → cond b step size ≤ size) [
      | true ↦ λ e. step-le size step some (eqb-true (size % step) 0 e)
      | false ↦ λ e. omega arith
    ]) refl

pub reach-positive : (size step : ℕ) → 0 < size → 0 < step → 0 < reach size step
reach-positive size step some positive = elim (size % step == 0) as (λ b. 0 < cond b step size) [ true ↦ positive | false ↦ some ]

-- where cells do not reach over a window, they reach over panes
pub reach-step : (size step : ℕ) → (reach size step == size) ≡ false → (size % step ≡ 0) × (reach size step ≡ step)
reach-step size step h =
    (elim (size % step == 0) as (λ b. (size % step == 0) ≡ b → (cond b step size == size) ≡ false → (size % step ≡ 0) × (cond b step size ≡ step)) [
      | true ↦ λ e g. (eqb-true (size % step) 0 e, refl)
      | false ↦ λ e g. absurd (eqb-false size size g refl)
    ]) refl h

-- shorter windows end no later
count-shorter : (size short step b : ℕ) → 0 < step → short ≤ size → window_count size step b ≤ window_count short step b
count-shorter size short step b positive h = by (nat_lt (window_count short step b) (window_count size step b)) refl
  where
    by : (x : Bool) → nat_lt (window_count short step b) (window_count size step b) ≡ x → window_count size step b ≤ window_count short step b
    by false e = ltb-false (window_count short step b) (window_count size step b) e
    by true e =
        let ends = window_before size step b (window_count short step b) positive (ltb-true (window_count short step b) (window_count size step b) e) in
        let over = window_after short step b (window_count short step b) positive (omega arith) in
        absurd (omega (arith, h, ends, over))

pub count-reach : (size step b time : ℕ) → 0 < size → 0 < step → b ≤ time → window_count size step b ≤ window_count (reach size step) step time
count-reach size step b time some positive h =
    let shorter = count-shorter size (reach size step) step b positive (reach-le size step some) in
    let later = window_count-le (reach size step) step b time positive h in
    omega (arith, shorter, later)
