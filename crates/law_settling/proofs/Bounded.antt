-- Numbers below a bound: the first that passes a test, how many do, and a fault or none.
use Rattle.std.proofs.Common.{◌≡◌, ℕ, zero, suc, ◌+◌, ◌<◌, ◌≤◌, Bool, true, false, cond, refl, sym, ap, subst, ◌∙◌, arith, ◌⊎◌, inl, inr, nat_lt}
use Rattle.dpc_lists.proofs.Truths.{lt-of, not-lt}

-- below the bound or at it
below-suc : (n k : ℕ) → k < n + 1 → (k < n) ⊎ (k ≡ n)
below-suc n k low = (elim (nat_lt k n) as (λ b. nat_lt k n ≡ b → (k < n) ⊎ (k ≡ n)) [
  | true ↦ λ e. inl (lt-of k n e)
  | false ↦ λ e. let past = not-lt k n e in inr (omega (arith, past, low))
]) refl

-- every number has A, or one has B
pub every-or : (A B : ℕ → Type 0) (n : ℕ) → ((k : ℕ) → k < n → A k ⊎ B k) → ((k : ℕ) → k < n → A k) ⊎ ((k : ℕ) × (k < n) × B k)
every-or A B zero h = inl (λ k low. absurd (omega (arith, low)))
every-or A B (suc n) h =
    elim (every-or A B n (λ k low. h k (omega (arith, low)))) [
      | inr one ↦ let low = one.1 in inr (one.0, omega (arith, low), one.2)
      | inl all ↦ elim (h n (omega arith)) [
        | inr b ↦ inr (n, omega arith, b)
        | inl a ↦ inl (λ k low. elim (below-suc n k (omega (arith, low))) [ inl less ↦ all k less | inr same ↦ subst A (sym same) a ])
      ]
    ]

-- the first number that passes a test, or none does
pub record IsFirst (test : ℕ → Bool) (n k : ℕ) : Type 0 where
  pub low : k < n
  pub passes : test k ≡ true
  pub before : (j : ℕ) → j < k → test j ≡ false

pub first-of : (test : ℕ → Bool) (n : ℕ) → ((k : ℕ) × IsFirst test n k) ⊎ ((k : ℕ) → k < n → test k ≡ false)
first-of test zero = inr (λ k low. absurd (omega (arith, low)))
first-of test (suc n) =
    elim (first-of test n) [
      | inl f ↦ let low = f.1.low in inl (f.0, record { low = omega (arith, low); passes = f.1.passes; before = f.1.before })
      | inr none ↦ (elim (test n) as (λ b. test n ≡ b → ((k : ℕ) × IsFirst test (suc n) k) ⊎ ((k : ℕ) → k < suc n → test k ≡ false)) [
        | true ↦ λ e. inl (n, record { low = omega arith; passes = e; before = none })
        | false ↦ λ e. inr (λ k low. elim (below-suc n k (omega (arith, low))) [ inl less ↦ none k less | inr same ↦ ap test same ∙ e ])
      ]) refl
    ]

-- ---- how many pass

abbrev pub count : (ℕ → Bool) → ℕ → ℕ
count test zero = 0
count test (suc n) = count test n + cond {A = ℕ} (test n) 1 0

pub count-low : (test : ℕ → Bool) (n : ℕ) → count test n ≤ n
count-low test zero = omega arith
count-low test (suc n) =
    let rest = count-low test n in
    elim (test n) as (λ b. count test n + cond {A = ℕ} b 1 0 ≤ suc n) [ true ↦ omega (arith, rest) | false ↦ omega (arith, rest) ]

pub count-more : (one two : ℕ → Bool) (n : ℕ) → ((k : ℕ) → k < n → one k ≡ true → two k ≡ true) → count one n ≤ count two n
count-more one two zero h = omega arith
count-more one two (suc n) h =
    let rest = count-more one two n (λ k low. h k (omega (arith, low))) in
    (elim (one n) as (λ b. one n ≡ b → count one n + cond {A = ℕ} b 1 0 ≤ count two n + cond {A = ℕ} (two n) 1 0) [
      | true ↦ λ e. let there = h n (omega arith) e in subst (λ (b : Bool). count one n + 1 ≤ count two n + cond {A = ℕ} b 1 0) (sym there) (omega (arith, rest))
      | false ↦ λ e. elim (two n) as (λ b. count one n + 0 ≤ count two n + cond {A = ℕ} b 1 0) [ true ↦ omega (arith, rest) | false ↦ omega (arith, rest) ]
    ]) refl

-- one more passes
pub count-grows : (one two : ℕ → Bool) (n k : ℕ) → ((j : ℕ) → j < n → one j ≡ true → two j ≡ true) → k < n → one k ≡ false → two k ≡ true → count one n < count two n
count-grows one two zero k h low out inside = absurd (omega (arith, low))
count-grows one two (suc n) k h low out inside =
    elim (below-suc n k (omega (arith, low))) [
      | inr same ↦
          let rest = count-more one two n (λ j few. h j (omega (arith, few))) in
          let none : one n ≡ false = ap one (sym same) ∙ out in
          let some : two n ≡ true = ap two (sym same) ∙ inside in
          let a : count one n + cond {A = ℕ} (one n) 1 0 ≡ count one n + 0 = ap (λ (b : Bool). count one n + cond {A = ℕ} b 1 0) none in
          let c : count two n + cond {A = ℕ} (two n) 1 0 ≡ count two n + 1 = ap (λ (b : Bool). count two n + cond {A = ℕ} b 1 0) some in
          let out : count one n + cond {A = ℕ} (one n) 1 0 < count two n + cond {A = ℕ} (two n) 1 0 = omega (arith, a, c, rest) in out
      | inl less ↦
          let rest = count-grows one two n k (λ j few. h j (omega (arith, few))) less out inside in
          (elim (one n) as (λ b. one n ≡ b → count one n + cond {A = ℕ} b 1 0 < count two n + cond {A = ℕ} (two n) 1 0) [
            | true ↦ λ e. let there = h n (omega arith) e in subst (λ (b : Bool). count one n + 1 < count two n + cond {A = ℕ} b 1 0) (sym there) (omega (arith, rest))
            | false ↦ λ e. elim (two n) as (λ b. count one n + 0 < count two n + cond {A = ℕ} b 1 0) [ true ↦ omega (arith, rest) | false ↦ omega (arith, rest) ]
          ]) refl
    ]
