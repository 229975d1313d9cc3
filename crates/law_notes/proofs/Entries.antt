-- The envelopes of a range of numbers that still wait: how often each is left, and whether it is pending.
use Rattle.std.proofs.Common.{◌≡◌, ℕ, zero, suc, ◌+◌, ◌-◌, ◌≤◌, ◌<◌, Bool, true, false, cond, ◌==◌, nat_lt, List, ◌∷◌, ◌++◌, map, refl, sym, ap, subst, ◌∙◌, arith, slice_get}
use Rattle.std.specs.List.{filter}
use Rattle.dpc_lists.specs.Lists.{list_all, list_any, range_with_len}
use Rattle.dpc_model.specs.declared.scripts.Directive.{Directive}
use Rattle.world_model.specs.Worlds.{World}
use Rattle.world_model.specs.Schedules.{Undelivered, loses, repeats, pending_in, delivery_made}
use Rattle.world_model.specs.Notes.{asked}
use Rattle.dpc_lists.proofs.Truths.{both-of, eq-of, eq-test, lt-test, true-not-false}
use Rattle.law_schedules.proofs.Waits.{fresh_from, is_pending}

abbrev pub entry : (ℕ → ℕ) → (ℕ → Bool) → ℕ → Undelivered
entry f p k = record { number = k; left = f k; pending = p k }

-- those of the numbers from a on, so many, that are left at least once
abbrev pub entries : (ℕ → ℕ) → (ℕ → Bool) → ℕ → ℕ → List Undelivered
entries f p a m = map (entry f p) (filter (λ k. nat_lt 0 (f k)) (range_with_len a m))

-- the first of them before the others
abbrev pub before_rest : ℕ → Undelivered → List Undelivered → List Undelivered
before_rest n x xs = cond (nat_lt 0 n) (x ∷ xs) xs

pub entries-cons : (f : ℕ → ℕ) (p : ℕ → Bool) (a m : ℕ) → entries f p a (suc m) ≡ before_rest (f a) (entry f p a) (entries f p (a + 1) m)
entries-cons f p a m = by-left (nat_lt 0 (f a))
  where
    rest : List ℕ
    rest = filter (λ k. nat_lt 0 (f k)) (range_with_len (a + 1) m)

    by-left : (b : Bool) → map (entry f p) (cond b (a ∷ rest) rest) ≡ cond b (entry f p a ∷ map (entry f p) rest) (map (entry f p) rest)
    by-left true = refl
    by-left false = refl

before-append : (n : ℕ) (x : Undelivered) (xs ys : List Undelivered) → before_rest n x xs ++ ys ≡ before_rest n x (xs ++ ys)
before-append n x xs ys = by-left (nat_lt 0 n)
  where
    by-left : (b : Bool) → cond b (x ∷ xs) xs ++ ys ≡ cond b (x ∷ xs ++ ys) (xs ++ ys)
    by-left true = refl
    by-left false = refl

-- ---- two ranges, one behind the other

pub entries-append : (f : ℕ → ℕ) (p : ℕ → Bool) (a m j : ℕ) → entries f p a m ++ entries f p (a + m) j ≡ entries f p a (m + j)
entries-append f p a zero j = let none : a + 0 ≡ a = omega arith in let also : 0 + j ≡ j = omega arith in rw (none, also) refl
entries-append f p a (suc m) j =
    let next : a + suc m ≡ a + 1 + m = omega arith in
    let whole : suc m + j ≡ suc (m + j) = omega arith in
    let on = entries-append f p (a + 1) m j in
    ap (λ (i : ℕ). entries f p a (suc m) ++ entries f p i j) next
    ∙ ap (λ (xs : List Undelivered). xs ++ entries f p (a + 1 + m) j) (entries-cons f p a m)
    ∙ before-append (f a) (entry f p a) (entries f p (a + 1) m) (entries f p (a + 1 + m) j)
    ∙ ap (λ (xs : List Undelivered). before_rest (f a) (entry f p a) xs) on
    ∙ sym (entries-cons f p a (m + j))
    ∙ ap (λ (i : ℕ). entries f p a i) (sym whole)

-- ---- the same entries

pub entries-same : (f g : ℕ → ℕ) (p q : ℕ → Bool) (a m : ℕ) → ((k : ℕ) → a ≤ k → k < a + m → (f k ≡ g k) × (p k ≡ q k)) → entries f p a m ≡ entries g q a m
entries-same f g p q a zero h = refl
entries-same f g p q a (suc m) h =
    let here = h a (omega arith) (omega arith) in
    let on = entries-same f g p q (a + 1) m (λ k low high. h k (omega (arith, low)) (omega (arith, high))) in
    entries-cons f p a m
    ∙ ap (λ (xs : List Undelivered). before_rest (f a) (entry f p a) xs) on
    ∙ ap (λ (n : ℕ). before_rest n (record { number = a; left = n; pending = p a }) (entries g q (a + 1) m)) here.0
    ∙ ap (λ (b : Bool). before_rest (g a) (record { number = a; left = g a; pending = b }) (entries g q (a + 1) m)) here.1
    ∙ sym (entries-cons g q a m)

-- those that were just sent
pub entries-fresh : (f : ℕ → ℕ) (p : ℕ → Bool) (a m : ℕ) → ((k : ℕ) → a ≤ k → k < a + m → (f k ≡ 1) × (p k ≡ false)) → entries f p a m ≡ fresh_from a m
entries-fresh f p a zero h = refl
entries-fresh f p a (suc m) h =
    let here = h a (omega arith) (omega arith) in
    let on = entries-fresh f p (a + 1) m (λ k low high. h k (omega (arith, low)) (omega (arith, high))) in
    entries-cons f p a m
    ∙ ap (λ (xs : List Undelivered). before_rest (f a) (entry f p a) xs) on
    ∙ ap (λ (n : ℕ). before_rest n (record { number = a; left = n; pending = p a }) (fresh_from (a + 1) m)) here.0
    ∙ ap (λ (b : Bool). record { number = a; left = 1; pending = b } ∷ fresh_from (a + 1) m) here.1

-- ---- a delivery

-- of f one less at k is left
pub record IsLess (k : ℕ) (f g : ℕ → ℕ) : Type 0 where
  pub here : g k ≡ f k - 1
  pub apart : (j : ℕ) → (j ≡ k → ⊥) → g j ≡ f j

two-more : (n : ℕ) → (suc (suc n) == 1) ≡ false
two-more n = by-test (suc (suc n) == 1) refl
  where
    by-test : (b : Bool) → (suc (suc n) == 1) ≡ b → b ≡ false
    by-test true e = let same = eq-of (suc (suc n)) 1 e in absurd (omega (arith, same))
    by-test false e = refl

pub entries-made : (k : ℕ) (f g : ℕ → ℕ) (p : ℕ → Bool) (a m : ℕ) → IsLess k f g → delivery_made k (entries f p a m) ≡ entries g p a m
entries-made k f g p a zero l = refl
entries-made k f g p a (suc m) l =
    ap (λ (xs : List Undelivered). delivery_made k xs) (entries-cons f p a m)
    ∙ by-own (a == k) refl (entries-made k f g p (a + 1) m l)
    ∙ sym (entries-cons g p a m)
  where
    rest : List Undelivered
    rest = entries f p (a + 1) m

    -- behind k all stays
    behind : a ≡ k → rest ≡ entries g p (a + 1) m
    behind e = entries-same f g p p (a + 1) m (λ j low high. (sym (l.apart j (λ same. absurd (omega (arith, low, same, e)))), refl))

    Goal : Type 0
    Goal = delivery_made k (before_rest (f a) (entry f p a) rest) ≡ before_rest (g a) (entry g p a) (entries g p (a + 1) m)

    by-own : (b : Bool) → (a == k) ≡ b → delivery_made k rest ≡ entries g p (a + 1) m → Goal
    by-own false e on =
        let same = l.apart a (λ h. true-not-false (sym (eq-test a k h) ∙ e)) in
        skipped (nat_lt 0 (f a)) ∙ ap (λ (n : ℕ). before_rest n (record { number = a; left = n; pending = p a }) (entries g p (a + 1) m)) (sym same)
      where
        skipped : (c : Bool) → delivery_made k (cond c (entry f p a ∷ rest) rest) ≡ cond c (entry f p a ∷ entries g p (a + 1) m) (entries g p (a + 1) m)
        skipped true = rw e (ap (λ (xs : List Undelivered). entry f p a ∷ xs) on)
        skipped false = on
    by-own true e on =
        let same = eq-of a k e in
        let less : g a ≡ f a - 1 = subst (λ (i : ℕ). g i ≡ f i - 1) (sym same) l.here in
        taken (f a) refl
        ∙ ap (λ (n : ℕ). before_rest n (record { number = a; left = n; pending = p a }) (entries g p (a + 1) m)) (sym less)
      where
        taken : (n : ℕ) → f a ≡ n →
            delivery_made k (before_rest n (record { number = a; left = n; pending = p a }) rest)
            ≡ before_rest (n - 1) (record { number = a; left = n - 1; pending = p a }) (entries g p (a + 1) m)
        taken zero h = on
        taken (suc zero) h = rw e (behind (eq-of a k e))
        taken (suc (suc n)) h =
            let some : nat_lt 0 (suc (suc n)) ≡ true = lt-test 0 (suc (suc n)) (omega arith) in
            let less : suc (suc n) - 1 ≡ suc n = omega arith in
            let also : nat_lt 0 (suc n) ≡ true = lt-test 0 (suc n) (omega arith) in
            let more : (suc (suc n) == 1) ≡ false = two-more n in
            rw (some, e, more, less, also) (ap (λ (xs : List Undelivered). record { number = a; left = suc n; pending = p a } ∷ xs) (behind (eq-of a k e)))

-- ---- a phase is opened

pub entries-pending : (f : ℕ → ℕ) (p : ℕ → Bool) (a m : ℕ) → ((k : ℕ) → a ≤ k → k < a + m → p k ≡ true) → list_all is_pending (entries f p a m) ≡ true
entries-pending f p a zero h = refl
entries-pending f p a (suc m) h =
    let here = h a (omega arith) (omega arith) in
    let on = entries-pending f p (a + 1) m (λ k low high. h k (omega (arith, low)) (omega (arith, high))) in
    ap (λ (xs : List Undelivered). list_all is_pending xs) (entries-cons f p a m) ∙ by-left (nat_lt 0 (f a)) here on
  where
    by-left : (b : Bool) → p a ≡ true → list_all is_pending (entries f p (a + 1) m) ≡ true → list_all is_pending (cond b (entry f p a ∷ entries f p (a + 1) m) (entries f p (a + 1) m)) ≡ true
    by-left true e on = both-of (p a) _ e on
    by-left false e on = on

-- how often each is asked for then
abbrev pub now_asked : World → List Directive → (ℕ → ℕ) → ℕ → ℕ
now_asked w ds f k = cond (nat_lt 0 (f k)) (asked w ds k) 0

pub entries-opened : (w : World) (ds : List Directive) (f : ℕ → ℕ) (p : ℕ → Bool) (a m : ℕ) → ((k : ℕ) → a ≤ k → k < a + m → p k ≡ false) →
    pending_in w ds (entries f p a m) ≡ entries (now_asked w ds f) (λ _. true) a m
entries-opened w ds f p a zero h = refl
entries-opened w ds f p a (suc m) h =
    let here = h a (omega arith) (omega arith) in
    let on = entries-opened w ds f p (a + 1) m (λ k low high. h k (omega (arith, low)) (omega (arith, high))) in
    ap (λ (xs : List Undelivered). pending_in w ds xs) (entries-cons f p a m)
    ∙ by-left (nat_lt 0 (f a)) here on
    ∙ sym (entries-cons (now_asked w ds f) (λ _. true) a m)
  where
    rest : List Undelivered
    rest = entries f p (a + 1) m

    after : List Undelivered
    after = entries (now_asked w ds f) (λ _. true) (a + 1) m

    by-left : (b : Bool) → p a ≡ false → pending_in w ds rest ≡ after →
        pending_in w ds (cond b (entry f p a ∷ rest) rest)
        ≡ before_rest (cond b (asked w ds a) 0) (record { number = a; left = cond b (asked w ds a) 0; pending = true }) after
    by-left false e on = on
    by-left true e on = rw e (by-lost (list_any (loses (slice_get w.envelopes a)) ds) refl)
      where
        by-lost : (c : Bool) → list_any (loses (slice_get w.envelopes a)) ds ≡ c → pending_in w ds (record { number = a; left = f a; pending = false } ∷ rest)
            ≡ before_rest (asked w ds a) (record { number = a; left = asked w ds a; pending = true }) after
        by-lost true lost = rw lost on
        by-lost false kept = rw kept (by-repeated (list_any (repeats (slice_get w.envelopes a)) ds))
          where
            by-repeated : (d : Bool) → record { number = a; left = cond d 2 1; pending = true } ∷ pending_in w ds rest ≡ before_rest (cond d 2 1) (record { number = a; left = cond d 2 1; pending = true }) after
            by-repeated true = ap (λ (xs : List Undelivered). record { number = a; left = 2; pending = true } ∷ xs) on
            by-repeated false = ap (λ (xs : List Undelivered). record { number = a; left = 1; pending = true } ∷ xs) on
