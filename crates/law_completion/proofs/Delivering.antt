-- The pending envelopes that can come are delivered in order of number, each as often as is left.
use Rattle.std.proofs.Common.{◌≡◌, ℕ, ◌+◌, ◌≤◌, ◌<◌, Bool, true, false, not, ◌&&◌, nat_lt, List, [], ◌∷◌, ◌++◌, length, refl, sym, ap, subst, ◌∙◌, arith, append_assoc, slice_get, ◌⊎◌, inl, inr}
use Rattle.std.specs.Prelude.{replicate, flat_map}
use Rattle.dpc_lists.specs.Lists.{list_all}
use Rattle.dpc_model.specs.declared.messages.Event.{Event}
use Rattle.dpc_model.specs.declared.messages.Event.TheVariants.{Deliver}
use Rattle.dpc_model.specs.declared.scripts.Script.{Script}
use Rattle.world_model.specs.Worlds.{World, happens}
use Rattle.world_model.specs.Schedules.{Undelivered, Progress, next_progress, may_come}
use Rattle.dpc_lists.proofs.Truths.{both, both-of, all-append, lt-test, not-of}
use Rattle.law_schedules.proofs.Calm.{IsLike, like-itself, calm-like, deliver-calm}
use Rattle.law_schedules.proofs.Waits.{is_blocked, blocked-kept, come-kept, pend, made-once, made-twice}
use Rattle.law_schedules.proofs.Delivering.{deliver-next}
use Rattle.law_schedules.proofs.Doing.{IsGoing}
use Rattle.law_completion.specs.Completing.{delivering_one}
use Rattle.law_completion.proofs.Leads.{Leads, leads-none, leads-on, leads-then}

-- ---- the envelopes that wait

abbrev pub is_fresh : Undelivered → Bool
is_fresh x = not x.pending

-- the pending ones first, in order of number, each below `limit` and left once or twice; those that are not pending behind them
abbrev pub AreInOrder : ℕ → ℕ → List Undelivered → Type 0
AreInOrder limit k [] = Unit {0}
AreInOrder limit k (x ∷ xs) =
    (list_all is_fresh (x ∷ xs) ≡ true)
    ⊎ ((k ≤ x.number) × (x.number < limit) × (x.pending ≡ true) × ((x.left ≡ 1) ⊎ (x.left ≡ 2)) × AreInOrder limit (x.number + 1) xs)

-- those that are left cannot come, or are not pending
pub record IsDelivered (script : Script) (p start : ℕ) (base : World) (tk : List ℕ) (y : Progress) : Type 0 where
  pub blocked : List Undelivered
  pub fresh : List Undelivered
  pub going : IsGoing script p start base (blocked ++ fresh) tk y
  pub cannot : list_all (is_blocked y.world start) blocked ≡ true
  pub not_pending : list_all is_fresh fresh ≡ true

-- those that cannot come, and behind them the others, the pending ones of which have numbers from k on
record IsDelivering (script : Script) (p start : ℕ) (base : World) (tk : List ℕ) (xs zs : List Undelivered) (k : ℕ) (y : Progress) : Type 0 where
  going : IsGoing script p start base (xs ++ zs) tk y
  cannot : list_all (is_blocked y.world k) xs ≡ true

none-fresh : (w : World) (xs : List Undelivered) → list_all is_fresh xs ≡ true → flat_map (delivering_one w) xs ≡ []
none-fresh w [] h = refl
none-fresh w (x ∷ xs) h =
    let p = both (not x.pending) (list_all is_fresh xs) h in
    let old = not-of x.pending p.0 in
    rw old (none-fresh w xs p.1)

module _ (script : Script) (p start : ℕ) (base : World) (tk : List ℕ) (low : 1 ≤ p) (room : start ≤ length base.envelopes) where
  come-here : (k : ℕ) (z : Progress) → k < start → IsLike base z.world → may_come z.world (slice_get z.world.envelopes k) ≡ may_come base (slice_get base.envelopes k)
  come-here k z small like = come-kept base z.world k like (omega (arith, small, room))

  still-blocked : (xs : List Undelivered) (k l : ℕ) (z : Progress) → k ≤ l → k ≤ length z.world.envelopes → list_all (is_blocked z.world k) xs ≡ true → list_all (is_blocked (happens z.world (Deliver k)) l) xs ≡ true
  still-blocked xs k l z more grown h = blocked-kept z.world (happens z.world (Deliver k)) k l xs (calm-like z.world _ (deliver-calm z.world k)) grown more h

  -- as often as is left
  deliver-times : (xs zs : List Undelivered) (k times : ℕ) (y : Progress) → k < start → (times ≡ 1) ⊎ (times ≡ 2) → may_come base (slice_get base.envelopes k) ≡ true →
      IsDelivering script p start base tk xs (pend k times ∷ zs) k y → Leads script (IsDelivering script p start base tk xs zs (k + 1)) y (replicate times (Deliver k))
  deliver-times xs zs k times y small which come d =
      elim which [
        | inl one ↦ subst (λ (n : ℕ). Leads script After y (replicate n (Deliver k))) (sym one) (once y (subst (λ (n : ℕ). IsGoing script p start base (xs ++ pend k n ∷ zs) tk y) one d.going) d.cannot)
        | inr two ↦ subst (λ (n : ℕ). Leads script After y (replicate n (Deliver k))) (sym two) (twice y (subst (λ (n : ℕ). IsGoing script p start base (xs ++ pend k n ∷ zs) tk y) two d.going) d.cannot)
      ]
    where
      After : Progress → Type 0
      After = IsDelivering script p start base tk xs zs (k + 1)

      once : (z : Progress) → IsGoing script p start base (xs ++ pend k 1 ∷ zs) tk z → list_all (is_blocked z.world k) xs ≡ true → Leads script After z (Deliver k ∷ [])
      once z i b =
          let grown = i.doing.grown in
          let s = deliver-next script p start base xs zs (xs ++ zs) k 1 tk z low i (come-here k z small i.doing.like ∙ come) b (λ gs. made-once z.world k xs (zs ++ gs) b ∙ sym (append_assoc xs zs gs)) in
          leads-on script After z (Deliver k) [] s.0 (leads-none script After (next_progress script z (Deliver k)) (record { going = s.1; cannot = still-blocked xs k (k + 1) z (omega arith) (omega (arith, small, grown)) b }))

      twice : (z : Progress) → IsGoing script p start base (xs ++ pend k 2 ∷ zs) tk z → list_all (is_blocked z.world k) xs ≡ true → Leads script After z (Deliver k ∷ Deliver k ∷ [])
      twice z i b =
          let grown = i.doing.grown in
          let s = deliver-next script p start base xs zs (xs ++ pend k 1 ∷ zs) k 2 tk z low i (come-here k z small i.doing.like ∙ come) b (λ gs. made-twice z.world k xs (zs ++ gs) b ∙ sym (append_assoc xs (pend k 1 ∷ zs) gs)) in
          leads-on script After z (Deliver k) (Deliver k ∷ []) s.0 (once (next_progress script z (Deliver k)) s.1 (still-blocked xs k k z (omega arith) (omega (arith, small, grown)) b))

  -- ---- all

  deliver-from : (xs zs : List Undelivered) (k : ℕ) (y : Progress) → k ≤ start → AreInOrder start k zs → IsDelivering script p start base tk xs zs k y →
      Leads script (IsDelivered script p start base tk) y (flat_map (delivering_one base) zs)
  deliver-from xs [] k y within order d =
      let grown = d.going.doing.grown in
      leads-none script (IsDelivered script p start base tk) y
      (record { blocked = xs; fresh = []; going = d.going; cannot = blocked-kept y.world y.world k start xs (like-itself y.world) (omega (arith, within, grown)) within d.cannot; not_pending = refl })
  deliver-from xs (z ∷ zs) k y within (inl fresh) d =
      let grown = d.going.doing.grown in
      subst (λ (es : List Event). Leads script (IsDelivered script p start base tk) y es) (sym (none-fresh base (z ∷ zs) fresh))
      (leads-none script (IsDelivered script p start base tk) y
      (record { blocked = xs; fresh = z ∷ zs; going = d.going; cannot = blocked-kept y.world y.world k start xs (like-itself y.world) (omega (arith, within, grown)) within d.cannot; not_pending = fresh }))
  deliver-from xs (z ∷ zs) k y within (inr h) d = by-come (may_come base (slice_get base.envelopes z.number)) refl (λ ys x g. deliver-from ys zs (z.number + 1) x (omega (arith, small)) h.4 g)
    where
      small : z.number < start
      small = h.1

      here : z ≡ pend z.number z.left
      here = ap (λ (b : Bool). record { number = z.number; left = z.left; pending = b }) h.2

      there : IsDelivering script p start base tk xs (pend z.number z.left ∷ zs) z.number y
      there =
          let grown = d.going.doing.grown in
          let more = h.0 in
          record {
            going = subst (λ (x : Undelivered). IsGoing script p start base (xs ++ x ∷ zs) tk y) here d.going;
            cannot = blocked-kept y.world y.world k z.number xs (like-itself y.world) (omega (arith, within, grown)) more d.cannot;
          }

      Rest : Type 0
      Rest = (ys : List Undelivered) (x : Progress) → IsDelivering script p start base tk ys zs (z.number + 1) x → Leads script (IsDelivered script p start base tk) x (flat_map (delivering_one base) zs)

      by-come : (b : Bool) → may_come base (slice_get base.envelopes z.number) ≡ b → Rest → Leads script (IsDelivered script p start base tk) y (flat_map (delivering_one base) (z ∷ zs))
      by-come true e rest =
          let some : delivering_one base z ≡ replicate z.left (Deliver z.number) = rw (h.2, e) refl in
          subst (λ (es : List Event). Leads script (IsDelivered script p start base tk) y (es ++ flat_map (delivering_one base) zs)) (sym some)
          (leads-then script (IsDelivering script p start base tk xs zs (z.number + 1)) (IsDelivered script p start base tk) y (replicate z.left (Deliver z.number)) (flat_map (delivering_one base) zs)
          (deliver-times xs zs z.number z.left y small h.3 e there) (λ x g. rest xs x g))
      by-come false e rest =
          let none : delivering_one base z ≡ [] = rw (h.2, e) refl in
          let grown = there.going.doing.grown in
          let stuck : may_come y.world (slice_get y.world.envelopes z.number) ≡ false = come-here z.number y small there.going.doing.like ∙ e in
          subst (λ (es : List Event). Leads script (IsDelivered script p start base tk) y (es ++ flat_map (delivering_one base) zs)) (sym none)
          (rest (xs ++ pend z.number z.left ∷ []) y (record {
            going = subst (λ (ys : List Undelivered). IsGoing script p start base ys tk y) (sym (append_assoc xs (pend z.number z.left ∷ []) zs)) there.going;
            cannot = all-append (is_blocked y.world (z.number + 1)) xs (pend z.number z.left ∷ [])
                (blocked-kept y.world y.world z.number (z.number + 1) xs (like-itself y.world) (omega (arith, small, grown)) (omega arith) there.cannot)
                (both-of (is_blocked y.world (z.number + 1) (pend z.number z.left)) true
                (both-of (true && nat_lt z.number (z.number + 1)) (not (may_come y.world (slice_get y.world.envelopes z.number))) (lt-test z.number (z.number + 1) (omega arith)) (rw stuck refl)) refl);
          }))

  pub deliver-all : (zs : List Undelivered) (k : ℕ) (y : Progress) → k ≤ start → AreInOrder start k zs → IsGoing script p start base zs tk y → Leads script (IsDelivered script p start base tk) y (flat_map (delivering_one base) zs)
  deliver-all zs k y within order g = deliver-from [] zs k y within order (record { going = g; cannot = refl })
