-- The envelopes that wait are in order, as the notes tell them.
use Rattle.std.proofs.Common.{◌≡◌, ℕ, zero, suc, ◌+◌, ◌-◌, ◌≤◌, ◌<◌, Bool, true, false, not, cond, ◌==◌, nat_lt, List, [], ◌∷◌, length, refl, sym, ap, subst, ◌∙◌, arith, slice_get, ◌⊎◌, inl, inr}
use Rattle.dpc_lists.specs.Lists.{list_all, list_any, has}
use Rattle.dpc_model.specs.declared.messages.Event.{Event}
use Rattle.dpc_model.specs.declared.scripts.Directive.{Directive}
use Rattle.dpc_model.specs.declared.scripts.Script.{Script}
use Rattle.world_model.specs.Worlds.{World, run}
use Rattle.world_model.specs.Schedules.{Undelivered, Progress, progress, is_live_so_far, loses, repeats, phase_of}
use Rattle.world_model.specs.Notes.{Notes, notes, times, left_told, waiting_told}
use Rattle.dpc_lists.proofs.Truths.{both-of, lt-of, not-lt, not-less, eq-of, eq-test, true-not-false}
use Rattle.law_schedules.proofs.Journals.{progress-run}
use Rattle.law_notes.proofs.Entries.{entry, entries, entries-cons}
use Rattle.law_notes.proofs.Noting.{progress-told}
use Rattle.law_completion.proofs.Delivering.{is_fresh, AreInOrder}

order-lower : (limit j k : ℕ) (xs : List Undelivered) → j ≤ k → AreInOrder limit k xs → AreInOrder limit j xs
order-lower limit j k [] h o = tt
order-lower limit j k (x ∷ xs) h (inl fresh) = inl fresh
order-lower limit j k (x ∷ xs) h (inr o) = let low = o.0 in inr (omega (arith, h, low), o.1, o.2, o.3, o.4)

fresh-from : (f : ℕ → ℕ) (sent a m : ℕ) → sent ≤ a → list_all is_fresh (entries f (λ k. nat_lt k sent) a m) ≡ true
fresh-from f sent a zero h = refl
fresh-from f sent a (suc m) h =
    ap (λ (xs : List Undelivered). list_all is_fresh xs) (entries-cons f (λ k. nat_lt k sent) a m) ∙ by-left (nat_lt 0 (f a)) (fresh-from f sent (a + 1) m (omega (arith, h)))
  where
    rest : List Undelivered
    rest = entries f (λ k. nat_lt k sent) (a + 1) m

    by-left : (b : Bool) → list_all is_fresh rest ≡ true → list_all is_fresh (cond b (entry f (λ k. nat_lt k sent) a ∷ rest) rest) ≡ true
    by-left true on = let past = not-less a sent h in rw past on
    by-left false on = on

in-order : (f : ℕ → ℕ) (sent limit a m : ℕ) → ((k : ℕ) → f k ≤ 2) → ((k : ℕ) → a ≤ k → k < a + m → k < limit) → AreInOrder limit a (entries f (λ k. nat_lt k sent) a m)
in-order f sent limit a zero few within = tt
in-order f sent limit a (suc m) few within =
    subst (λ (xs : List Undelivered). AreInOrder limit a xs) (sym (entries-cons f (λ k. nat_lt k sent) a m))
    (by-left (nat_lt 0 (f a)) refl (in-order f sent limit (a + 1) m few (λ k low high. within k (omega (arith, low)) (omega (arith, high)))))
  where
    rest : List Undelivered
    rest = entries f (λ k. nat_lt k sent) (a + 1) m

    once-or-twice : nat_lt 0 (f a) ≡ true → (f a ≡ 1) ⊎ (f a ≡ 2)
    once-or-twice e =
        let some = lt-of 0 (f a) e in
        let most = few a in
        by-one (f a == 1) refl some most
      where
        by-one : (b : Bool) → (f a == 1) ≡ b → 0 < f a → f a ≤ 2 → (f a ≡ 1) ⊎ (f a ≡ 2)
        by-one true g some most = inl (eq-of (f a) 1 g)
        by-one false g some most = let other = not-one (f a) g in inr (omega (arith, some, most, other))
          where
            not-one : (n : ℕ) → (n == 1) ≡ false → (n ≡ 1 → ⊥)
            not-one n k same = true-not-false (sym (eq-test n 1 same) ∙ k)

    by-left : (b : Bool) → nat_lt 0 (f a) ≡ b → AreInOrder limit (a + 1) rest → AreInOrder limit a (cond b (entry f (λ k. nat_lt k sent) a ∷ rest) rest)
    by-left false e on = order-lower limit a (a + 1) rest (omega arith) on
    by-left true e on = by-sent (nat_lt a sent) refl
      where
        by-sent : (c : Bool) → nat_lt a sent ≡ c → AreInOrder limit a (entry f (λ k. nat_lt k sent) a ∷ rest)
        by-sent true g = inr (omega arith, within a (omega arith) (omega arith), g, once-or-twice e, on)
        by-sent false g = inl (both-of (not (nat_lt a sent)) (list_all is_fresh rest) (rw g refl) (fresh-from f sent (a + 1) m (let past = not-lt a sent g in omega (arith, past))))

left-few : (w : World) (ds : List Directive) (n : Notes) (k : ℕ) → left_told w ds n k ≤ 2
left-few w ds n k = less (nat_lt k n.sent) (has n.delivered_before k) (list_any (loses (slice_get w.envelopes k)) ds) (list_any (repeats (slice_get w.envelopes k)) ds) (times n.delivered k)
  where
    less : (a b c d : Bool) (i : ℕ) → cond a (cond b 0 (cond c 0 (cond d 2 1))) 1 - i ≤ 2
    less true true c d i = omega arith
    less true false true d i = omega arith
    less true false false true i = omega arith
    less true false false false i = omega arith
    less false b c d i = omega arith

pub waiting-in-order : (script : Script) (es : List Event) → is_live_so_far script es ≡ true → AreInOrder (length (progress script es).world.envelopes) 0 (progress script es).waiting
waiting-in-order script es h =
    let x = progress script es in
    let n = notes script.plan es in
    let w = run script.plan es in
    let ds = (phase_of script n.opened).directives in
    let told : x.waiting ≡ waiting_told w ds n = ap (λ (y : Progress). y.waiting) (progress-told script es h) in
    let order : AreInOrder (length w.envelopes) n.sent_before (waiting_told w ds n) =
    in-order (left_told w ds n) n.sent (length w.envelopes) n.sent_before (length w.envelopes - n.sent_before) (left-few w ds n) (λ k low high. omega (arith, low, high)) in
    let all : AreInOrder (length w.envelopes) 0 (waiting_told w ds n) = order-lower (length w.envelopes) 0 n.sent_before (waiting_told w ds n) (omega arith) order in
    subst (λ (v : World). AreInOrder (length v.envelopes) 0 x.waiting) (sym (progress-run script es)) (subst (λ (xs : List Undelivered). AreInOrder (length w.envelopes) 0 xs) (sym told) all)
