-- The envelopes that wait: those that are pending, and behind them those sent in the phase.
use Rattle.std.proofs.Common.{◌≡◌, ℕ, zero, suc, ◌+◌, ◌-◌, ◌≤◌, ◌<◌, Bool, true, false, not, ◌&&◌, ◌||◌, ◌==◌, nat_lt, List, [], ◌∷◌, ◌++◌, map, length, refl, sym, ap, ◌∙◌, arith, append_assoc, Option, Some, None, slice_get}
use Rattle.dpc_lists.specs.Lists.{nth, list_all, range_with_len, place_of}
use Rattle.dpc_model.specs.declared.scripts.Directive.{Directive}
use Rattle.world_model.specs.Worlds.{World, Envelope}
use Rattle.world_model.specs.Schedules.{Undelivered, is_lost, pending_in, delivery_made, same_way, is_first_of_its_way, may_come}
use Rattle.dpc_lists.proofs.Truths.{both, both-of, lt-of, lt-test, eq-of, eq-test, not-of, or-right, true-not-false}
use Rattle.law_schedules.proofs.Calm.{IsLike, like-come}

-- ---- those sent in the phase

abbrev pub fresh_from : ℕ → ℕ → List Undelivered
fresh_from k n = map (λ (k : ℕ). record { number = k; left = 1; pending = false }) (range_with_len k n)

fresh-append : (k m n : ℕ) → fresh_from k m ++ fresh_from (k + m) n ≡ fresh_from k (m + n)
fresh-append k zero n = let none : k + 0 ≡ k = omega arith in let also : 0 + n ≡ n = omega arith in rw (none, also) refl
fresh-append k (suc m) n =
    let next : k + suc m ≡ k + 1 + m = omega arith in
    let whole : suc m + n ≡ suc (m + n) = omega arith in
    rw (next, whole) (ap (λ (xs : List Undelivered). record { number = k; left = 1; pending = false } ∷ xs) (fresh-append (k + 1) m n))

pub fresh-grown : (ws : List Undelivered) (start a b : ℕ) → start ≤ a → a ≤ b → (ws ++ fresh_from start (a - start)) ++ fresh_from a (b - a) ≡ ws ++ fresh_from start (b - start)
fresh-grown ws start a b h k =
    let here : start + (a - start) ≡ a = omega arith in
    let whole : (a - start) + (b - a) ≡ b - start = omega arith in
    let more : fresh_from start (a - start) ++ fresh_from a (b - a) ≡ fresh_from start (b - start) = rw (here, whole) at (fresh-append start (a - start) (b - a)) in
    append_assoc ws (fresh_from start (a - start)) (fresh_from a (b - a)) ∙ ap (λ (xs : List Undelivered). ws ++ xs) more

-- ---- those that become pending

abbrev pub is_pending : Undelivered → Bool
is_pending x = x.pending

pub pending-old : (w : World) (ds : List Directive) (old xs : List Undelivered) → list_all is_pending old ≡ true → pending_in w ds (old ++ xs) ≡ pending_in w ds xs
pending-old w ds [] xs h = refl
pending-old w ds (x ∷ old) xs h =
    let p = both x.pending (list_all is_pending old) h in
    let gone : (not x.pending && not (is_lost w ds x)) ≡ false = rw p.0 refl in
    rw gone (pending-old w ds old xs p.1)

pub get-grown : (xs ys : List Envelope) (k : ℕ) → k < length xs → slice_get (xs ++ ys) k ≡ slice_get xs k
get-grown [] ys k h = absurd (omega (arith, h))
get-grown (x ∷ xs) ys zero h = refl
get-grown (x ∷ xs) ys (suc k) h = get-grown xs ys k (omega (arith, h))

-- ---- those that cannot come

abbrev pub is_blocked : World → ℕ → Undelivered → Bool
is_blocked w k x = x.pending && nat_lt x.number k && not (may_come w (slice_get w.envelopes x.number))

pub come-kept : (w v : World) (k : ℕ) → IsLike w v → k < length w.envelopes → may_come v (slice_get v.envelopes k) ≡ may_come w (slice_get w.envelopes k)
come-kept w v k c h =
    let same : slice_get v.envelopes k ≡ slice_get w.envelopes k = ap (λ (es : List Envelope). slice_get es k) c.sent ∙ get-grown w.envelopes c.more k h in
    ap (λ (o : Option Envelope). may_come v o) same ∙ like-come w v c (slice_get w.envelopes k)

-- they stay so
pub blocked-kept : (w v : World) (k l : ℕ) (xs : List Undelivered) → IsLike w v → k ≤ length w.envelopes → k ≤ l → list_all (is_blocked w k) xs ≡ true → list_all (is_blocked v l) xs ≡ true
blocked-kept w v k l [] c few more h = refl
blocked-kept w v k l (x ∷ xs) c few more h =
    let p = both (is_blocked w k x) (list_all (is_blocked w k) xs) h in
    let q = both (x.pending && nat_lt x.number k) (not (may_come w (slice_get w.envelopes x.number))) p.0 in
    let r = both x.pending (nat_lt x.number k) q.0 in
    let low = lt-of x.number k r.1 in
    let same = come-kept w v x.number c (omega (arith, low)) in
    both-of (is_blocked v l x) (list_all (is_blocked v l) xs)
    (both-of (x.pending && nat_lt x.number l) _ (both-of x.pending _ r.0 (lt-test x.number l (omega (arith, low)))) (rw same q.1)) (blocked-kept w v k l xs c few more p.1)

-- all has been delivered where these alone are pending
pub blocked-done : (w : World) (k : ℕ) (xs ys : List Undelivered) → list_all (is_blocked w k) xs ≡ true → list_all (λ (y : Undelivered). not y.pending || not (may_come w (slice_get w.envelopes y.number))) ys ≡ true →
    list_all (λ (y : Undelivered). not y.pending || not (may_come w (slice_get w.envelopes y.number))) (xs ++ ys) ≡ true
blocked-done w k [] ys h g = g
blocked-done w k (x ∷ xs) ys h g =
    let p = both (is_blocked w k x) (list_all (is_blocked w k) xs) h in
    let q = both (x.pending && nat_lt x.number k) (not (may_come w (slice_get w.envelopes x.number))) p.0 in
    both-of _ _ (or-right (not x.pending) _ q.1) (blocked-done w k xs ys p.1 g)

pub fresh-done : (w : World) (k n : ℕ) → list_all (λ (y : Undelivered). not y.pending || not (may_come w (slice_get w.envelopes y.number))) (fresh_from k n) ≡ true
fresh-done w k zero = refl
fresh-done w k (suc n) = fresh-done w (k + 1) n

pub blocked-pending : (w : World) (k : ℕ) (xs : List Undelivered) → list_all (is_blocked w k) xs ≡ true → list_all is_pending xs ≡ true
blocked-pending w k [] h = refl
blocked-pending w k (x ∷ xs) h =
    let p = both (is_blocked w k x) (list_all (is_blocked w k) xs) h in
    let q = both (x.pending && nat_lt x.number k) (not (may_come w (slice_get w.envelopes x.number))) p.0 in
    both-of x.pending _ (both x.pending (nat_lt x.number k) q.0).0 (blocked-pending w k xs p.1)

-- ---- the first of its way

abbrev pub pend : ℕ → ℕ → Undelivered
pend k l = record { number = k; left = l; pending = true }

same-way-come : (w : World) (a b : Option Envelope) → may_come w a ≡ true → same_way a b ≡ true → may_come w b ≡ true
same-way-come w None b h e = cc
same-way-come w (Some d) None h e = cc
same-way-come w (Some d) (Some e) h f =
    let p = both (e.sender == d.sender) (e.to == d.to) f in
    rw (eq-of e.sender d.sender p.0, eq-of e.to d.to p.1) h

way-itself : (w : World) (a : Option Envelope) → may_come w a ≡ true → same_way a a ≡ true
way-itself w None h = cc
way-itself w (Some d) h = both-of (d.sender == d.sender) (d.to == d.to) (eq-test d.sender d.sender refl) (eq-test d.to d.to refl)

place-here : (test : Undelivered → Bool) (x : Undelivered) (xs : List Undelivered) → test x ≡ true → place_of test (x ∷ xs) ≡ Some 0
place-here test x xs e = rw e refl

abbrev after_first : Option ℕ → Option ℕ
after_first None = None
after_first (Some i) = Some (suc i)

place-there : (test : Undelivered → Bool) (x : Undelivered) (xs : List Undelivered) → test x ≡ false → place_of test (x ∷ xs) ≡ after_first (place_of test xs)
place-there test x xs e = rw e (same (place_of test xs))
  where
    same : (o : Option ℕ) → (elim o as (λ (_ : Option ℕ). Option ℕ) [ None ↦ None | Some i ↦ Some (suc i) ]) ≡ after_first o
    same None = refl
    same (Some i) = refl

pub first-way : (w : World) (k l : ℕ) (xs ys : List Undelivered) → may_come w (slice_get w.envelopes k) ≡ true → list_all (is_blocked w k) xs ≡ true → is_first_of_its_way w k (xs ++ pend k l ∷ ys) ≡ true
first-way w k l [] ys h g =
    let look : Option ℕ → Bool = λ o. elim o [ None ↦ false | Some i ↦ nth false (map (λ (x : Undelivered). x.number == k) (pend k l ∷ ys)) i ] in
    ap look
    (place-here (λ (x : Undelivered). same_way (slice_get w.envelopes k) (slice_get w.envelopes x.number)) (pend k l) ys (way-itself w (slice_get w.envelopes k) h))
    ∙ eq-test k k refl
first-way w k l (x ∷ xs) ys h g =
    let p = both (is_blocked w k x) (list_all (is_blocked w k) xs) g in
    let q = both (x.pending && nat_lt x.number k) (not (may_come w (slice_get w.envelopes x.number))) p.0 in
    let other : same_way (slice_get w.envelopes k) (slice_get w.envelopes x.number) ≡ false = apart (same_way (slice_get w.envelopes k) (slice_get w.envelopes x.number)) refl (not-of _ q.1) in
    let look : Option ℕ → Bool = λ o. elim o [ None ↦ false | Some i ↦ nth false (map (λ (x : Undelivered). x.number == k) (x ∷ (xs ++ pend k l ∷ ys))) i ] in
    let known : look (after_first (place_of (λ (x : Undelivered). same_way (slice_get w.envelopes k) (slice_get w.envelopes x.number)) (xs ++ pend k l ∷ ys))) ≡ true = skip (place_of (λ (x : Undelivered). same_way (slice_get w.envelopes k) (slice_get w.envelopes x.number)) (xs ++ pend k l ∷ ys)) (first-way w k l xs ys h p.1) in
    ap look
    (place-there (λ (x : Undelivered). same_way (slice_get w.envelopes k) (slice_get w.envelopes x.number)) x (xs ++ pend k l ∷ ys) other)
    ∙ known
  where
    apart : (b : Bool) → same_way (slice_get w.envelopes k) (slice_get w.envelopes x.number) ≡ b → may_come w (slice_get w.envelopes x.number) ≡ false → b ≡ false
    apart true e f = absurd (true-not-false (sym (same-way-come w (slice_get w.envelopes k) (slice_get w.envelopes x.number) h e) ∙ f))
    apart false e f = refl

    skip : (o : Option ℕ) → (elim o [ None ↦ false | Some i ↦ nth false (map (λ (x : Undelivered). x.number == k) (xs ++ pend k l ∷ ys)) i ]) ≡ true →
        (elim (after_first o) [ None ↦ false | Some i ↦ nth false (map (λ (x : Undelivered). x.number == k) (x ∷ (xs ++ pend k l ∷ ys))) i ]) ≡ true
    skip None e = e
    skip (Some i) e = e

-- ---- a delivery

made-behind : (w : World) (k : ℕ) (xs ys : List Undelivered) → list_all (is_blocked w k) xs ≡ true → delivery_made k (xs ++ ys) ≡ xs ++ delivery_made k ys
made-behind w k [] ys h = refl
made-behind w k (x ∷ xs) ys h =
    let p = both (is_blocked w k x) (list_all (is_blocked w k) xs) h in
    let q = both (x.pending && nat_lt x.number k) (not (may_come w (slice_get w.envelopes x.number))) p.0 in
    let low = lt-of x.number k (both x.pending (nat_lt x.number k) q.0).1 in
    let other : (x.number == k) ≡ false = apart (x.number == k) refl low in
    rw other (ap (λ (l : List Undelivered). x ∷ l) (made-behind w k xs ys p.1))
  where
    apart : (b : Bool) → (x.number == k) ≡ b → x.number < k → b ≡ false
    apart true e f = let same = eq-of x.number k e in absurd (omega (arith, same, f))
    apart false e f = refl

pub made-once : (w : World) (k : ℕ) (xs ys : List Undelivered) → list_all (is_blocked w k) xs ≡ true → delivery_made k (xs ++ pend k 1 ∷ ys) ≡ xs ++ ys
made-once w k xs ys h = let here = eq-test k k refl in made-behind w k xs (pend k 1 ∷ ys) h ∙ rw here refl

pub made-twice : (w : World) (k : ℕ) (xs ys : List Undelivered) → list_all (is_blocked w k) xs ≡ true → delivery_made k (xs ++ pend k 2 ∷ ys) ≡ xs ++ pend k 1 ∷ ys
made-twice w k xs ys h = let here = eq-test k k refl in made-behind w k xs (pend k 2 ∷ ys) h ∙ rw here refl
