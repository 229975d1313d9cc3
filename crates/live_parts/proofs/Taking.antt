-- Envelopes that were sent are taken in, one after another; and whether one that is pending may come.
use Rattle.std.proofs.Common.{◌≡◌, ℕ, zero, suc, ◌+◌, ◌-◌, ◌≤◌, ◌<◌, Bool, true, false, not, cond, ◌&&◌, ◌||◌, ◌==◌, List, [], ◌∷◌, ◌++◌, map, length, refl, sym, subst, ap, ◌∙◌, arith, append_assoc, Option, Some, None, slice_get, inl, inr}
use Rattle.std.specs.List.{filter}
use Rattle.std.proofs.lemmas.List.{append-nil, map-append}
use Rattle.dpc_lists.specs.Lists.{nth, list_any, list_all, range_with_len}
use Rattle.world_model.specs.Worlds.{World, Envelope}
use Rattle.world_model.specs.Schedules.{Undelivered, newly_sent, may_come}
use Rattle.dpc_lists.proofs.Truths.{both, both-of, eq-test, lt-of, neither, or-of, and-false}
use Rattle.dpc_lists.proofs.Elements.{some-there, range-more}
use Rattle.law_schedules.proofs.Calm.{IsGrown}
use Rattle.law_schedules.proofs.Waits.{fresh_from}
use Rattle.live_parts.specs.declared.inbox.Awaited.{Awaited}
use Rattle.live_parts.specs.Inboxes.{is_due, newly_awaited, goes_to, awaited, waiting_at, StandsForWaiting}
use Rattle.live_parts.proofs.Ends.{ends}
use Rattle.live_parts.proofs.Filing.{is_known, grown-boxes, sent-boxes}

abbrev pub fresh : ℕ → Undelivered
fresh k = record { number = k; left = 1; pending = false }

-- with the envelopes from a number on, below another one
abbrev pub with_fresh : List Undelivered → ℕ → ℕ → List Undelivered
with_fresh xs first k = xs ++ fresh_from first (k - first)

pub taken_first : (boxes : List (List Awaited)) (w v : World) (xs : List Undelivered) (first : ℕ) → IsGrown w v → StandsForWaiting boxes w xs → StandsForWaiting boxes v (with_fresh xs first first)
taken_first boxes w v xs first c s =
    let none : first - first ≡ 0 = omega arith in
    subst (λ (ys : List Undelivered). StandsForWaiting boxes v ys) (sym (append-nil xs) ∙ ap (λ (n : ℕ). xs ++ fresh_from first n) (sym none)) (grown-boxes boxes w v xs c s)

fresh-one : (first k : ℕ) → first ≤ k → fresh_from first (k - first) ++ fresh k ∷ [] ≡ fresh_from first (k + 1 - first)
fresh-one first k h =
    let here : first + (k - first) ≡ k = omega (arith, h) in
    let more : (k - first) + 1 ≡ k + 1 - first = omega (arith, h) in
    ap (λ (n : ℕ). fresh_from first (k - first) ++ fresh n ∷ []) (sym here)
    ∙ sym (map-append fresh (range_with_len first (k - first)) ((first + (k - first)) ∷ []))
    ∙ ap (map fresh) (sym (range-more first (k - first)))
    ∙ ap (λ (n : ℕ). fresh_from first n) more

pub taken_next : (boxes new : List (List Awaited)) (v : World) (xs : List Undelivered) (first k : ℕ) (e : Envelope) → first ≤ k → slice_get v.envelopes k ≡ Some e → k < length v.envelopes →
    ((t : ℕ) → nth [] new t ≡ nth [] boxes t ++ cond (t == e.to) (newly_awaited k e.sender ∷ []) []) → StandsForWaiting boxes v (with_fresh xs first k) → StandsForWaiting new v (with_fresh xs first (k + 1))
taken_next boxes new v xs first k e h sent less added s =
    subst (λ (ys : List Undelivered). StandsForWaiting new v ys)
    (append_assoc xs (fresh_from first (k - first)) (fresh k ∷ []) ∙ ap (λ (ys : List Undelivered). xs ++ ys) (fresh-one first k h))
    (sent-boxes boxes new v k e (with_fresh xs first k) s sent less added)

-- the one that the world tells the ends of
pub taken_some : (boxes new : List (List Awaited)) (v : World) (xs : List Undelivered) (first k s to : ℕ) → first ≤ k → k < length v.envelopes → ◌≡◌ {A = Option (ℕ × ℕ)} (ends (slice_get v.envelopes k)) (Some (s, to)) →
    ((t : ℕ) → nth [] new t ≡ nth [] boxes t ++ cond (t == to) (newly_awaited k s ∷ []) []) → StandsForWaiting boxes v (with_fresh xs first k) → StandsForWaiting new v (with_fresh xs first (k + 1))
taken_some boxes new v xs first k s to h less told added stands =
    let found = some-there v.envelopes k less in
    let same : ◌≡◌ {A = Option (ℕ × ℕ)} (Some (found.0.sender, found.0.to)) (Some (s, to)) = sym (ap ends found.1) ∙ told in
    let parts : ◌≡◌ {A = ℕ × ℕ} (found.0.sender, found.0.to) (s, to) = cc in
    taken_next boxes new v xs first k found.0 h found.1 less
    (λ t. added t ∙ ap (λ (p : ℕ × ℕ). nth [] boxes t ++ cond (t == p.1) (newly_awaited k p.0 ∷ []) []) (sym parts)) stands

-- the world tells the ends of each that was sent
pub ends_there : (v : World) (k : ℕ) → k < length v.envelopes → ends (slice_get v.envelopes k) ≡ None → ⊥
ends_there v k less told = let found = some-there v.envelopes k less in let never : ◌≡◌ {A = Option (ℕ × ℕ)} (Some (found.0.sender, found.0.to)) None = sym (ap ends found.1) ∙ told in cc

pub taken_all : (boxes : List (List Awaited)) (w v : World) (xs : List Undelivered) (first : ℕ) → first ≡ length w.envelopes → StandsForWaiting boxes v (with_fresh xs first (length v.envelopes)) →
    StandsForWaiting boxes v (xs ++ newly_sent w v)
taken_all boxes w v xs first h s = subst (λ (n : ℕ). StandsForWaiting boxes v (xs ++ fresh_from n (length v.envelopes - n))) h s

-- ---- what is due

abbrev pub is_seen : World → Undelivered → Bool
is_seen w y = not y.pending || not (may_come w (slice_get w.envelopes y.number))

neither-is : (a b : Bool) → (not a || not b) ≡ not (a && b)
neither-is true b = refl
neither-is false b = refl

none-due : (w : World) (xs : List Undelivered) → list_all (is_known (length w.envelopes)) xs ≡ true → ((t : ℕ) → list_any (is_due w) (waiting_at w xs t) ≡ false) → list_all (is_seen w) xs ≡ true
none-due w [] k h = refl
none-due w (x ∷ xs) k h =
    let p = both (is_known (length w.envelopes) x) (list_all (is_known (length w.envelopes)) xs) k in
    let found = some-there w.envelopes x.number (lt-of x.number (length w.envelopes) p.0) in
    let there : goes_to found.0.to (slice_get w.envelopes x.number) ≡ true = ap (goes_to found.0.to) found.1 ∙ eq-test found.0.to found.0.to refl in
    let here : is_due w (awaited w x) ≡ false = first found.0.to (goes_to found.0.to (slice_get w.envelopes x.number)) there (h found.0.to) in
    both-of (is_seen w x) (list_all (is_seen w) xs) (neither-is x.pending (may_come w (slice_get w.envelopes x.number)) ∙ ap not here)
    (none-due w xs p.1 (λ t. rest t (goes_to t (slice_get w.envelopes x.number)) (h t)))
  where
    ys : ℕ → List Undelivered
    ys t = filter (λ (x : Undelivered). goes_to t (slice_get w.envelopes x.number)) xs

    first : (t : ℕ) (b : Bool) → b ≡ true → list_any (is_due w) (map (awaited w) (cond b (x ∷ ys t) (ys t))) ≡ false → is_due w (awaited w x) ≡ false
    first t true g h = (neither (is_due w (awaited w x)) (list_any (is_due w) (map (awaited w) (ys t))) h).0
    first t false g h = cc

    rest : (t : ℕ) (b : Bool) → list_any (is_due w) (map (awaited w) (cond b (x ∷ ys t) (ys t))) ≡ false → list_any (is_due w) (map (awaited w) (ys t)) ≡ false
    rest t true h = (neither (is_due w (awaited w x)) (list_any (is_due w) (map (awaited w) (ys t))) h).1
    rest t false h = h

some-due : (w : World) (t : ℕ) (xs : List Undelivered) → list_any (is_due w) (waiting_at w xs t) ≡ true → list_all (is_seen w) xs ≡ false
some-due w t [] h = cc
some-due w t (x ∷ xs) h = by-goes (goes_to t (slice_get w.envelopes x.number)) h (some-due w t xs)
  where
    ys : List Undelivered
    ys = filter (λ (x : Undelivered). goes_to t (slice_get w.envelopes x.number)) xs

    by-goes : (b : Bool) → list_any (is_due w) (map (awaited w) (cond b (x ∷ ys) ys)) ≡ true → (list_any (is_due w) (map (awaited w) ys) ≡ true → list_all (is_seen w) xs ≡ false) → (is_seen w x && list_all (is_seen w) xs) ≡ false
    by-goes false h on = and-false (is_seen w x) (list_all (is_seen w) xs) (on h)
    by-goes true h on =
        elim (or-of (is_due w (awaited w x)) (list_any (is_due w) (map (awaited w) ys)) h) [
          | inl here ↦ ap (λ (b : Bool). b && list_all (is_seen w) xs) (neither-is x.pending (may_come w (slice_get w.envelopes x.number)) ∙ ap not here)
          | inr there ↦ and-false (is_seen w x) (list_all (is_seen w) xs) (on there)
        ]

none-nth : (test : List Awaited → Bool) (boxes : List (List Awaited)) → test [] ≡ false → list_any test boxes ≡ false → (t : ℕ) → test (nth [] boxes t) ≡ false
none-nth test [] n h t = n
none-nth test (b ∷ boxes) n h zero = (neither (test b) (list_any test boxes) h).0
none-nth test (b ∷ boxes) n h (suc t) = none-nth test boxes n (neither (test b) (list_any test boxes) h).1 t

some-nth : (test : List Awaited → Bool) (boxes : List (List Awaited)) → list_any test boxes ≡ true → (t : ℕ) × (test (nth [] boxes t) ≡ true)
some-nth test [] h = cc
some-nth test (b ∷ boxes) h =
    elim (or-of (test b) (list_any test boxes) h) [
      | inl here ↦ (0, here)
      | inr there ↦ (let found = some-nth test boxes there in (suc found.0, found.1))
    ]

pub due-boxes : (boxes : List (List Awaited)) (w : World) (xs : List Undelivered) → StandsForWaiting boxes w xs → not (list_any (list_any (is_due w)) boxes) ≡ list_all (is_seen w) xs
due-boxes boxes w xs s = by-due (list_any (list_any (is_due w)) boxes) refl
  where
    by-due : (b : Bool) → list_any (list_any (is_due w)) boxes ≡ b → not b ≡ list_all (is_seen w) xs
    by-due true e = let found = some-nth (list_any (is_due w)) boxes e in sym (some-due w found.0 xs (ap (list_any (is_due w)) (sym (s.each found.0)) ∙ found.1))
    by-due false e = sym (none-due w xs s.known (λ t. ap (list_any (is_due w)) (sym (s.each t)) ∙ none-nth (list_any (is_due w)) boxes refl e t))
