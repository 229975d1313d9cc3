-- The envelopes that wait, as the notes tell them: what is sent, what is delivered, and what a phase makes of them.
use Rattle.std.proofs.Common.{◌≡◌, ℕ, ◌+◌, ◌-◌, ◌≤◌, ◌<◌, Bool, true, false, cond, ◌||◌, ◌==◌, nat_lt, List, [], ◌∷◌, ◌++◌, length, refl, sym, ap, ◌∙◌, arith, Option, slice_get}
use Rattle.std.specs.List.{filter}
use Rattle.std.proofs.lemmas.List.{append-nil}
use Rattle.dpc_lists.specs.Lists.{list_all, list_any, has}
use Rattle.dpc_model.specs.declared.scripts.Directive.{Directive}
use Rattle.world_model.specs.Worlds.{World, Envelope}
use Rattle.world_model.specs.Schedules.{Undelivered, loses, repeats, newly_sent, pending_in, delivery_made}
use Rattle.world_model.specs.Notes.{Notes, asked, times, left_told, waiting_told}
use Rattle.dpc_lists.proofs.Truths.{both, eq-of, eq-test, lt-of, lt-test, not-less}
use Rattle.law_schedules.proofs.Calm.{IsGrown, grown-longer}
use Rattle.law_schedules.proofs.Waits.{fresh_from, pending-old, get-grown}
use Rattle.law_notes.proofs.Entries.{entries, entries-append, entries-same, entries-fresh, entries-made, entries-pending, now_asked, entries-opened}

-- ---- how often a number stands in a list

other-number : (x k : ℕ) → (x ≡ k → ⊥) → (x == k) ≡ false
other-number x k h = by-test (x == k) refl
  where
    by-test : (b : Bool) → (x == k) ≡ b → b ≡ false
    by-test true e = absurd (h (eq-of x k e))
    by-test false e = refl

times-more : (k : ℕ) (ks : List ℕ) → times (k ∷ ks) k ≡ times ks k + 1
times-more k ks = let same = eq-test k k refl in rw same (omega arith)

times-apart : (k j : ℕ) (ks : List ℕ) → (j ≡ k → ⊥) → times (k ∷ ks) j ≡ times ks j
times-apart k j ks h = let apart = other-number k j (λ same. h (sym same)) in rw apart refl

-- all numbers of the list are below this one
abbrev pub are_below : ℕ → List ℕ → Bool
are_below b ks = list_all (λ k. nat_lt k b) ks

times-none : (b k : ℕ) (ks : List ℕ) → are_below b ks ≡ true → b ≤ k → times ks k ≡ 0
times-none b k [] h high = refl
times-none b k (x ∷ ks) h high =
    let p = both (nat_lt x b) (are_below b ks) h in
    let low = lt-of x b p.0 in
    let apart = other-number x k (λ same. absurd (omega (arith, low, high, same))) in
    rw apart (times-none b k ks p.1 high)

pub below-more : (a b : ℕ) (ks : List ℕ) → a ≤ b → are_below a ks ≡ true → are_below b ks ≡ true
below-more a b [] more h = refl
below-more a b (k ∷ ks) more h =
    let p = both (nat_lt k a) (are_below a ks) h in
    let low = lt-of k a p.0 in
    let here = lt-test k b (omega (arith, low, more)) in
    rw here (below-more a b ks more p.1)

-- what a phase asks for, of one that was sent before it
asked-once : (k n : ℕ) (ks : List ℕ) → cond (has ks k) 0 n - 0 ≡ cond (nat_lt 0 (1 - times ks k)) n 0
asked-once k n [] = omega arith
asked-once k n (x ∷ ks) =
    (elim (x == k) as (λ b. cond (b || has ks k) 0 n - 0 ≡ cond (nat_lt 0 (1 - length (cond b (x ∷ filter (λ y. y == k) ks) (filter (λ y. y == k) ks)))) n 0) [
      | true ↦ let none : 1 - length (x ∷ filter (λ y. y == k) ks) ≡ 0 = omega arith in rw none refl
      | false ↦ asked-once k n ks
    ])

-- ---- the notes of a world

-- the openings are in order, and what was delivered had been sent
pub record IsSound (w : World) (n : Notes) : Type 0 where
  pub order : n.sent_before ≤ n.sent
  pub grown : n.sent ≤ length w.envelopes
  pub known : are_below (length w.envelopes) n.delivered ≡ true

left-grown : (w v : World) (ds : List Directive) (n : Notes) (k : ℕ) → IsGrown w v → k < length w.envelopes → left_told w ds n k ≡ left_told v ds n k
left-grown w v ds n k c h =
    let same : slice_get w.envelopes k ≡ slice_get v.envelopes k = sym (ap (λ (es : List Envelope). slice_get es k) c.sent ∙ get-grown w.envelopes c.more k h) in
    ap (λ (o : Option Envelope). cond (nat_lt k n.sent) (cond (has n.delivered_before k) 0 (cond (list_any (loses o) ds) 0 (cond (list_any (repeats o) ds) 2 1))) 1 - times n.delivered k) same

left-new : (w v : World) (ds : List Directive) (n : Notes) (k : ℕ) → IsSound w n → length w.envelopes ≤ k → (left_told v ds n k ≡ 1) × (nat_lt k n.sent ≡ false)
left-new w v ds n k s h =
    let grown = s.grown in
    let past = not-less k n.sent (omega (arith, grown, h)) in
    let none = times-none (length w.envelopes) k n.delivered s.known h in
    (rw (past, none) refl, past)

-- envelopes were sent
pub waiting-sent : (w v : World) (ds : List Directive) (n : Notes) → IsGrown w v → IsSound w n → waiting_told w ds n ++ newly_sent w v ≡ waiting_told v ds n
waiting-sent w v ds n c s =
    let longer = grown-longer w v c in
    let order = s.order in
    let grown = s.grown in
    let first = n.sent_before in
    let old = length w.envelopes in
    let new = length v.envelopes in
    let here : n.sent_before + (length w.envelopes - n.sent_before) ≡ length w.envelopes = omega (arith, order, grown) in
    let whole : (length w.envelopes - n.sent_before) + (length v.envelopes - length w.envelopes) ≡ length v.envelopes - n.sent_before = omega (arith, order, grown, longer) in
    let p : ℕ → Bool = λ k. nat_lt k n.sent in
    let kept = entries-same (left_told w ds n) (left_told v ds n) p p first (old - first) (λ k low high. (left-grown w v ds n k c (omega (arith, low, high, here)), refl)) in
    let fresh = entries-fresh (left_told v ds n) p old (new - old) (λ k low high. left-new w v ds n k s low) in
    ap (λ (xs : List Undelivered). xs ++ newly_sent w v) kept
    ∙ ap (λ (xs : List Undelivered). entries (left_told v ds n) p first (old - first) ++ xs) (sym fresh)
    ∙ ap (λ (i : ℕ). entries (left_told v ds n) p first (old - first) ++ entries (left_told v ds n) p i (new - old)) (sym here)
    ∙ entries-append (left_told v ds n) p first (old - first) (new - old)
    ∙ ap (λ (m : ℕ). entries (left_told v ds n) p first m) whole

-- an envelope was delivered
pub waiting-made : (w : World) (ds : List Directive) (n : Notes) (k : ℕ) → delivery_made k (waiting_told w ds n) ≡ waiting_told w ds (record n { delivered = k ∷ n.delivered })
waiting-made w ds n k =
    entries-made k (left_told w ds n) (left_told w ds (record n { delivered = k ∷ n.delivered })) (λ j. nat_lt j n.sent) n.sent_before (length w.envelopes - n.sent_before)
    (record { here = here; apart = apart })
  where
    here : left_told w ds (record n { delivered = k ∷ n.delivered }) k ≡ left_told w ds n k - 1
    here = let more = times-more k n.delivered in less (cond (nat_lt k n.sent) (cond (has n.delivered_before k) 0 (asked w ds k)) 1) (times (k ∷ n.delivered) k) (times n.delivered k) more
      where
        less : (b i j : ℕ) → i ≡ j + 1 → b - i ≡ b - j - 1
        less b i j h = omega (arith, h)

    apart : (j : ℕ) → (j ≡ k → ⊥) → left_told w ds (record n { delivered = k ∷ n.delivered }) j ≡ left_told w ds n j
    apart j h = ap (λ (i : ℕ). cond (nat_lt j n.sent) (cond (has n.delivered_before j) 0 (asked w ds j)) 1 - i) (times-apart k j n.delivered h)

-- a phase was opened
abbrev pub at_opening : World → Notes → ℕ → List (ℕ × ℕ) → Notes
at_opening w n p ts = record { opened = p; directed = 0; sent = length w.envelopes; sent_before = n.sent; delivered = []; delivered_before = n.delivered; ticked = []; targets = ts }

pub waiting-opened : (w : World) (old ds : List Directive) (n : Notes) (p : ℕ) (ts : List (ℕ × ℕ)) → IsSound w n →
    pending_in w ds (waiting_told w old n) ++ newly_sent w w ≡ waiting_told w ds (at_opening w n p ts)
waiting-opened w old ds n p ts s =
    let order = s.order in
    let grown = s.grown in
    let here : n.sent_before + (n.sent - n.sent_before) ≡ n.sent = omega (arith, order) in
    let whole : (n.sent - n.sent_before) + (length w.envelopes - n.sent) ≡ length w.envelopes - n.sent_before = omega (arith, order, grown) in
    let none : length w.envelopes - length w.envelopes ≡ 0 = omega arith in
    let split : entries f q n.sent_before (n.sent - n.sent_before) ++ entries f q n.sent (length w.envelopes - n.sent) ≡ waiting_told w old n =
    ap (λ (i : ℕ). entries f q n.sent_before (n.sent - n.sent_before) ++ entries f q i (length w.envelopes - n.sent)) (sym here)
    ∙ entries-append f q n.sent_before (n.sent - n.sent_before) (length w.envelopes - n.sent)
    ∙ ap (λ (m : ℕ). entries f q n.sent_before m) whole in
    let opened : pending_in w ds (waiting_told w old n) ≡ waiting_told w ds (at_opening w n p ts) =
    ap (λ (xs : List Undelivered). pending_in w ds xs) (sym split)
    ∙ pending-old w ds (entries f q n.sent_before (n.sent - n.sent_before)) (entries f q n.sent (length w.envelopes - n.sent))
    (entries-pending f q n.sent_before (n.sent - n.sent_before) (λ k low high. lt-test k n.sent (omega (arith, high, here))))
    ∙ entries-opened w ds f q n.sent (length w.envelopes - n.sent) (λ k low high. not-less k n.sent low)
    ∙ entries-same (now_asked w ds f) (left_told w ds (at_opening w n p ts)) (λ _. true) (λ k. nat_lt k (length w.envelopes)) n.sent (length w.envelopes - n.sent)
    (λ k low high. let less = lt-test k (length w.envelopes) (omega (arith, grown, high)) in (asks k low less, sym less)) in
    ap (λ (m : ℕ). pending_in w ds (waiting_told w old n) ++ fresh_from (length w.envelopes) m) none ∙ append-nil (pending_in w ds (waiting_told w old n)) ∙ opened
  where
    f : ℕ → ℕ
    f = left_told w old n

    q : ℕ → Bool
    q = λ k. nat_lt k n.sent

    asks : (k : ℕ) → n.sent ≤ k → nat_lt k (length w.envelopes) ≡ true → now_asked w ds f k ≡ left_told w ds (at_opening w n p ts) k
    asks k low less =
        let past = not-less k n.sent low in
        rw (past, less) (sym (asked-once k (asked w ds k) n.delivered))
