-- The envelopes that wait, told for each addressee.
use Rattle.std.proofs.Common.{◌≡◌, ℕ, zero, suc, ◌-◌, ◌≤◌, ◌<◌, Bool, true, false, not, cond, ◌&&◌, ◌==◌, nat_lt, List, [], ◌∷◌, ◌++◌, map, length, refl, sym, subst, ap, ◌∙◌, arith, Option, Some, None, slice_get, slice_index_or}
use Rattle.std.specs.List.{filter, slice_set}
use Rattle.std.proofs.lemmas.List.{append-nil, map-append}
use Rattle.std.proofs.lemmas.List.Elements.{filter-append}
use Rattle.dpc_lists.specs.Lists.{nth, changed, list_any, list_all}
use Rattle.dpc_model.specs.declared.scripts.Directive.{Directive}
use Rattle.dpc_model.specs.declared.scripts.Directive.TheVariants as directive
use Rattle.world_model.specs.Worlds.{World, Envelope}
use Rattle.world_model.specs.Schedules.{Undelivered, goes, loses, repeats, same_way, is_first_of_its_way, delivery_made, pending_in, becomes_pending, is_lost}
use Rattle.dpc_lists.proofs.Truths.{both, both-of, eq-of, eq-test, lt-of, lt-test, and-none, and-true, any-same, true-not-false}
use Rattle.dpc_lists.proofs.Elements.{set-changed}
use Rattle.law_schedules.proofs.Calm.{IsGrown, grown-longer}
use Rattle.law_schedules.proofs.Waits.{get-grown}
use Rattle.live_parts.specs.declared.inbox.Awaited.{Awaited}
use Rattle.live_parts.specs.Inboxes.{first_that, is_first_from, made_from, loses_way, repeats_way, becomes_due, is_kept, opened, newly_awaited, sender_in, goes_to, awaited, waiting_at, StandsForWaiting}
use Rattle.live_parts.proofs.Firsts.{first-of}

-- ---- the first of its way

first-filed : (w : World) (s t k : ℕ) (xs : List Undelivered) →
    first_that (λ (x : Undelivered). goes s t (slice_get w.envelopes x.number)) (λ (x : Undelivered). x.number == k) xs ≡ is_first_from s k (waiting_at w xs t)
first-filed w s t k [] = refl
first-filed w s t k (x ∷ xs) = by-envelope (slice_get w.envelopes x.number) refl (first-filed w s t k xs)
  where
    rest : Bool
    rest = first_that (λ (x : Undelivered). goes s t (slice_get w.envelopes x.number)) (λ (x : Undelivered). x.number == k) xs

    ys : List Undelivered
    ys = filter (λ (x : Undelivered). goes_to t (slice_get w.envelopes x.number)) xs

    by-envelope : (o : Option Envelope) → slice_get w.envelopes x.number ≡ o → rest ≡ is_first_from s k (map (awaited w) ys) →
        cond (goes s t o) (x.number == k) rest ≡ is_first_from s k (map (awaited w) (cond (goes_to t o) (x ∷ ys) ys))
    by-envelope None e on = on
    by-envelope (Some f) e on = by-to (f.to == t)
      where
        by-to : (b : Bool) → cond (f.sender == s && b) (x.number == k) rest ≡ is_first_from s k (map (awaited w) (cond b (x ∷ ys) ys))
        by-to true =
            let from : sender_in (slice_get w.envelopes x.number) ≡ f.sender = ap sender_in e in
            ap (λ (c : Bool). cond c (x.number == k) rest) (and-true (f.sender == s))
            ∙ ap (λ (r : Bool). cond (f.sender == s) (x.number == k) r) on
            ∙ ap (λ (n : ℕ). cond (n == s) (x.number == k) (is_first_from s k (map (awaited w) ys))) (sym from)
        by-to false = ap (λ (c : Bool). cond c (x.number == k) rest) (and-none (f.sender == s)) ∙ on

pub first-way-filed : (w : World) (k : ℕ) (e : Envelope) (xs : List Undelivered) → slice_get w.envelopes k ≡ Some e → is_first_from e.sender k (waiting_at w xs e.to) ≡ is_first_of_its_way w k xs
first-way-filed w k e xs h =
    sym (first-filed w e.sender e.to k xs)
    ∙ ap (λ (o : Option Envelope). first_that (λ (x : Undelivered). same_way o (slice_get w.envelopes x.number)) (λ (x : Undelivered). x.number == k) xs) (sym h)
    ∙ sym (first-of (λ (x : Undelivered). same_way (slice_get w.envelopes k) (slice_get w.envelopes x.number)) (λ (x : Undelivered). x.number == k) xs)

pub first-way-none : (w : World) (k : ℕ) (e : Envelope) (xs : List Undelivered) → waiting_at w xs e.to ≡ [] → slice_get w.envelopes k ≡ Some e → false ≡ is_first_of_its_way w k xs
first-way-none w k e xs none h = ap (is_first_from e.sender k) (sym none) ∙ first-way-filed w k e xs h

-- ---- a delivery

-- the first of a way is the first with its number
made-here : (w : World) (k : ℕ) (e : Envelope) (xs : List Undelivered) → slice_get w.envelopes k ≡ Some e →
    first_that (λ (x : Undelivered). goes e.sender e.to (slice_get w.envelopes x.number)) (λ (x : Undelivered). x.number == k) xs ≡ true →
    made_from e.sender (waiting_at w xs e.to) ≡ waiting_at w (delivery_made k xs) e.to
made-here w k e [] h first = refl
made-here w k e (x ∷ xs) h first = by-number (x.number == k) refl (made-here w k e xs h)
  where
    ys : List Undelivered
    ys = filter (λ (x : Undelivered). goes_to e.to (slice_get w.envelopes x.number)) xs

    zs : List Undelivered
    zs = filter (λ (x : Undelivered). goes_to e.to (slice_get w.envelopes x.number)) (delivery_made k xs)

    rest : Bool
    rest = first_that (λ (x : Undelivered). goes e.sender e.to (slice_get w.envelopes x.number)) (λ (x : Undelivered). x.number == k) xs

    one : Undelivered
    one = record x { left = x.left - 1 }

    by-left : (b : Bool) → goes_to e.to (slice_get w.envelopes x.number) ≡ true →
        cond b (map (awaited w) ys) (awaited w one ∷ map (awaited w) ys) ≡ map (awaited w) (filter (λ (x : Undelivered). goes_to e.to (slice_get w.envelopes x.number)) (cond b xs (one ∷ xs)))
    by-left true g = refl
    by-left false g = rw g refl

    by-sender : (d : Envelope) (c : Bool) → slice_get w.envelopes x.number ≡ Some d → (d.sender == e.sender) ≡ c → cond c false rest ≡ true → (rest ≡ true → made_from e.sender (map (awaited w) ys) ≡ map (awaited w) zs) →
        made_from e.sender (awaited w x ∷ map (awaited w) ys) ≡ awaited w x ∷ map (awaited w) zs
    by-sender d true there g f on = absurd (true-not-false (sym f))
    by-sender d false there g f on =
        let from : (sender_in (slice_get w.envelopes x.number) == e.sender) ≡ false = ap (λ (o : Option Envelope). sender_in o == e.sender) there ∙ g in
        rw from (ap (λ (qs : List Awaited). awaited w x ∷ qs) (on f))

    by-to : (d : Envelope) (c : Bool) → slice_get w.envelopes x.number ≡ Some d → cond (d.sender == e.sender && c) false rest ≡ true → (rest ≡ true → made_from e.sender (map (awaited w) ys) ≡ map (awaited w) zs) →
        made_from e.sender (map (awaited w) (cond c (x ∷ ys) ys)) ≡ map (awaited w) (cond c (x ∷ zs) zs)
    by-to d false there f on = on (subst (λ (c : Bool). cond c false rest ≡ true) (and-none (d.sender == e.sender)) f)
    by-to d true there f on = by-sender d (d.sender == e.sender) there refl (subst (λ (c : Bool). cond c false rest ≡ true) (and-true (d.sender == e.sender)) f) on

    by-envelope : (o : Option Envelope) → slice_get w.envelopes x.number ≡ o → cond (goes e.sender e.to o) false rest ≡ true → (rest ≡ true → made_from e.sender (map (awaited w) ys) ≡ map (awaited w) zs) →
        made_from e.sender (map (awaited w) (cond (goes_to e.to o) (x ∷ ys) ys)) ≡ map (awaited w) (cond (goes_to e.to o) (x ∷ zs) zs)
    by-envelope None there f on = on f
    by-envelope (Some d) there f on = by-to d (d.to == e.to) there f on

    by-number : (b : Bool) → (x.number == k) ≡ b → (rest ≡ true → made_from e.sender (map (awaited w) ys) ≡ map (awaited w) zs) →
        made_from e.sender (map (awaited w) (cond (goes_to e.to (slice_get w.envelopes x.number)) (x ∷ ys) ys))
        ≡ map (awaited w) (filter (λ (x : Undelivered). goes_to e.to (slice_get w.envelopes x.number)) (cond b (cond (x.left == 1) xs (one ∷ xs)) (x ∷ delivery_made k xs)))
    by-number true g on =
        let there : slice_get w.envelopes x.number ≡ Some e = ap (λ (n : ℕ). slice_get w.envelopes n) (eq-of x.number k g) ∙ h in
        let inside : goes_to e.to (slice_get w.envelopes x.number) ≡ true = ap (goes_to e.to) there ∙ eq-test e.to e.to refl in
        let from : (sender_in (slice_get w.envelopes x.number) == e.sender) ≡ true = eq-test (sender_in (slice_get w.envelopes x.number)) e.sender (ap sender_in there) in
        ap (λ (c : Bool). made_from e.sender (map (awaited w) (cond c (x ∷ ys) ys))) inside
        ∙ ap (λ (c : Bool). cond c (cond (x.left == 1) (map (awaited w) ys) (awaited w one ∷ map (awaited w) ys)) (awaited w x ∷ made_from e.sender (map (awaited w) ys))) from
        ∙ by-left (x.left == 1) inside
    by-number false g on =
        by-envelope (slice_get w.envelopes x.number) refl
        (subst (λ (c : Bool). cond (goes e.sender e.to (slice_get w.envelopes x.number)) c rest ≡ true) g first) on

made-apart : (w : World) (k t : ℕ) (e : Envelope) (xs : List Undelivered) → slice_get w.envelopes k ≡ Some e → (e.to == t) ≡ false →
    waiting_at w xs t ≡ waiting_at w (delivery_made k xs) t
made-apart w k t e [] h apart = refl
made-apart w k t e (x ∷ xs) h apart = by-number (x.number == k) refl (made-apart w k t e xs h apart)
  where
    ys : List Undelivered
    ys = filter (λ (x : Undelivered). goes_to t (slice_get w.envelopes x.number)) xs

    zs : List Undelivered
    zs = filter (λ (x : Undelivered). goes_to t (slice_get w.envelopes x.number)) (delivery_made k xs)

    one : Undelivered
    one = record x { left = x.left - 1 }

    by-left : (b : Bool) → goes_to t (slice_get w.envelopes x.number) ≡ false →
        map (awaited w) ys ≡ map (awaited w) (filter (λ (x : Undelivered). goes_to t (slice_get w.envelopes x.number)) (cond b xs (one ∷ xs)))
    by-left true g = refl
    by-left false g = rw g refl

    by-goes : (c : Bool) → map (awaited w) ys ≡ map (awaited w) zs → map (awaited w) (cond c (x ∷ ys) ys) ≡ map (awaited w) (cond c (x ∷ zs) zs)
    by-goes true on = ap (λ (qs : List Awaited). awaited w x ∷ qs) on
    by-goes false on = on

    by-number : (b : Bool) → (x.number == k) ≡ b → map (awaited w) ys ≡ map (awaited w) zs →
        map (awaited w) (cond (goes_to t (slice_get w.envelopes x.number)) (x ∷ ys) ys)
        ≡ map (awaited w) (filter (λ (x : Undelivered). goes_to t (slice_get w.envelopes x.number)) (cond b (cond (x.left == 1) xs (one ∷ xs)) (x ∷ delivery_made k xs)))
    by-number true g on =
        let outside : goes_to t (slice_get w.envelopes x.number) ≡ false = ap (goes_to t) (ap (λ (n : ℕ). slice_get w.envelopes n) (eq-of x.number k g) ∙ h) ∙ apart in
        ap (λ (c : Bool). map (awaited w) (cond c (x ∷ ys) ys)) outside ∙ by-left (x.left == 1) outside
    by-number false g on = by-goes (goes_to t (slice_get w.envelopes x.number)) on

abbrev pub is_known : ℕ → Undelivered → Bool
is_known n x = nat_lt x.number n

known-made : (n k : ℕ) (xs : List Undelivered) → list_all (is_known n) xs ≡ true → list_all (is_known n) (delivery_made k xs) ≡ true
known-made n k [] h = refl
known-made n k (x ∷ xs) h = let p = both (is_known n x) (list_all (is_known n) xs) h in by-number (x.number == k) (x.left == 1) p.0 p.1 (known-made n k xs p.1)
  where
    by-number : (b c : Bool) → is_known n x ≡ true → list_all (is_known n) xs ≡ true → list_all (is_known n) (delivery_made k xs) ≡ true →
        list_all (is_known n) (cond b (cond c xs (record x { left = x.left - 1 } ∷ xs)) (x ∷ delivery_made k xs)) ≡ true
    by-number true true here all on = all
    by-number true false here all on = both-of (is_known n x) (list_all (is_known n) xs) here all
    by-number false c here all on = both-of (is_known n x) (list_all (is_known n) (delivery_made k xs)) here on

-- ---- a box changed in its place

nth-changed : {X : Type 0} (i : ℕ) (f : List X → List X) (xs : List (List X)) → f [] ≡ [] → nth [] (changed i f xs) i ≡ f (nth [] xs i)
nth-changed i f [] h = sym h
nth-changed zero f (x ∷ xs) h = refl
nth-changed (suc i) f (x ∷ xs) h = nth-changed i f xs h

nth-apart : {X : Type 0} (i j : ℕ) (f : List X → List X) (xs : List (List X)) → (i ≡ j → ⊥) → nth [] (changed i f xs) j ≡ nth [] xs j
nth-apart i j f [] h = refl
nth-apart zero zero f (x ∷ xs) h = absurd (h refl)
nth-apart zero (suc j) f (x ∷ xs) h = refl
nth-apart (suc i) zero f (x ∷ xs) h = refl
nth-apart (suc i) (suc j) f (x ∷ xs) h = nth-apart i j f xs (λ same. h (ap suc same))

apart-of : (a b : ℕ) → (a == b) ≡ false → a ≡ b → ⊥
apart-of a b h same = true-not-false (sym (eq-test a b same) ∙ h)

pub made_boxes : (boxes new : List (List Awaited)) (w : World) (xs : List Undelivered) (k : ℕ) (e : Envelope) → StandsForWaiting boxes w xs → slice_get w.envelopes k ≡ Some e →
    is_first_of_its_way w k xs ≡ true → new ≡ changed e.to (made_from e.sender) boxes → StandsForWaiting new w (delivery_made k xs)
made_boxes boxes new w xs k e s h first same = record { each = each; known = known-made (length w.envelopes) k xs s.known }
  where
    goes_so : first_that (λ (x : Undelivered). goes e.sender e.to (slice_get w.envelopes x.number)) (λ (x : Undelivered). x.number == k) xs ≡ true
    goes_so = first-filed w e.sender e.to k xs ∙ first-way-filed w k e xs h ∙ first

    by-same : (t : ℕ) (b : Bool) → (e.to == t) ≡ b → nth [] (changed e.to (made_from e.sender) boxes) t ≡ waiting_at w (delivery_made k xs) t
    by-same t true g =
        subst (λ (u : ℕ). nth [] (changed e.to (made_from e.sender) boxes) u ≡ waiting_at w (delivery_made k xs) u) (eq-of e.to t g)
        (nth-changed e.to (made_from e.sender) boxes refl ∙ ap (made_from e.sender) (s.each e.to) ∙ made-here w k e xs h goes_so)
    by-same t false g = nth-apart e.to t (made_from e.sender) boxes (apart-of e.to t g) ∙ s.each t ∙ made-apart w k t e xs h g

    each : (t : ℕ) → nth [] new t ≡ waiting_at w (delivery_made k xs) t
    each t = ap (λ (bs : List (List Awaited)). nth [] bs t) same ∙ by-same t (e.to == t) refl

-- ---- a phase

loses-so : (f : Envelope) (d : Directive) → loses (Some f) d ≡ loses_way f.sender f.to d
loses-so f (directive.Lose a b) = refl
loses-so f (directive.Repeat a b) = refl
loses-so f (directive.Emit s t) = refl
loses-so f (directive.Release s t) = refl
loses-so f (directive.Cut a b) = refl
loses-so f (directive.Heal a b) = refl
loses-so f (directive.Crash a) = refl
loses-so f (directive.Restart a) = refl

repeats-so : (f : Envelope) (d : Directive) → repeats (Some f) d ≡ repeats_way f.sender f.to d
repeats-so f (directive.Lose a b) = refl
repeats-so f (directive.Repeat a b) = refl
repeats-so f (directive.Emit s t) = refl
repeats-so f (directive.Release s t) = refl
repeats-so f (directive.Cut a b) = refl
repeats-so f (directive.Heal a b) = refl
repeats-so f (directive.Crash a) = refl
repeats-so f (directive.Restart a) = refl

lost-so : (o : Option Envelope) (t : ℕ) (ds : List Directive) → goes_to t o ≡ true → list_any (loses_way (sender_in o) t) ds ≡ list_any (loses o) ds
lost-so None t ds g = absurd (true-not-false (sym g))
lost-so (Some f) t ds g = subst (λ (u : ℕ). list_any (loses_way f.sender u) ds ≡ list_any (loses (Some f)) ds) (eq-of f.to t g) (any-same (loses_way f.sender f.to) (loses (Some f)) ds (λ d. sym (loses-so f d)))

repeated-so : (o : Option Envelope) (t : ℕ) (ds : List Directive) → goes_to t o ≡ true → list_any (repeats_way (sender_in o) t) ds ≡ list_any (repeats o) ds
repeated-so None t ds g = absurd (true-not-false (sym g))
repeated-so (Some f) t ds g = subst (λ (u : ℕ). list_any (repeats_way f.sender u) ds ≡ list_any (repeats (Some f)) ds) (eq-of f.to t g) (any-same (repeats_way f.sender f.to) (repeats (Some f)) ds (λ d. sym (repeats-so f d)))

opened-filed : (w : World) (ds : List Directive) (t : ℕ) (xs : List Undelivered) → opened t ds (waiting_at w xs t) ≡ waiting_at w (pending_in w ds xs) t
opened-filed w ds t [] = refl
opened-filed w ds t (x ∷ xs) = by-goes (goes_to t (slice_get w.envelopes x.number)) refl (opened-filed w ds t xs)
  where
    ys : List Undelivered
    ys = filter (λ (x : Undelivered). goes_to t (slice_get w.envelopes x.number)) xs

    us : List Undelivered
    us = filter (λ (x : Undelivered). not x.pending && not (is_lost w ds x)) xs

    ks : List Awaited
    ks = filter (is_kept t ds) (map (awaited w) ys)

    vs : List Undelivered
    vs = filter (λ (x : Undelivered). goes_to t (slice_get w.envelopes x.number)) (map (becomes_pending w ds) us)

    outside : (c : Bool) → goes_to t (slice_get w.envelopes x.number) ≡ false → map (becomes_due t ds) ks ≡ map (awaited w) vs →
        map (becomes_due t ds) ks ≡ map (awaited w) (filter (λ (x : Undelivered). goes_to t (slice_get w.envelopes x.number)) (map (becomes_pending w ds) (cond c (x ∷ us) us)))
    outside true g on = rw g on
    outside false g on = on

    inside : (c : Bool) → goes_to t (slice_get w.envelopes x.number) ≡ true → map (becomes_due t ds) ks ≡ map (awaited w) vs →
        map (becomes_due t ds) (cond c (awaited w x ∷ ks) ks)
        ≡ map (awaited w) (filter (λ (x : Undelivered). goes_to t (slice_get w.envelopes x.number)) (map (becomes_pending w ds) (cond c (x ∷ us) us)))
    inside true g on =
        let same = repeated-so (slice_get w.envelopes x.number) t ds g in
        ap (λ (b : Bool). record (awaited w x) { left = cond b 2 1; pending = true } ∷ map (becomes_due t ds) ks) same
        ∙ ap (λ (qs : List Awaited). awaited w (becomes_pending w ds x) ∷ qs) on
        ∙ ap (λ (c : Bool). map (awaited w) (cond c (becomes_pending w ds x ∷ vs) vs)) (sym g)
    inside false g on = on

    by-goes : (b : Bool) → goes_to t (slice_get w.envelopes x.number) ≡ b → map (becomes_due t ds) ks ≡ map (awaited w) vs →
        map (becomes_due t ds) (filter (is_kept t ds) (map (awaited w) (cond b (x ∷ ys) ys)))
        ≡ map (awaited w) (filter (λ (x : Undelivered). goes_to t (slice_get w.envelopes x.number)) (map (becomes_pending w ds) (cond (not x.pending && not (is_lost w ds x)) (x ∷ us) us)))
    by-goes false g on = outside (not x.pending && not (is_lost w ds x)) g on
    by-goes true g on =
        ap (λ (c : Bool). map (becomes_due t ds) (cond (not x.pending && not c) (awaited w x ∷ ks) ks)) (lost-so (slice_get w.envelopes x.number) t ds g)
        ∙ inside (not x.pending && not (is_lost w ds x)) g on

known-pending : (w : World) (ds : List Directive) (n : ℕ) (xs : List Undelivered) → list_all (is_known n) xs ≡ true → list_all (is_known n) (pending_in w ds xs) ≡ true
known-pending w ds n [] h = refl
known-pending w ds n (x ∷ xs) h = let p = both (is_known n x) (list_all (is_known n) xs) h in by-kept (not x.pending && not (is_lost w ds x)) p.0 (known-pending w ds n xs p.1)
  where
    us : List Undelivered
    us = filter (λ (x : Undelivered). not x.pending && not (is_lost w ds x)) xs

    by-kept : (c : Bool) → is_known n x ≡ true → list_all (is_known n) (map (becomes_pending w ds) us) ≡ true → list_all (is_known n) (map (becomes_pending w ds) (cond c (x ∷ us) us)) ≡ true
    by-kept true here on = both-of (is_known n x) (list_all (is_known n) (map (becomes_pending w ds) us)) here on
    by-kept false here on = on

pub opened_boxes : (boxes new : List (List Awaited)) (w : World) (ds : List Directive) (xs : List Undelivered) → StandsForWaiting boxes w xs → ((t : ℕ) → nth [] new t ≡ opened t ds (nth [] boxes t)) →
    StandsForWaiting new w (pending_in w ds xs)
opened_boxes boxes new w ds xs s h =
    record {
      each = λ t. h t ∙ ap (opened t ds) (s.each t) ∙ opened-filed w ds t xs;
      known = known-pending w ds (length w.envelopes) xs s.known;
    }

-- ---- envelopes are sent

grown-filed : (w v : World) (t : ℕ) (xs : List Undelivered) → IsGrown w v → list_all (is_known (length w.envelopes)) xs ≡ true → waiting_at w xs t ≡ waiting_at v xs t
grown-filed w v t [] c h = refl
grown-filed w v t (x ∷ xs) c h =
    let p = both (is_known (length w.envelopes) x) (list_all (is_known (length w.envelopes)) xs) h in
    let same : slice_get w.envelopes x.number ≡ slice_get v.envelopes x.number =
    sym (ap (λ (es : List Envelope). slice_get es x.number) c.sent ∙ get-grown w.envelopes c.more x.number (lt-of x.number (length w.envelopes) p.0)) in
    by-goes (goes_to t (slice_get v.envelopes x.number)) same (ap (goes_to t) same) (grown-filed w v t xs c p.1)
  where
    ys : List Undelivered
    ys = filter (λ (x : Undelivered). goes_to t (slice_get w.envelopes x.number)) xs

    zs : List Undelivered
    zs = filter (λ (x : Undelivered). goes_to t (slice_get v.envelopes x.number)) xs

    by-goes : (b : Bool) → slice_get w.envelopes x.number ≡ slice_get v.envelopes x.number → goes_to t (slice_get w.envelopes x.number) ≡ b → map (awaited w) ys ≡ map (awaited v) zs →
        map (awaited w) (cond (goes_to t (slice_get w.envelopes x.number)) (x ∷ ys) ys) ≡ map (awaited v) (cond b (x ∷ zs) zs)
    by-goes true same g on =
        ap (λ (c : Bool). map (awaited w) (cond c (x ∷ ys) ys)) g
        ∙ ap (λ (o : Option Envelope). record { number = x.number; sender = sender_in o; left = x.left; pending = x.pending } ∷ map (awaited w) ys) same
        ∙ ap (λ (qs : List Awaited). awaited v x ∷ qs) on
    by-goes false same g on = ap (λ (c : Bool). map (awaited w) (cond c (x ∷ ys) ys)) g ∙ on

known-more : (m n : ℕ) (xs : List Undelivered) → m ≤ n → list_all (is_known m) xs ≡ true → list_all (is_known n) xs ≡ true
known-more m n [] h k = refl
known-more m n (x ∷ xs) h k =
    let p = both (is_known m x) (list_all (is_known m) xs) k in
    let low = lt-of x.number m p.0 in
    both-of (is_known n x) (list_all (is_known n) xs) (lt-test x.number n (omega (arith, h, low))) (known-more m n xs h p.1)

pub grown-boxes : (boxes : List (List Awaited)) (w v : World) (xs : List Undelivered) → IsGrown w v → StandsForWaiting boxes w xs → StandsForWaiting boxes v xs
grown-boxes boxes w v xs c s =
    record {
      each = λ t. s.each t ∙ grown-filed w v t xs c s.known;
      known = known-more (length w.envelopes) (length v.envelopes) xs (grown-longer w v c) s.known;
    }

known-append : (n : ℕ) (xs ys : List Undelivered) → list_all (is_known n) xs ≡ true → list_all (is_known n) ys ≡ true → list_all (is_known n) (xs ++ ys) ≡ true
known-append n [] ys h k = k
known-append n (x ∷ xs) ys h k =
    let p = both (is_known n x) (list_all (is_known n) xs) h in both-of (is_known n x) (list_all (is_known n) (xs ++ ys)) p.0 (known-append n xs ys p.1 k)

-- one more waits, at the addressee of its envelope
pub sent-boxes : (boxes new : List (List Awaited)) (w : World) (k : ℕ) (e : Envelope) (xs : List Undelivered) → StandsForWaiting boxes w xs → slice_get w.envelopes k ≡ Some e → k < length w.envelopes →
    ((t : ℕ) → nth [] new t ≡ nth [] boxes t ++ cond (t == e.to) (newly_awaited k e.sender ∷ []) []) → StandsForWaiting new w (xs ++ record { number = k; left = 1; pending = false } ∷ [])
sent-boxes boxes new w k e xs s h less added =
    record {
      each = each;
      known = known-append (length w.envelopes) xs (record { number = k; left = 1; pending = false } ∷ []) s.known (both-of (nat_lt k (length w.envelopes)) true (lt-test k (length w.envelopes) less) refl);
    }
  where
    one : Undelivered
    one = record { number = k; left = 1; pending = false }

    test : ℕ → Undelivered → Bool
    test t x = goes_to t (slice_get w.envelopes x.number)

    turned : (a b : ℕ) → (a == b) ≡ (b == a)
    turned a b = by-test (b == a) refl
      where
        by-test : (c : Bool) → (b == a) ≡ c → (a == b) ≡ c
        by-test true g = eq-test a b (sym (eq-of b a g))
        by-test false g = other (a == b) refl
          where
            other : (d : Bool) → (a == b) ≡ d → d ≡ false
            other true k = absurd (apart-of b a g (sym (eq-of a b k)))
            other false k = refl

    by-to : (b : Bool) → cond b (newly_awaited k e.sender ∷ []) [] ≡ map (awaited w) (cond b (one ∷ []) [])
    by-to true = ap (λ (o : Option Envelope). record { number = k; sender = sender_in o; left = 1; pending = false } ∷ []) (sym h)
    by-to false = refl

    each : (t : ℕ) → nth [] new t ≡ waiting_at w (xs ++ one ∷ []) t
    each t =
        added t
        ∙ ap (λ (qs : List Awaited). qs ++ cond (t == e.to) (newly_awaited k e.sender ∷ []) []) (s.each t)
        ∙ ap (λ (qs : List Awaited). waiting_at w xs t ++ qs) (by-to (t == e.to))
        ∙ ap (λ (c : Bool). waiting_at w xs t ++ map (awaited w) (cond c (one ∷ []) [])) (turned t e.to ∙ ap (goes_to t) (sym h))
        ∙ sym (map-append (awaited w) (filter (test t) xs) (filter (test t) (one ∷ [])))
        ∙ ap (map (awaited w)) (sym (filter-append (test t) xs (one ∷ [])))

pub changed_set : {X : Type 0} (xs : List X) (i : ℕ) (f : X → X) (old new : X) → i < length xs → old ≡ slice_index_or xs i old → new ≡ f old → slice_set xs i new ≡ changed i f xs
changed_set xs i f old new h o n = set-changed xs i f old new h o n

pub changed_past : {X : Type 0} (xs : List X) (i : ℕ) (f : X → X) → length xs ≤ i → changed i f xs ≡ xs
changed_past [] i f h = refl
changed_past (x ∷ xs) zero f h = absurd (omega (arith, h))
changed_past {X = X} (x ∷ xs) (suc i) f h = ap (λ (ys : List X). x ∷ ys) (changed_past xs i f (omega (arith, h)))

-- an empty list more at the end
pub nth_more : {X : Type 0} (xs : List (List X)) (y : List X) (t : ℕ) → y ≡ [] → nth [] (xs ++ y ∷ []) t ≡ nth [] xs t
nth_more [] y zero h = h
nth_more [] y (suc t) h = refl
nth_more (x ∷ xs) y zero h = refl
nth_more (x ∷ xs) y (suc t) h = nth_more xs y t h

-- a list more at the end of one of them
pub set_box : {X : Type 0} (xs : List (List X)) (i t : ℕ) (old new ys : List X) → i < length xs → old ≡ slice_index_or xs i old → new ≡ old ++ ys → nth [] (slice_set xs i new) t ≡ nth [] xs t ++ cond (t == i) ys []
set_box {X = X} xs i t old new ys low o n = by-place (t == i) refl
  where
    there : slice_set xs i new ≡ changed i (λ (zs : List X). zs ++ ys) xs
    there = set-changed xs i (λ (zs : List X). zs ++ ys) old new low o n

    here : (i : ℕ) (xs : List (List X)) → i < length xs → nth [] (changed i (λ (zs : List X). zs ++ ys) xs) i ≡ nth [] xs i ++ ys
    here i [] h = absurd (omega (arith, h))
    here zero (x ∷ xs) h = refl
    here (suc i) (x ∷ xs) h = here i xs (omega (arith, h))

    by-place : (b : Bool) → (t == i) ≡ b → nth [] (slice_set xs i new) t ≡ nth [] xs t ++ cond b ys []
    by-place true g =
        ap (λ (zs : List (List X)). nth [] zs t) there
        ∙ subst (λ (u : ℕ). nth [] (changed i (λ (zs : List X). zs ++ ys) xs) u ≡ nth [] xs u ++ ys) (sym (eq-of t i g)) (here i xs low)
    by-place false g =
        ap (λ (zs : List (List X)). nth [] zs t) there
        ∙ nth-apart i t (λ (zs : List X). zs ++ ys) xs (λ same. apart-of t i g (sym same))
        ∙ sym (append-nil (nth [] xs t))
