-- The first of a sender in one list of envelopes that wait.
use Rattle.std.proofs.Common.{◌≡◌, ℕ, zero, suc, ◌-◌, ◌<◌, Bool, true, false, cond, ◌==◌, List, [], ◌∷◌, ◌++◌, map, take, drop, length, refl, sym, ap, ◌∙◌, arith, position, slice_index_or, Option, Some, None}
use Rattle.std.specs.List.{slice_set}
use Rattle.std.proofs.lemmas.Grind.{common_steps}
use Rattle.dpc_lists.specs.Lists.{nth, place_of}
use Rattle.dpc_lists.proofs.Places.{place-within, nth-at}
use Rattle.live_parts.specs.declared.inbox.Awaited.{Awaited}
use Rattle.live_parts.specs.Inboxes.{first_that, is_first_from, made_at, made_from}

pub place-is : {X : Type 0} (test : X → Bool) (xs : List X) → position test xs ≡ place_of test xs
place-is test [] = refl
place-is test (x ∷ xs) = grind (arith, common_steps, place-is test xs)

abbrev pub next_one : Option ℕ → Option ℕ
next_one o = elim o [ None ↦ None | Some i ↦ Some (suc i) ]

abbrev pub look : {X : Type 0} → (X → Bool) → List X → Option ℕ → Bool
look other xs o = elim o [ None ↦ false | Some i ↦ nth false (map other xs) i ]

pub first-of : {X : Type 0} (test other : X → Bool) (xs : List X) → look other xs (place_of test xs) ≡ first_that test other xs
first-of test other [] = refl
first-of test other (x ∷ xs) =
    (elim (test x) as (λ b. look other (x ∷ xs) (cond b (Some 0) (next_one (place_of test xs))) ≡ cond b (other x) (first_that test other xs)) [
      | true ↦ refl
      | false ↦ behind (place_of test xs) ∙ first-of test other xs
    ])
  where
    behind : (o : Option ℕ) → look other (x ∷ xs) (next_one o) ≡ look other xs o
    behind None = refl
    behind (Some i) = refl

-- an element of a list, tested
tested : {X : Type 0} (other : X → Bool) (xs : List X) (i : ℕ) (d : X) → i < length xs → other (slice_index_or xs i d) ≡ nth false (map other xs) i
tested other [] i d h = absurd (omega (arith, h))
tested other (x ∷ xs) zero d h = refl
tested other (x ∷ xs) (suc i) d h = tested other xs i d (omega (arith, h))

pub first-some : (s k i : ℕ) (qs : List Awaited) (q : Awaited) → position (λ (q : Awaited). q.sender == s) qs ≡ Some i → q ≡ slice_index_or qs i q → (q.number == k) ≡ is_first_from s k qs
first-some s k i qs q e h =
    let test : Awaited → Bool = λ (q : Awaited). q.sender == s in
    let other : Awaited → Bool = λ (q : Awaited). q.number == k in
    let at : place_of test qs ≡ Some i = sym (place-is test qs) ∙ e in
    ap other h ∙ tested other qs i q (place-within test qs i at) ∙ ap (look other qs) (sym at) ∙ first-of test other qs

pub first-none : (s k : ℕ) (qs : List Awaited) → position (λ (q : Awaited). q.sender == s) qs ≡ None → false ≡ is_first_from s k qs
first-none s k qs e =
    let test : Awaited → Bool = λ (q : Awaited). q.sender == s in
    let other : Awaited → Bool = λ (q : Awaited). q.number == k in
    let at : place_of test qs ≡ None = sym (place-is test qs) ∙ e in
    ap (look other qs) (sym at) ∙ first-of test other qs

-- ---- the first of a sender is delivered

abbrev pub nothing : Awaited
nothing = record { number = 0; sender = 0; left = 0; pending = false }

abbrev pub less : Awaited → Awaited
less q = record q { left = q.left - 1 }

abbrev pub made_there : List Awaited → Option ℕ → List Awaited
made_there qs o = elim o [ None ↦ qs | Some i ↦ made_at (nth nothing qs i) qs i ]

pub made-of : (s : ℕ) (qs : List Awaited) → made_there qs (place_of (λ (q : Awaited). q.sender == s) qs) ≡ made_from s qs
made-of s [] = refl
made-of s (q ∷ qs) =
    (elim (q.sender == s) as (λ b. made_there (q ∷ qs) (cond b (Some 0) (next_one (place_of (λ (q : Awaited). q.sender == s) qs))) ≡ cond b (cond (q.left == 1) qs (less q ∷ qs)) (q ∷ made_from s qs)) [
      | true ↦ refl
      | false ↦ behind (place_of (λ (q : Awaited). q.sender == s) qs) ∙ ap (λ (xs : List Awaited). q ∷ xs) (made-of s qs)
    ])
  where
    behind : (o : Option ℕ) → made_there (q ∷ qs) (next_one o) ≡ q ∷ made_there qs o
    behind None = refl
    behind (Some i) = by-left ((nth nothing qs i).left == 1)
      where
        by-left : (b : Bool) → cond b (q ∷ (take i qs ++ drop (suc i) qs)) (q ∷ slice_set qs i (less (nth nothing qs i))) ≡ q ∷ cond b (take i qs ++ drop (suc i) qs) (slice_set qs i (less (nth nothing qs i)))
        by-left true = refl
        by-left false = refl

pub made-some : (s i : ℕ) (qs new : List Awaited) (q : Awaited) → position (λ (q : Awaited). q.sender == s) qs ≡ Some i → q ≡ slice_index_or qs i q → new ≡ made_at q qs i → new ≡ made_from s qs
made-some s i qs new q e h made =
    let test : Awaited → Bool = λ (q : Awaited). q.sender == s in
    let at : place_of test qs ≡ Some i = sym (place-is test qs) ∙ e in
    made ∙ ap (λ (q : Awaited). made_at q qs i) (h ∙ nth-at nothing i qs q (place-within test qs i at)) ∙ ap (made_there qs) (sym at) ∙ made-of s qs

pub made-none : (s : ℕ) (qs : List Awaited) → position (λ (q : Awaited). q.sender == s) qs ≡ None → qs ≡ made_from s qs
made-none s qs e =
    let test : Awaited → Bool = λ (q : Awaited). q.sender == s in
    let at : place_of test qs ≡ None = sym (place-is test qs) ∙ e in
    ap (made_there qs) (sym at) ∙ made-of s qs

pub place-low : (s i : ℕ) (qs : List Awaited) → position (λ (q : Awaited). q.sender == s) qs ≡ Some i → i < length qs
place-low s i qs e = let test : Awaited → Bool = λ (q : Awaited). q.sender == s in place-within test qs i (sym (place-is test qs) ∙ e)
