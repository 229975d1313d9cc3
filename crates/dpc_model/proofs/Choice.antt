-- The choice of a replica keeps the current one where it has the best rank, and else takes the first one that has.
use Rattle.std.proofs.Common.{◌≡◌, ℕ, zero, suc, ◌<◌, true, false, cond, ◌==◌, List, [], ◌∷◌, map, min, Option, Some, None, unwrap_or, refl, subst, arith, length}
use Rattle.std.proofs.lemmas.Grind.{common_steps}
use Rattle.std.proofs.lemmas.List.{length-map}
use Rattle.dpc_lists.specs.Lists.{nth, least, place_of}
use Rattle.dpc_model.specs.Replicas.{rank_order, has_best_rank, choose}
use Rattle.dpc_model.specs.declared.messages.Rank.{Rank}
use Rattle.dpc_lists.proofs.Places.{place-within, next_place}

-- a number stands at a place of a list, and at none before it
record StandsFirst (n d : ℕ) (ns : List ℕ) (i : ℕ) : Type 0 where
  here : (nth d ns i == n) ≡ true
  before : (j : ℕ) → j < i → (nth d ns j == n) ≡ false

abbrev place : ℕ → List ℕ → Option ℕ
place n ns = place_of (λ o. o == n) ns

-- the places before one are the first one and those behind it
before-suc : (n d m k : ℕ) (ns : List ℕ) → (m == n) ≡ false → ((j : ℕ) → j < k → (nth d ns j == n) ≡ false) → (j : ℕ) → j < suc k → (nth d (m ∷ ns) j == n) ≡ false
before-suc n d m k ns e f zero h = e
before-suc n d m k ns e f (suc j) h = f j (omega (arith, h))

place-first : (n d : ℕ) (ns : List ℕ) (i : ℕ) → place n ns ≡ Some i → StandsFirst n d ns i
place-first n d [] i e = absurd (cc)
place-first n d (m ∷ ns) i e =
    (elim (m == n) as (λ b. (m == n) ≡ b → cond b (Some 0) (next_place (place n ns)) ≡ Some i → StandsFirst n d (m ∷ ns) i) [
      | true ↦ λ k h.
          let z : 0 ≡ i = cc in
          subst (λ (j : ℕ). StandsFirst n d (m ∷ ns) j) z (record { here = k; before = λ j low. absurd (omega (arith, low)) })
      | false ↦ λ k h.
          (elim (place n ns) as (λ o. place n ns ≡ o → next_place o ≡ Some i → StandsFirst n d (m ∷ ns) i) [
            | None ↦ λ p q. absurd (cc)
            | Some q ↦ λ p r.
                let z : suc q ≡ i = cc in
                let rest = place-first n d ns q p in
                subst (λ (j : ℕ). StandsFirst n d (m ∷ ns) j) z (record { here = rest.here; before = before-suc n d m q ns k rest.before })
          ]) refl h
    ]) refl e

-- none of the numbers is this one
abbrev IsAbsent : ℕ → List ℕ → Type 0
IsAbsent n [] = Unit {0}
IsAbsent n (m ∷ ns) = ((m == n) ≡ false) × IsAbsent n ns

place-none : (n : ℕ) (ns : List ℕ) → place n ns ≡ None → IsAbsent n ns
place-none n [] e = tt
place-none n (m ∷ ns) e =
    (elim (m == n) as (λ b. (m == n) ≡ b → cond b (Some 0) (next_place (place n ns)) ≡ None → IsAbsent n (m ∷ ns)) [
      | true ↦ λ k h. absurd (cc)
      | false ↦ λ k h.
          (elim (place n ns) as (λ o. place n ns ≡ o → next_place o ≡ None → IsAbsent n (m ∷ ns)) [
            | None ↦ λ p q. (k, place-none n ns p)
            | Some q ↦ λ p r. absurd (cc)
          ]) refl h
    ]) refl e

min-apart : (a b v : ℕ) → (a == v) ≡ false → (b == v) ≡ false → (min a b == v) ≡ false
min-apart a b v e f = grind (arith, common_steps)

-- the least number is one of them
least-apart : (d v m : ℕ) (ns : List ℕ) → IsAbsent v (m ∷ ns) → (least d (m ∷ ns) == v) ≡ false
least-apart d v m [] a = a.0
least-apart d v m (k ∷ ns) a = min-apart m (least d (k ∷ ns)) v a.0 (least-apart d v k ns a.1)

same-number : (n : ℕ) → (n == n) ≡ false → ⊥
same-number n e = grind (arith, common_steps)

-- the first of the least numbers, where the current one is not the least
least-found : (d current : ℕ) (ns : List ℕ) → (nth d ns current == least d ns) ≡ false → StandsFirst (least d ns) d ns (unwrap_or (place (least d ns) ns) current)
least-found d current [] e = absurd (same-number d e)
least-found d current (m ∷ ns) e =
    (elim (place (least d (m ∷ ns)) (m ∷ ns)) as (λ o. place (least d (m ∷ ns)) (m ∷ ns) ≡ o → StandsFirst (least d (m ∷ ns)) d (m ∷ ns) (unwrap_or o current)) [
      | None ↦ λ p. absurd (same-number (least d (m ∷ ns)) (least-apart d (least d (m ∷ ns)) m ns (place-none (least d (m ∷ ns)) (m ∷ ns) p)))
      | Some i ↦ λ p. place-first (least d (m ∷ ns)) d (m ∷ ns) i p
    ]) refl

pub choose-kept : (current : ℕ) (ranks : List Rank) → has_best_rank ranks current ≡ true → choose current ranks ≡ current
choose-kept current ranks e = rw e refl

pub choose-best : (current : ℕ) (ranks : List Rank) → has_best_rank ranks (choose current ranks) ≡ true
choose-best current ranks =
    (elim (has_best_rank ranks current) as (λ b. has_best_rank ranks current ≡ b →
    has_best_rank ranks (cond b current (unwrap_or (place (least 3 (map rank_order ranks)) (map rank_order ranks)) current)) ≡ true) [
      | true ↦ λ e. e
      | false ↦ λ e. (least-found 3 current (map rank_order ranks) e).here
    ]) refl

pub choose-first : (current other : ℕ) (ranks : List Rank) → has_best_rank ranks current ≡ false → other < choose current ranks → has_best_rank ranks other ≡ false
choose-first current other ranks e h = (least-found 3 current (map rank_order ranks) e).before other (rw e at h)

or-within : (current n : ℕ) (o : Option ℕ) → ((i : ℕ) → o ≡ Some i → i < n) → current < n → unwrap_or o current < n
or-within current n None h low = low
or-within current n (Some i) h low = h i refl

pub choose-within : (current : ℕ) (ranks : List Rank) → current < length ranks → choose current ranks < length ranks
choose-within current ranks low =
    let orders = map rank_order ranks in
    let best = least 3 orders in
    let same = length-map ranks rank_order in
    let other = or-within current (length orders) (place_of (λ o. o == best) orders) (place-within (λ o. o == best) orders) (omega (arith, low, same)) in
    elim (nth 3 orders current == best) as (λ b. cond b current (unwrap_or (place_of (λ o. o == best) orders) current) < length ranks) [
      | true ↦ low
      | false ↦ omega (arith, other, same)
    ]
