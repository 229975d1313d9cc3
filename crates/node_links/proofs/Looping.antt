-- Loops over ports and over replicas, one step more.
use Rattle.std.proofs.Common.{◌≡◌, ℕ, zero, suc, ◌+◌, ◌<◌, Bool, true, false, not, cond, ◌||◌, ◌&&◌, ◌==◌, List, [], ◌∷◌, map, filter, drop, length, refl, ap, sym, ◌∙◌, arith, Option, Some, None, slice_index_or}
use Rattle.dpc_lists.specs.Lists.{nth, list_all, enumerate_from, place_of}
use Rattle.dpc_model.specs.Replicas.{Watch, new_watch}
use Rattle.upstream.specs.Upstreams.{UpstreamValue}
use Rattle.node_links.specs.Linking.{sender_among, other_watches}

-- ---- lists that are mapped one by one

-- ---- the sender among the ports

-- the senders of ports that are left
abbrev pub senders_left : ℕ → List UpstreamValue → List (List ℕ)
senders_left i us = map (λ (u : UpstreamValue). u.senders) (drop i us)

abbrev pub sent_by : ℕ → Option ℕ → Option (ℕ × ℕ) → Option (ℕ × ℕ)
sent_by p o later = elim o [ None ↦ later | Some r ↦ Some (p, r) ]

pub sender-step : (p i a : ℕ) (us : List UpstreamValue) (d : UpstreamValue) → i < length us →
    sender_among p (senders_left i us) a ≡ sent_by p (place_of (λ b. a == b) (slice_index_or us i d).senders) (sender_among (p + 1) (senders_left (i + 1) us) a)
sender-step p i a [] d low = absurd (omega (arith, low))
sender-step p zero a (u ∷ us) d low = refl
sender-step p (suc i) a (u ∷ us) d low = let next : suc i + 1 ≡ suc (i + 1) = omega arith in rw next (sender-step p i a us d (omega (arith, low)))

-- the port at hand has it
pub sender-here : (p a r : ℕ) (us : List UpstreamValue) (u : UpstreamValue) → p < length us → u ≡ slice_index_or us p u → place_of (λ b. a == b) u.senders ≡ Some r →
    sender_among 0 (senders_left 0 us) a ≡ sender_among p (senders_left p us) a → sender_among 0 (senders_left 0 us) a ≡ Some (p, r)
sender-here p a r us u low at found before =
    let later : Option (ℕ × ℕ) = sender_among (p + 1) (senders_left (p + 1) us) a in
    before ∙ sender-step p p a us u low ∙ ap (λ (x : UpstreamValue). sent_by p (place_of (λ b. a == b) x.senders) later) (sym at)
    ∙ ap (λ (o : Option ℕ). sent_by p o later) found

-- .. or it doesn't
pub sender-later : (p a : ℕ) (us : List UpstreamValue) (u : UpstreamValue) → p < length us → u ≡ slice_index_or us p u → place_of (λ b. a == b) u.senders ≡ None →
    sender_among 0 (senders_left 0 us) a ≡ sender_among p (senders_left p us) a → sender_among 0 (senders_left 0 us) a ≡ sender_among (p + 1) (senders_left (p + 1) us) a
sender-later p a us u low at none before =
    let later : Option (ℕ × ℕ) = sender_among (p + 1) (senders_left (p + 1) us) a in
    before ∙ sender-step p p a us u low ∙ ap (λ (x : UpstreamValue). sent_by p (place_of (λ b. a == b) x.senders) later) (sym at)
    ∙ ap (λ (o : Option ℕ). sent_by p o later) none

-- ---- the other replicas

-- those from number k on, without one
abbrev pub others_from : ℕ → ℕ → List Watch → List Watch
others_from me k ws = map (λ (x : ℕ × Watch). x.1) (filter (λ (x : ℕ × Watch). not (x.0 == me)) (enumerate_from k ws))

pub others-step : (test : Watch → Bool) (me k i : ℕ) (ws : List Watch) → i < length ws →
    list_all test (others_from me k (drop i ws)) ≡ (((k == me) || test (nth new_watch ws i)) && list_all test (others_from me (k + 1) (drop (i + 1) ws)))
others-step test me k i [] low = absurd (omega (arith, low))
others-step test me k zero (w ∷ ws) low =
    let rest : List (ℕ × Watch) = filter (λ (x : ℕ × Watch). not (x.0 == me)) (enumerate_from (k + 1) ws) in
    (elim (k == me) as (λ b. list_all test (map (λ (x : ℕ × Watch). x.1) (cond (not b) ((k, w) ∷ rest) rest)) ≡ ((b || test w) && list_all test (map (λ (x : ℕ × Watch). x.1) rest))) [
      | true ↦ refl
      | false ↦ refl
    ])
others-step test me k (suc i) (w ∷ ws) low = let next : suc i + 1 ≡ suc (i + 1) = omega arith in rw next (others-step test me k i ws (omega (arith, low)))

-- whether all pass, as far as the first ones did
abbrev pub AllPassIf : (Watch → Bool) → ℕ → ℕ → List Watch → Type 0
AllPassIf test me r ws = list_all test (other_watches me ws) ≡ list_all test (others_from me r (drop r ws))

pub one-passes : (test : Watch → Bool) (me r : ℕ) (ws : List Watch) → r < length ws → ((r == me) || test (nth new_watch ws r)) ≡ true → AllPassIf test me r ws → AllPassIf test me (r + 1) ws
one-passes test me r ws low passes before =
    before ∙ others-step test me r r ws low ∙ ap (λ (b : Bool). b && list_all test (others_from me (r + 1) (drop (r + 1) ws))) passes

pub one-fails : (test : Watch → Bool) (me r : ℕ) (ws : List Watch) → r < length ws → ((r == me) || test (nth new_watch ws r)) ≡ false → AllPassIf test me r ws →
    list_all test (other_watches me ws) ≡ false
one-fails test me r ws low fails before =
    before ∙ others-step test me r r ws low ∙ ap (λ (b : Bool). b && list_all test (others_from me (r + 1) (drop (r + 1) ws))) fails
