-- Each replica of a checked plan can be made.
use Rattle.std.proofs.Common.{◌≡◌, ℕ, zero, suc, ◌+◌, ◌<◌, ◌≤◌, true, List, [], ◌∷◌, ◌++◌, map, length, sym, ap, ◌∙◌, arith, Some, slice_get, All, ◌⊎◌, inl, inr}
use Rattle.std.proofs.lemmas.List.FromFn.{length-range_with_len}
use Rattle.dpc_lists.specs.Lists.{nth, range_with_len}
use Rattle.dpc_model.specs.Actors.{role_of, senders_of, sends_stream, replicas_of, nodes_from}
use Rattle.dpc_model.specs.declared.actors.Role.{Role}
use Rattle.dpc_model.specs.declared.actors.Role.TheVariants.{Source as IsSource, Node as IsNode, Client as IsClient, Nobody}
use Rattle.dpc_model.specs.declared.plans.FragSpec.{FragSpec}
use Rattle.dpc_model.specs.declared.plans.Plan.{Plan}
use Rattle.dpc_model.specs.declared.plans.StreamRef.{StreamRef}
use Rattle.dpc_model.specs.declared.plans.StreamRef.TheVariants.{Source, Frag}
use Rattle.dpc_model.specs.declared.plans.TheConstants.{MOST_REPLICAS}
use Rattle.node_model.specs.Nodes.{no_fragment, streams_of}
use Rattle.world_model.specs.Worlds.{node_place, home_of}
use Rattle.law_safety.specs.Plans.{has_senders, IsCheckedPlan}
use Rattle.dpc_lists.proofs.Truths.{eq-of, lt-of}
use Rattle.law_safety.proofs.Numbering.{actors-pass, all-nth, node-at}
use Rattle.law_granting.proofs.First.{source-below}
use Rattle.law_session_origins.specs.Numbers.{first_replica, replicas_at}
use Rattle.law_session_origins.proofs.RoleNumbers.{has-numbers}
use Rattle.node_model.specs.Making.{IsReplica}
use Rattle.law_fit.specs.Fits.{HasFewReplicas}
use Rattle.law_fit.proofs.Readers.{all-of}

-- ---- few replicas

replicas-few : (plan : Plan) (f : ℕ) → HasFewReplicas plan → replicas_at plan f ≤ MOST_REPLICAS
replicas-few plan f few = by-list plan.frags f few
  where
    by-list : (frags : List FragSpec) (i : ℕ) → All (λ (frag : FragSpec). frag.replicas ≤ MOST_REPLICAS) frags → (nth no_fragment frags i).replicas ≤ MOST_REPLICAS
    by-list [] i h = omega arith
    by-list (frag ∷ frags) zero h = h 0 frag (omega arith)
    by-list (frag ∷ frags) (suc i) h = by-list frags i (λ k d low. h (suc k) d (omega (arith, low)))

count-replicas : (plan : Plan) (f : ℕ) → length (replicas_of plan f) ≡ replicas_at plan f
count-replicas plan f = ap length ((has-numbers plan).replicas f) ∙ length-range_with_len (first_replica plan f) (replicas_at plan f)

-- ---- few senders

-- who sends a source's stream is that source
source-sender : (s : ℕ) (role : Role) → sends_stream (Source s) role ≡ true → role ≡ IsSource s
source-sender s (IsSource u) h = ap IsSource (sym (eq-of s u h))
source-sender s (IsNode f r) h = cc
source-sender s (IsClient c) h = cc
source-sender s Nobody h = cc

pub few-senders : (plan : Plan) (s : StreamRef) → HasFewReplicas plan → 0 < length (senders_of plan s) → length (senders_of plan s) ≤ MOST_REPLICAS
few-senders plan (Source s) few some =
    let test = sends_stream (Source s) in
    let role = source-sender s (role_of plan (nth 0 (senders_of plan (Source s)) 0)) (all-nth (λ a. test (role_of plan a)) 0 (senders_of plan (Source s)) 0 some (actors-pass test plan)) in
    let one : length (senders_of plan (Source s)) ≡ 1 = ap length ((has-numbers plan).source s (source-below plan (nth 0 (senders_of plan (Source s)) 0) s role)) in
    omega (arith, one)
few-senders plan (Frag f) few some =
    let many : length (senders_of plan (Frag f)) ≡ replicas_at plan f = ap length ((has-numbers plan).fragment f) ∙ length-range_with_len (first_replica plan f) (replicas_at plan f) in
    let low = replicas-few plan f few in
    omega (arith, many, low)

-- ---- a replica

pub replica-made : (plan : Plan) (f r : ℕ) → IsCheckedPlan plan → HasFewReplicas plan → f < length plan.frags → r < replicas_at plan f → IsReplica (home_of plan (f, r))
replica-made plan f r checked few there low =
    let many = count-replicas plan f in
    let most = replicas-few plan f few in
    record {
      frag = there;
      replica = omega (arith, many, low);
      same = sym many;
      most = omega (arith, many, most);
      senders = all-of (has_senders plan) (λ (s : StreamRef). (0 < length (senders_of plan s)) × (length (senders_of plan s) ≤ MOST_REPLICAS)) (streams_of (home_of plan (f, r)))
          (λ s h. let some = lt-of 0 (length (senders_of plan s)) h in (some, few-senders plan s few some)) (checked.sent f there);
      sound = checked.checked.sound.ops;
      width = checked.checked.width;
    }

-- ---- by its actor

-- a node of these fragments is of one of them, and one of its replicas
record IsAmong (g : ℕ) (frags : List FragSpec) (f r : ℕ) : Type 0 where
  place : ℕ
  at : f ≡ g + place
  there : place < length frags
  low : r < (nth no_fragment frags place).replicas

own-replica : (g from count : ℕ) (ys : List (ℕ × ℕ)) (i f r : ℕ) → slice_get (map (λ r. (g, r)) (range_with_len from count) ++ ys) i ≡ Some (f, r) → ((f ≡ g) × (r < from + count)) ⊎ ((j : ℕ) × (slice_get ys j ≡ Some (f, r)))
own-replica g from zero ys i f r e = inr (i, e)
own-replica g from (suc count) ys zero f r e =
    let same : ◌≡◌ {A = ℕ × ℕ} (g, from) (f, r) = some-same e in
    let number : from ≡ r = ap (λ (z : ℕ × ℕ). z.1) same in
    inl (sym (ap (λ (z : ℕ × ℕ). z.0) same), omega (arith, number))
  where
    some-same : {x y : ℕ × ℕ} → Some x ≡ Some y → x ≡ y
    some-same p = cc
own-replica g from (suc count) ys (suc i) f r e =
    (elim (own-replica g (from + 1) count ys i f r e) [
      | inl h ↦ let low = h.1 in inl (h.0, omega (arith, low))
      | inr rest ↦ inr rest
    ])

among : (g : ℕ) (frags : List FragSpec) (i f r : ℕ) → slice_get (nodes_from g frags) i ≡ Some (f, r) → IsAmong g frags f r
among g [] i f r e = cc
among g (frag ∷ frags) i f r e =
    (elim (own-replica g 0 frag.replicas (nodes_from (g + 1) frags) i f r e) [
      | inl h ↦ let at = h.0 in let few = h.1 in record { place = 0; at = omega (arith, at); there = omega arith; low = omega (arith, few) }
      | inr rest ↦
          let later = among (g + 1) frags rest.0 f r rest.1 in
          let at = later.at in
          let there = later.there in
          record { place = suc later.place; at = omega (arith, at); there = omega (arith, there); low = later.low }
    ])

pub actor-made : (plan : Plan) (a f r : ℕ) → IsCheckedPlan plan → HasFewReplicas plan → role_of plan a ≡ IsNode f r → IsReplica (home_of plan (f, r))
actor-made plan a f r checked few role =
    let found = among 0 plan.frags (node_place plan a) f r (node-at plan a f r role) in
    let at = found.at in
    let same : found.place ≡ f = omega (arith, at) in
    replica-made plan f r checked few (rw same at found.there) (rw same at found.low)
