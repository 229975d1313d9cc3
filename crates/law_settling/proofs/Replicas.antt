-- The replicas of a fragment by their actors: each has its number, and knows each other as a peer.
use Rattle.std.proofs.Common.{◌≡◌, ℕ, zero, suc, ◌+◌, ◌<◌, Bool, true, false, cond, ◌==◌, List, [], ◌∷◌, ◌++◌, map, refl, sym, ap, subst, ◌∙◌, arith, Option, Some, None, slice_get, unwrap_or, ◌⊎◌, inl, inr}
use Rattle.dpc_lists.specs.Lists.{nth, range_with_len, place_of}
use Rattle.dpc_model.specs.Actors.{role_of, roles_of, nodes_from, is_replica_of, replicas_of}
use Rattle.dpc_model.specs.declared.actors.Role.{Role}
use Rattle.dpc_model.specs.declared.actors.Role.TheVariants.{Node as IsNode, Nobody}
use Rattle.dpc_model.specs.declared.plans.FragSpec.{FragSpec}
use Rattle.dpc_model.specs.declared.plans.Plan.{Plan}
use Rattle.node_model.specs.Nodes.{no_fragment, spec_of}
use Rattle.node_model.specs.NodeSteps.{replica_number, peers_of}
use Rattle.world_model.specs.Worlds.{home_of, node_place}
use Rattle.dpc_lists.proofs.Truths.{eq-of, eq-test}
use Rattle.dpc_lists.proofs.Somes.{some-each, some-same}
use Rattle.dpc_model.proofs.Roles.{numbers_where, numbers_if}
use Rattle.law_safety.proofs.Numbering.{node-at, replica-at, replica-number}
use Rattle.law_settling.proofs.Exact.{IsIn}
use Rattle.law_settling.proofs.Knowing.{is-peer}

-- ---- an actor among those that pass a test

passes-in : (test : Role → Bool) (k i a : ℕ) (role : Role) (roles : List Role) → slice_get roles i ≡ Some role → test role ≡ true → a ≡ k + i → IsIn a (numbers_where test k roles)
passes-in test k i a role [] there pass at = cc
passes-in test k zero a role (r ∷ roles) there pass at =
    let same : r ≡ role = some-same r role there in
    let test_r : test r ≡ true = ap test same ∙ pass in
    let here : k ≡ a = omega (arith, at) in
    subst (λ (b : Bool). IsIn a (numbers_if test k r roles b)) (sym test_r) (inl here)
passes-in test k (suc i) a role (r ∷ roles) there pass at =
    let rest = passes-in test (k + 1) i a role roles there pass (omega (arith, at)) in
    elim (test r) as (λ b. IsIn a (numbers_if test k r roles b)) [ true ↦ inr rest | false ↦ rest ]

place-in : (a : ℕ) (xs : List ℕ) → IsIn a xs → (j : ℕ) × (place_of (λ b. a == b) xs ≡ Some j)
place-in a [] h = absurd h
place-in a (x ∷ xs) (inl e) = let same = eq-test a x (sym e) in (0, ap (λ (b : Bool). cond {A = Option ℕ} b (Some 0) (elim (place_of (λ b. a == b) xs) as (λ _. Option ℕ) [ None ↦ None | Some i ↦ Some (suc i) ])) same)
place-in a (x ∷ xs) (inr h) =
    let rest = place-in a xs h in
    elim (a == x) as (λ b. (j : ℕ) × (cond {A = Option ℕ} b (Some 0) (elim (place_of (λ b. a == b) xs) as (λ _. Option ℕ) [ None ↦ None | Some i ↦ Some (suc i) ]) ≡ Some j)) [
      | true ↦ (0, refl)
      | false ↦ (suc rest.0, ap (λ (o : Option ℕ). elim o as (λ _. Option ℕ) [ None ↦ None | Some i ↦ Some (suc i) ]) rest.1)
    ]

-- a node is among the replicas of its fragment
pub replica-in : (plan : Plan) (a f q : ℕ) → role_of plan a ≡ IsNode f q → IsIn a (replicas_of plan f)
replica-in plan a f q role = by-place (slice_get (roles_of plan) a) refl
  where
    by-place : (o : Option Role) → slice_get (roles_of plan) a ≡ o → IsIn a (replicas_of plan f)
    by-place None e = let clash : Nobody ≡ IsNode f q = sym (ap (λ (o : Option Role). unwrap_or o Nobody) e) ∙ role in cc
    by-place (Some r) e =
        let same : r ≡ IsNode f q = sym (ap (λ (o : Option Role). unwrap_or o Nobody) e) ∙ role in
        passes-in (is_replica_of f) 0 a a r (roles_of plan) e (ap (is_replica_of f) same ∙ eq-test f f refl) (omega arith)

-- it is found there by its number
pub number-is : (plan : Plan) (a f q r : ℕ) → role_of plan a ≡ IsNode f q → replica_number (home_of plan (f, r)) a ≡ Some q
number-is plan a f q r role =
    let found = place-in a (replicas_of plan f) (replica-in plan a f q role) in
    found.1 ∙ ap {B = Option ℕ} Some (replica-number plan a f q found.0 role found.1)

-- another replica is a peer
pub peer-is : (plan : Plan) (a b f q r : ℕ) → role_of plan a ≡ IsNode f q → role_of plan b ≡ IsNode f r → (b ≡ a → ⊥) → IsIn b (peers_of (home_of plan (f, q)))
peer-is plan a b f q r role_a role_b other = is-peer (home_of plan (f, q)) b (replica-in plan b f r role_b) (by-test (b == nth 0 (replicas_of plan f) q) refl)
  where
    by-test : (c : Bool) → (b == nth 0 (replicas_of plan f) q) ≡ c → (b == nth 0 (replicas_of plan f) q) ≡ false
    by-test false e = e
    by-test true e = absurd (other (eq-of b (nth 0 (replicas_of plan f) q) e ∙ replica-at plan a f q role_a))

-- ---- numbers are below the fragment's number of replicas

in-append : {X : Type 0} (xs ys : List X) (i : ℕ) (x : X) → slice_get (xs ++ ys) i ≡ Some x → (slice_get xs i ≡ Some x) ⊎ ((k : ℕ) × (slice_get ys k ≡ Some x))
in-append [] ys i x e = inr (i, e)
in-append (z ∷ xs) ys zero x e = inl e
in-append (z ∷ xs) ys (suc i) x e = in-append xs ys i x e

in-range : (g k n i f r : ℕ) → ◌≡◌ {A = Option (ℕ × ℕ)} (slice_get (map {A = ℕ} {B = ℕ × ℕ} (λ s. (g, s)) (range_with_len k n)) i) (Some (f, r)) → (f ≡ g) × (r < k + n)
in-range g k zero i f r e = cc
in-range g k (suc n) zero f r e = let p = some-each g k f r e in let two = p.1 in (sym p.0, omega (arith, two))
in-range g k (suc n) (suc i) f r e = let rest = in-range g (k + 1) n i f r e in let low = rest.1 in (rest.0, omega (arith, low))

nodes-below : (g : ℕ) (frags : List FragSpec) (i f r : ℕ) → slice_get (nodes_from g frags) i ≡ Some (f, r) → (j : ℕ) × (f ≡ g + j) × (r < (nth no_fragment frags j).replicas)
nodes-below g [] i f r e = cc
nodes-below g (frag ∷ rest) i f r e =
    elim (in-append (map (λ s. (g, s)) (range_with_len 0 frag.replicas)) (nodes_from (g + 1) rest) i (f, r) e) [
      | inl here ↦ let k = in-range g 0 frag.replicas i f r here in let one = k.0 in let low = k.1 in (0, omega (arith, one), omega (arith, low))
      | inr there ↦ let k = nodes-below (g + 1) rest there.0 f r there.1 in let far = k.1 in (suc k.0, omega (arith, far), k.2)
    ]

pub number-low : (plan : Plan) (a f q r : ℕ) → role_of plan a ≡ IsNode f q → q < (spec_of (home_of plan (f, r))).replicas
number-low plan a f q r role =
    let k = nodes-below 0 plan.frags (node_place plan a) f q (node-at plan a f q role) in
    let far = k.1 in
    let same : k.0 ≡ f = omega (arith, far) in
    subst (λ (j : ℕ). q < (nth no_fragment plan.frags j).replicas) same k.2
