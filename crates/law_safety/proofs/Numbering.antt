-- The numbers of actors: which place a replica has among all nodes and among those of its fragment, and who passes a test.
use Rattle.std.proofs.Common.{◌≡◌, ℕ, zero, suc, ◌+◌, ◌-◌, ◌<◌, ◌≤◌, Bool, true, false, cond, ◌==◌, List, [], ◌∷◌, ◌++◌, map, length, refl, sym, ap, subst, append_assoc, ◌∙◌, arith, Option, Some, None, slice_get}
use Rattle.std.proofs.lemmas.Grind.{common_steps}
use Rattle.std.proofs.lemmas.List.FromFn.{length-range_with_len}
use Rattle.std.specs.List.{filter, enumerate_from}
use Rattle.dpc_lists.specs.Lists.{nth, list_all, list_any, range_with_len, place_of}
use Rattle.dpc_model.specs.Actors.{role_of, roles_of, nodes_from, nodes_of, is_replica_of, replicas_of, actors_where, same_stream, sends_stream, inputs_of, senders_of, readers_of, reads_from}
use Rattle.dpc_model.specs.declared.actors.Role.{Role}
use Rattle.dpc_model.specs.declared.actors.Role.TheVariants.{Source as IsSource, Node as IsNode, Client as IsClient, Nobody}
use Rattle.dpc_model.specs.declared.plans.FragSpec.{FragSpec}
use Rattle.dpc_model.specs.declared.plans.Plan.{Plan}
use Rattle.dpc_model.specs.declared.plans.StreamRef.{StreamRef}
use Rattle.dpc_model.specs.declared.plans.StreamRef.TheVariants.{Source, Frag}
use Rattle.node_model.specs.Nodes.{Home, no_fragment, streams_of}
use Rattle.world_model.specs.Worlds.{node_place}
use Rattle.dpc_lists.proofs.Truths.{both, both-of, eq-of, eq-test, or-right, any-same}
use Rattle.dpc_model.proofs.Roles.{numbers_where, node-past}

-- ---- who passes a test

numbers-pass : (test : Role → Bool) (whole : List Role) (k : ℕ) (roles : List Role) → ((i : ℕ) → nth Nobody whole (k + i) ≡ nth Nobody roles i) →
    list_all (λ a. test (nth Nobody whole a)) (numbers_where test k roles) ≡ true
numbers-pass test whole k [] h = refl
numbers-pass test whole k (role ∷ roles) h =
    let next : (i : ℕ) → nth Nobody whole (k + 1 + i) ≡ nth Nobody roles i = λ i. let same : k + 1 + i ≡ k + suc i = omega arith in rw same (h (suc i)) in
    let rest = filter (λ (x : ℕ × Role). test x.1) (enumerate_from (k + 1) roles) in
    let none : k + 0 ≡ k = omega arith in
    (elim (test role) as (λ b. test role ≡ b → list_all (λ a. test (nth Nobody whole a)) (map (λ (x : ℕ × Role). x.0) (cond b ((k, role) ∷ rest) rest)) ≡ true) [
      | true ↦ λ e. both-of (test (nth Nobody whole k)) _ (ap test (rw none at (h 0)) ∙ e) (numbers-pass test whole (k + 1) roles next)
      | false ↦ λ e. numbers-pass test whole (k + 1) roles next
    ]) refl

pub actors-pass : (test : Role → Bool) (plan : Plan) → list_all (λ a. test (role_of plan a)) (actors_where test plan) ≡ true
actors-pass test plan = numbers-pass test (roles_of plan) 0 (roles_of plan) (λ i. let none : 0 + i ≡ i = omega arith in rw none refl)

pub all-at : {X : Type 0} (q : X → Bool) (xs : List X) (i : ℕ) (x : X) → list_all q xs ≡ true → slice_get xs i ≡ Some x → q x ≡ true
all-at q [] i x h e = cc
all-at q (y ∷ xs) zero x h e = let same : y ≡ x = cc in rw same at (both (q y) (list_all q xs) h).0
all-at q (y ∷ xs) (suc i) x h e = all-at q xs i x (both (q y) (list_all q xs) h).1 e

pub all-nth : {X : Type 0} (q : X → Bool) (d : X) (xs : List X) (i : ℕ) → i < length xs → list_all q xs ≡ true → q (nth d xs i) ≡ true
all-nth q d [] i l h = absurd (omega (arith, l))
all-nth q d (x ∷ xs) zero l h = (both (q x) (list_all q xs) h).0
all-nth q d (x ∷ xs) (suc i) l h = all-nth q d xs i (omega (arith, l)) (both (q x) (list_all q xs) h).1

pub any-at : {X : Type 0} (q : X → Bool) (xs : List X) (i : ℕ) (x : X) → slice_get xs i ≡ Some x → q x ≡ true → list_any q xs ≡ true
any-at q [] i x e h = cc
any-at q (y ∷ xs) zero x e h = let same : y ≡ x = cc in rw (same, h) refl
any-at q (y ∷ xs) (suc i) x e h = or-right (q y) (list_any q xs) (any-at q xs i x e h)

-- ---- who reads whom

same_stream-sym : (s u : StreamRef) → same_stream s u ≡ same_stream u s
same_stream-sym (Source a) (Source b) = grind (arith, common_steps)
same_stream-sym (Source a) (Frag b) = refl
same_stream-sym (Frag a) (Source b) = refl
same_stream-sym (Frag a) (Frag b) = grind (arith, common_steps)

-- a stream's own role
abbrev pub SendsIt : StreamRef → Role → Type 0
SendsIt s role = (u : StreamRef) → sends_stream u role ≡ same_stream u s

pub source-sends-it : (s : ℕ) → SendsIt (Source s) (IsSource s)
source-sends-it s u = refl

pub node-sends-it : (f r : ℕ) → SendsIt (Frag f) (IsNode f r)
node-sends-it f r u = refl

-- readers of a stream read from its sender
pub readers-read : (plan : Plan) (s : StreamRef) (role : Role) → SendsIt s role → list_all (λ a. reads_from plan (role_of plan a) role) (readers_of plan s) ≡ true
readers-read plan s role sends = same-all (readers_of plan s) (actors-pass (λ x. list_any (same_stream s) (inputs_of plan x)) plan)
  where
    same-all : (ids : List ℕ) → list_all (λ a. list_any (same_stream s) (inputs_of plan (role_of plan a))) ids ≡ true → list_all (λ a. reads_from plan (role_of plan a) role) ids ≡ true
    same-all [] h = refl
    same-all (a ∷ ids) h =
        let p = both (list_any (same_stream s) (inputs_of plan (role_of plan a))) (list_all (λ a. list_any (same_stream s) (inputs_of plan (role_of plan a))) ids) h in
        both-of (reads_from plan (role_of plan a) role) _
        (any-same (λ u. sends_stream u role) (same_stream s) (inputs_of plan (role_of plan a)) (λ u. sends u ∙ same_stream-sym u s) ∙ p.0) (same-all ids p.1)

-- the streams of a home are what its role reads
pub nth-inputs : (frags : List FragSpec) (f : ℕ) → nth [] (map (λ (frag : FragSpec). frag.inputs) frags) f ≡ (nth no_fragment frags f).inputs
nth-inputs [] f = refl
nth-inputs (x ∷ frags) zero = refl
nth-inputs (x ∷ frags) (suc f) = nth-inputs frags f

pub home-inputs : (home : Home) (r : ℕ) → inputs_of home.plan (IsNode home.frag r) ≡ streams_of home
home-inputs home r = nth-inputs home.plan.frags home.frag

-- a reader of a stream reads from each of its senders
pub senders-read : (plan : Plan) (reader : Role) (p : ℕ) (s : StreamRef) → slice_get (inputs_of plan reader) p ≡ Some s → list_all (λ a. reads_from plan reader (role_of plan a)) (senders_of plan s) ≡ true
senders-read plan reader p s at = same-all (senders_of plan s) (actors-pass (sends_stream s) plan)
  where
    same-all : (ids : List ℕ) → list_all (λ a. sends_stream s (role_of plan a)) ids ≡ true → list_all (λ a. reads_from plan reader (role_of plan a)) ids ≡ true
    same-all [] h = refl
    same-all (a ∷ ids) h =
        let k = both (sends_stream s (role_of plan a)) (list_all (λ a. sends_stream s (role_of plan a)) ids) h in
        both-of (reads_from plan reader (role_of plan a)) _ (any-at (λ u. sends_stream u (role_of plan a)) (inputs_of plan reader) p s at k.0) (same-all ids k.1)

-- ---- the place of a replica

-- the replicas of a fragment come in order of number, from n on
abbrev IsCounted : ℕ → ℕ → List Role → Type 0
IsCounted f n [] = Unit {0}
IsCounted f n (IsSource s ∷ roles) = IsCounted f n roles
IsCounted f n (IsNode g r ∷ roles) = cond (f == g) ((r ≡ n) × IsCounted f (n + 1) roles) (IsCounted f n roles)
IsCounted f n (IsClient c ∷ roles) = IsCounted f n roles
IsCounted f n (Nobody ∷ roles) = IsCounted f n roles

counted-place : (f n k : ℕ) (roles : List Role) (i r : ℕ) → IsCounted f n roles → nth Nobody roles i ≡ IsNode f r → (n ≤ r) × (nth 0 (numbers_where (is_replica_of f) k roles) (r - n) ≡ k + i)
counted-place f n k [] i r h e = cc
counted-place f n k (IsSource s ∷ roles) zero r h e = cc
counted-place f n k (IsSource s ∷ roles) (suc i) r h e = let p = counted-place f n (k + 1) roles i r h e in let q = p.1 in (p.0, omega (arith, q))
counted-place f n k (IsClient s ∷ roles) zero r h e = cc
counted-place f n k (IsClient s ∷ roles) (suc i) r h e = let p = counted-place f n (k + 1) roles i r h e in let q = p.1 in (p.0, omega (arith, q))
counted-place f n k (Nobody ∷ roles) zero r h e = cc
counted-place f n k (Nobody ∷ roles) (suc i) r h e = let p = counted-place f n (k + 1) roles i r h e in let q = p.1 in (p.0, omega (arith, q))
counted-place f n k (IsNode g q ∷ roles) i r h e =
    let rest = filter (λ (x : ℕ × Role). is_replica_of f x.1) (enumerate_from (k + 1) roles) in
    (elim (f == g) as (λ b. (f == g) ≡ b → cond b ((q ≡ n) × IsCounted f (n + 1) roles) (IsCounted f n roles) →
    (n ≤ r) × (nth 0 (map (λ (x : ℕ × Role). x.0) (cond b ((k, IsNode g q) ∷ rest) rest)) (r - n) ≡ k + i)) [
      | true ↦ λ same c. here (λ j d. counted-place f (n + 1) (k + 1) roles j r c.1 d) i e c.0
      | false ↦ λ other c. there (λ j d. counted-place f n (k + 1) roles j r c d) i e other
    ]) refl h
  where
    here : ((j : ℕ) → nth Nobody roles j ≡ IsNode f r → (n + 1 ≤ r) × (nth 0 (numbers_where (is_replica_of f) (k + 1) roles) (r - (n + 1)) ≡ k + 1 + j)) →
        (j : ℕ) → nth Nobody (IsNode g q ∷ roles) j ≡ IsNode f r → q ≡ n → (n ≤ r) × (nth 0 (k ∷ numbers_where (is_replica_of f) (k + 1) roles) (r - n) ≡ k + j)
    here ih zero d c =
        let one : r ≡ q = cc in
        let none : r - n ≡ 0 = omega (arith, one, c) in
        (omega (arith, one, c), rw none (omega arith))
    here ih (suc j) d c =
        let p = ih j d in
        let low = p.0 in
        let one : r - n ≡ suc (r - (n + 1)) = omega (arith, low) in
        let more = p.1 in
        (omega (arith, low), rw one (omega (arith, more)))

    there : ((j : ℕ) → nth Nobody roles j ≡ IsNode f r → (n ≤ r) × (nth 0 (numbers_where (is_replica_of f) (k + 1) roles) (r - n) ≡ k + 1 + j)) →
        (j : ℕ) → nth Nobody (IsNode g q ∷ roles) j ≡ IsNode f r → (f == g) ≡ false → (n ≤ r) × (nth 0 (numbers_where (is_replica_of f) (k + 1) roles) (r - n) ≡ k + j)
    there ih zero d other = let same : f ≡ g = cc in let yes : (f == g) ≡ true = eq-test f g same in cc
    there ih (suc j) d other = let p = ih j d in let more = p.1 in (p.0, omega (arith, more))

-- the roles of a plan are so
block-other : (f g n : ℕ) (rs : List ℕ) (ys : List (ℕ × ℕ)) (rest : List Role) → (f == g) ≡ false → IsCounted f n (map (λ (n : ℕ × ℕ). IsNode n.0 n.1) ys ++ rest) → IsCounted f n (map (λ (n : ℕ × ℕ). IsNode n.0 n.1) (map (λ r. (g, r)) rs ++ ys) ++ rest)
block-other f g n [] ys rest other h = h
block-other f g n (r ∷ rs) ys rest other h = rw other (block-other f g n rs ys rest other h)

block-same : (f from count : ℕ) (ys : List (ℕ × ℕ)) (rest : List Role) → ((m : ℕ) → IsCounted f m (map (λ (n : ℕ × ℕ). IsNode n.0 n.1) ys ++ rest)) →
    IsCounted f from (map (λ (n : ℕ × ℕ). IsNode n.0 n.1) (map (λ r. (f, r)) (range_with_len from count) ++ ys) ++ rest)
block-same f from zero ys rest h = h from
block-same f from (suc count) ys rest h = let yes : (f == f) ≡ true = eq-test f f refl in rw yes (refl, block-same f (from + 1) count ys rest h)

counted-past : (f g : ℕ) (frags : List FragSpec) (rest : List Role) → f < g → ((m : ℕ) → IsCounted f m rest) → (m : ℕ) → IsCounted f m (map (λ (n : ℕ × ℕ). IsNode n.0 n.1) (nodes_from g frags) ++ rest)
counted-past f g [] rest l h m = h m
counted-past f g (frag ∷ frags) rest l h m =
    let other : (f == g) ≡ false = grind (arith, common_steps) in
    block-other f g m (range_with_len 0 frag.replicas) (nodes_from (g + 1) frags) rest other (counted-past f (g + 1) frags rest (omega (arith, l)) h m)

counted-nodes : (f g : ℕ) (frags : List FragSpec) (rest : List Role) → g ≤ f → ((m : ℕ) → IsCounted f m rest) → IsCounted f 0 (map (λ (n : ℕ × ℕ). IsNode n.0 n.1) (nodes_from g frags) ++ rest)
counted-nodes f g [] rest l h = h 0
counted-nodes f g (frag ∷ frags) rest l h =
    (elim (f == g) as (λ b. (f == g) ≡ b → IsCounted f 0 (map (λ (n : ℕ × ℕ). IsNode n.0 n.1) (map (λ r. (g, r)) (range_with_len 0 frag.replicas) ++ nodes_from (g + 1) frags) ++ rest)) [
      | true ↦ λ e.
          let same : g ≡ f = sym (eq-of f g e) in
          rw same (block-same f 0 frag.replicas (nodes_from (f + 1) frags) rest (counted-past f (f + 1) frags rest (omega arith) h))
      | false ↦ λ e.
          let less : g + 1 ≤ f = grind (arith, common_steps) in
          block-other f g 0 (range_with_len 0 frag.replicas) (nodes_from (g + 1) frags) rest e (counted-nodes f (g + 1) frags rest less h)
    ]) refl

counted-sources : (f n : ℕ) (ss : List ℕ) (rest : List Role) → IsCounted f n rest → IsCounted f n (map IsSource ss ++ rest)
counted-sources f n [] rest h = h
counted-sources f n (s ∷ ss) rest h = counted-sources f n ss rest h

counted-clients : (f n : ℕ) (cs : List ℕ) → IsCounted f n (map IsClient cs)
counted-clients f n [] = tt
counted-clients f n (c ∷ cs) = counted-clients f n cs

-- the sources stand before all others
roles-split : (plan : Plan) → roles_of plan ≡ map IsSource (range_with_len 0 (length plan.sources)) ++ (map (λ (n : ℕ × ℕ). IsNode n.0 n.1) (nodes_of plan) ++ map IsClient (range_with_len 0 (length plan.clients)))
roles-split plan = append_assoc (map IsSource (range_with_len 0 (length plan.sources))) (map (λ (n : ℕ × ℕ). IsNode n.0 n.1) (nodes_of plan)) (map IsClient (range_with_len 0 (length plan.clients)))

pub role-split : (plan : Plan) (a : ℕ) → role_of plan a ≡ nth Nobody (map IsSource (range_with_len 0 (length plan.sources)) ++ (map (λ (n : ℕ × ℕ). IsNode n.0 n.1) (nodes_of plan) ++ map IsClient (range_with_len 0 (length plan.clients)))) a
role-split plan a = ap (λ (roles : List Role). nth Nobody roles a) (roles-split plan)

-- a replica stands at its number among those of its fragment
pub replica-at : (plan : Plan) (a f r : ℕ) → role_of plan a ≡ IsNode f r → nth 0 (replicas_of plan f) r ≡ a
replica-at plan a f r e =
    let p = counted-place f 0 0 (roles_of plan) a r
    (subst (λ (roles : List Role). IsCounted f 0 roles) (sym (roles-split plan)) (counted-sources f 0 (range_with_len 0 (length plan.sources)) (map (λ (n : ℕ × ℕ). IsNode n.0 n.1) (nodes_of plan) ++ map IsClient (range_with_len 0 (length plan.clients)))
    (counted-nodes f 0 plan.frags (map IsClient (range_with_len 0 (length plan.clients))) (omega arith) (λ m. counted-clients f m (range_with_len 0 (length plan.clients)))))) e in
    let off : r - 0 ≡ r = omega arith in
    let far : 0 + a ≡ a = omega arith in
    rw off at p.1 ∙ far

-- and the place at which it is found there is its number
found-place : (f n k : ℕ) (roles : List Role) (i r q : ℕ) → IsCounted f n roles → nth Nobody roles i ≡ IsNode f r → place_of (λ b. (k + i) == b) (numbers_where (is_replica_of f) k roles) ≡ Some q → r ≡ n + q
found-place f n k [] i r q h e p = cc
found-place f n k (IsSource s ∷ roles) zero r q h e p = cc
found-place f n k (IsSource s ∷ roles) (suc i) r q h e p = let next : k + suc i ≡ k + 1 + i = omega arith in found-place f n (k + 1) roles i r q h e (rw next at p)
found-place f n k (IsClient s ∷ roles) zero r q h e p = cc
found-place f n k (IsClient s ∷ roles) (suc i) r q h e p = let next : k + suc i ≡ k + 1 + i = omega arith in found-place f n (k + 1) roles i r q h e (rw next at p)
found-place f n k (Nobody ∷ roles) zero r q h e p = cc
found-place f n k (Nobody ∷ roles) (suc i) r q h e p = let next : k + suc i ≡ k + 1 + i = omega arith in found-place f n (k + 1) roles i r q h e (rw next at p)
found-place f n k (IsNode g m ∷ roles) i r q h e p =
    let rest = filter (λ (x : ℕ × Role). is_replica_of f x.1) (enumerate_from (k + 1) roles) in
    (elim (f == g) as (λ b. (f == g) ≡ b → cond b ((m ≡ n) × IsCounted f (n + 1) roles) (IsCounted f n roles) →
    place_of (λ b. (k + i) == b) (map (λ (x : ℕ × Role). x.0) (cond b ((k, IsNode g m) ∷ rest) rest)) ≡ Some q → r ≡ n + q) [
      | true ↦ λ same c d. here (λ j u v. found-place f (n + 1) (k + 1) roles j r u c.1 v) i e c.0 d
      | false ↦ λ other c d. there (λ j u v. found-place f n (k + 1) roles j r u c v) i e other d
    ]) refl h p
  where
    here : ((j u : ℕ) → nth Nobody roles j ≡ IsNode f r → place_of (λ b. (k + 1 + j) == b) (numbers_where (is_replica_of f) (k + 1) roles) ≡ Some u → r ≡ n + 1 + u) →
        (j : ℕ) → nth Nobody (IsNode g m ∷ roles) j ≡ IsNode f r → m ≡ n → place_of (λ b. (k + j) == b) (k ∷ numbers_where (is_replica_of f) (k + 1) roles) ≡ Some q → r ≡ n + q
    here ih zero d c v =
        let one : m ≡ r = cc in
        let yes : (k + 0 == k) ≡ true = eq-test (k + 0) k (omega arith) in
        let first : ◌≡◌ {A = Option ℕ} (Some 0) (Some q) = rw yes at v in
        let none : 0 ≡ q = cc in omega (arith, one, c, none)
    here ih (suc j) d c v =
        let no : (k + suc j == k) ≡ false = differ (k + suc j == k) refl in
        let next : k + suc j ≡ k + 1 + j = omega arith in
        let after = rw no at v in
        behind (place_of (λ b. (k + suc j) == b) (numbers_where (is_replica_of f) (k + 1) roles)) refl after
      where
        differ : (b : Bool) → (k + suc j == k) ≡ b → (k + suc j == k) ≡ false
        differ false x = x
        differ true x = let same = eq-of (k + suc j) k x in absurd (omega (arith, same))

        behind : (o : Option ℕ) → place_of (λ b. (k + suc j) == b) (numbers_where (is_replica_of f) (k + 1) roles) ≡ o → elim o [ None ↦ None | Some x ↦ Some (suc x) ] ≡ Some q → r ≡ n + q
        behind None x y = cc
        behind (Some u) x y =
            let last : suc u ≡ q = cc in
            let next : k + suc j ≡ k + 1 + j = omega arith in
            let found = ih j u d (rw next at x) in omega (arith, last, found)

    there : ((j u : ℕ) → nth Nobody roles j ≡ IsNode f r → place_of (λ b. (k + 1 + j) == b) (numbers_where (is_replica_of f) (k + 1) roles) ≡ Some u → r ≡ n + u) →
        (j : ℕ) → nth Nobody (IsNode g m ∷ roles) j ≡ IsNode f r → (f == g) ≡ false → place_of (λ b. (k + j) == b) (numbers_where (is_replica_of f) (k + 1) roles) ≡ Some q → r ≡ n + q
    there ih zero d other v = let same : f ≡ g = cc in let yes : (f == g) ≡ true = eq-test f g same in cc
    there ih (suc j) d other v = let next : k + suc j ≡ k + 1 + j = omega arith in ih j q d (rw next at v)

pub replica-number : (plan : Plan) (a f r q : ℕ) → role_of plan a ≡ IsNode f r → place_of (λ b. a == b) (replicas_of plan f) ≡ Some q → q ≡ r
replica-number plan a f r q e p =
    let far : 0 + a ≡ a = omega arith in
    let found = found-place f 0 0 (roles_of plan) a r q
    (subst (λ (roles : List Role). IsCounted f 0 roles) (sym (roles-split plan)) (counted-sources f 0 (range_with_len 0 (length plan.sources)) (map (λ (n : ℕ × ℕ). IsNode n.0 n.1) (nodes_of plan) ++ map IsClient (range_with_len 0 (length plan.clients)))
    (counted-nodes f 0 plan.frags (map IsClient (range_with_len 0 (length plan.clients))) (omega arith) (λ m. counted-clients f m (range_with_len 0 (length plan.clients)))))) e (rw far p) in
    omega (arith, found)

-- ---- the place of a node among all

no-client-node : (cs : List ℕ) (i f r : ℕ) → nth Nobody (map IsClient cs) i ≡ IsNode f r → ⊥
no-client-node [] i f r e = cc
no-client-node (c ∷ cs) zero f r e = cc
no-client-node (c ∷ cs) (suc i) f r e = no-client-node cs i f r e

node-among : (ns : List (ℕ × ℕ)) (cs : List ℕ) (i f r : ℕ) → nth Nobody (map (λ (n : ℕ × ℕ). IsNode n.0 n.1) ns ++ map IsClient cs) i ≡ IsNode f r → slice_get ns i ≡ Some (f, r)
node-among [] cs i f r e = absurd (no-client-node cs i f r e)
node-among (n ∷ ns) cs zero f r e = let one : n.0 ≡ f = cc in let two : n.1 ≡ r = cc in ap {B = Option (ℕ × ℕ)} Some (pair-same n.0 f n.1 r one two)
  where
    pair-same : (x y u v : ℕ) → x ≡ y → u ≡ v → ◌≡◌ {A = ℕ × ℕ} (x, u) (y, v)
    pair-same x y u v p q = rw (p, q) refl
node-among (n ∷ ns) cs (suc i) f r e = node-among ns cs i f r e

sources-skip : (ss : List ℕ) (rest : List Role) (a f r : ℕ) → nth Nobody (map IsSource ss ++ rest) a ≡ IsNode f r → nth Nobody rest (a - length ss) ≡ IsNode f r
sources-skip [] rest a f r e = let none : a - 0 ≡ a = omega arith in rw none e
sources-skip (s ∷ ss) rest zero f r e = cc
sources-skip (s ∷ ss) rest (suc a) f r e = let same : suc a - suc (length ss) ≡ a - length ss = omega arith in rw same (sources-skip ss rest a f r e)

pub node-at : (plan : Plan) (a f r : ℕ) → role_of plan a ≡ IsNode f r → slice_get (nodes_of plan) (node_place plan a) ≡ Some (f, r)
node-at plan a f r e =
    node-among (nodes_of plan) (range_with_len 0 (length plan.clients)) (a - length plan.sources) f r
    (rw (length-range_with_len 0 (length plan.sources)) at (sources-skip (range_with_len 0 (length plan.sources)) (map (λ (n : ℕ × ℕ). IsNode n.0 n.1) (nodes_of plan) ++ map IsClient (range_with_len 0 (length plan.clients))) a f r (sym (role-split plan a) ∙ e)))

-- two nodes at one place are one
pub same-actor : (plan : Plan) (a b f q g p : ℕ) → role_of plan a ≡ IsNode f q → role_of plan b ≡ IsNode g p → node_place plan a ≡ node_place plan b → a ≡ b
same-actor plan a b f q g p one other same =
    let low = node-past plan a f q one in
    let also = node-past plan b g p other in
    omega (arith, low, also, same)

-- ---- the place of a source

no-source : (roles : List Role) → ((i s : ℕ) → nth Nobody roles i ≡ IsSource s → ⊥) → (from count a s : ℕ) → nth Nobody (map IsSource (range_with_len from count) ++ roles) a ≡ IsSource s → s ≡ from + a
no-source roles none from zero a s e = absurd (none a s e)
no-source roles none from (suc count) zero s e = let same : from ≡ s = cc in omega (arith, same)
no-source roles none from (suc count) (suc a) s e = let far = no-source roles none (from + 1) count a s e in omega (arith, far)

pub no-node-source : (ns : List (ℕ × ℕ)) (cs : List ℕ) (i s : ℕ) → nth Nobody (map (λ (n : ℕ × ℕ). IsNode n.0 n.1) ns ++ map IsClient cs) i ≡ IsSource s → ⊥
no-node-source [] [] i s e = cc
no-node-source [] (c ∷ cs) zero s e = cc
no-node-source [] (c ∷ cs) (suc i) s e = no-node-source [] cs i s e
no-node-source (n ∷ ns) cs zero s e = cc
no-node-source (n ∷ ns) cs (suc i) s e = no-node-source ns cs i s e

pub source-at : (plan : Plan) (a s : ℕ) → role_of plan a ≡ IsSource s → s ≡ a
source-at plan a s e =
    let far = no-source (map (λ (n : ℕ × ℕ). IsNode n.0 n.1) (nodes_of plan) ++ map IsClient (range_with_len 0 (length plan.clients))) (no-node-source (nodes_of plan) (range_with_len 0 (length plan.clients)))
    0 (length plan.sources) a s (sym (role-split plan a) ∙ e) in omega (arith, far)
