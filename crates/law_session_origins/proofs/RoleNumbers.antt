-- Which actor has which number.
use Rattle.std.proofs.Common.{◌≡◌, ℕ, zero, suc, ◌+◌, ◌<◌, List, [], ◌∷◌, ◌++◌, map, length, refl, sym, ap, ◌∙◌, arith, length-append}
use Rattle.std.proofs.lemmas.List.{map-append, length-map}
use Rattle.std.proofs.lemmas.List.FromFn.{length-range_with_len}
use Rattle.dpc_lists.specs.Lists.{nth, range_with_len}
use Rattle.dpc_model.specs.Actors.{role_of, nodes_from, nodes_of, sends_stream, is_replica_of}
use Rattle.dpc_model.specs.declared.actors.Role.{Role}
use Rattle.dpc_model.specs.declared.actors.Role.TheVariants.{Source as IsSource, Node as IsNode, Client as IsClient, Nobody}
use Rattle.dpc_model.specs.declared.plans.FragSpec.{FragSpec}
use Rattle.dpc_model.specs.declared.plans.Plan.{Plan}
use Rattle.dpc_model.specs.declared.plans.StreamRef.TheVariants.{Frag}
use Rattle.dpc_model.proofs.Roles.{node_at}
use Rattle.node_model.specs.Nodes.{no_fragment}
use Rattle.law_session_origins.specs.Numbers.{replicas_before, first_replica, replicas_at, HasNumbers}
use Rattle.law_session_origins.proofs.Numbered.{total-nodes, source_roles, node_roles, client_roles, many-sources, many-before, of-fragment, of-source, of-readers}

-- ---- who has a number

nth-first : (xs ys : List Role) (i : ℕ) → i < length xs → nth Nobody (xs ++ ys) i ≡ nth Nobody xs i
nth-first [] ys i low = absurd (omega (arith, low))
nth-first (x ∷ xs) ys zero low = refl
nth-first (x ∷ xs) ys (suc i) low = nth-first xs ys i (omega (arith, low))

nth-second : (xs ys : List Role) (n i : ℕ) → n ≡ length xs → nth Nobody (xs ++ ys) (n + i) ≡ nth Nobody ys i
nth-second [] ys n i e = let same : n + i ≡ i = omega (arith, e) in ap (λ (j : ℕ). nth Nobody ys j) same
nth-second (x ∷ xs) ys n i e = let same : n + i ≡ suc (length xs + i) = omega (arith, e) in ap (λ (j : ℕ). nth Nobody (x ∷ xs ++ ys) j) same ∙ nth-second xs ys (length xs) i refl

nth-counted : (f : ℕ → Role) (k n i : ℕ) → i < n → nth Nobody (map f (range_with_len k n)) i ≡ f (k + i)
nth-counted f k zero i low = absurd (omega (arith, low))
nth-counted f k (suc n) zero low = let none : k + 0 ≡ k = omega arith in ap f (sym none)
nth-counted f k (suc n) (suc i) low = let next : k + 1 + i ≡ k + suc i = omega arith in nth-counted f (k + 1) n i (omega (arith, low)) ∙ ap f next

replica-is : (g k n i : ℕ) → i < n → nth Nobody (map node_at (map (λ r. (g, r)) (range_with_len k n))) i ≡ IsNode g (k + i)
replica-is g k zero i low = absurd (omega (arith, low))
replica-is g k (suc n) zero low = let none : k + 0 ≡ k = omega arith in ap (IsNode g) (sym none)
replica-is g k (suc n) (suc i) low = let next : k + 1 + i ≡ k + suc i = omega arith in replica-is g (k + 1) n i (omega (arith, low)) ∙ ap (IsNode g) next

many-replicas : (g n : ℕ) → length (map node_at (map (λ r. (g, r)) (range_with_len 0 n))) ≡ n
many-replicas g n = length-map (map (λ r. (g, r)) (range_with_len 0 n)) node_at ∙ length-map (range_with_len 0 n) (λ r. (g, r)) ∙ length-range_with_len 0 n

node-is : (g i r : ℕ) (frags : List FragSpec) → r < (nth no_fragment frags i).replicas → nth Nobody (map node_at (nodes_from g frags)) (replicas_before i frags + r) ≡ IsNode (g + i) r
node-is g i r [] low = absurd (omega (arith, low))
node-is g zero r (frag ∷ frags) low =
    let own : List (ℕ × ℕ) = map (λ q. (g, q)) (range_with_len 0 frag.replicas) in
    let many = many-replicas g frag.replicas in
    let here : 0 + r ≡ r = omega arith in
    let none : g + 0 ≡ g = omega arith in
    ap (λ (roles : List Role). nth Nobody roles (0 + r)) (map-append node_at own (nodes_from (g + 1) frags)) ∙ nth-first (map node_at own) (map node_at (nodes_from (g + 1) frags)) (0 + r) (omega (arith, many, low))
    ∙ replica-is g 0 frag.replicas (0 + r) (omega (arith, low)) ∙ ap (λ (x : ℕ). IsNode g (0 + x)) here ∙ ap (λ (x : ℕ). IsNode g x) here ∙ ap (λ (x : ℕ). IsNode x r) (sym none)
node-is g (suc i) r (frag ∷ frags) low =
    let own : List (ℕ × ℕ) = map (λ q. (g, q)) (range_with_len 0 frag.replicas) in
    let many = many-replicas g frag.replicas in
    let far : frag.replicas + replicas_before i frags + r ≡ frag.replicas + (replicas_before i frags + r) = omega arith in
    let next : g + 1 + i ≡ g + suc i = omega arith in
    ap (λ (roles : List Role). nth Nobody roles (frag.replicas + replicas_before i frags + r)) (map-append node_at own (nodes_from (g + 1) frags))
    ∙ ap (λ (j : ℕ). nth Nobody (map node_at own ++ map node_at (nodes_from (g + 1) frags)) j) far
    ∙ nth-second (map node_at own) (map node_at (nodes_from (g + 1) frags)) frag.replicas (replicas_before i frags + r) (sym many)
    ∙ node-is (g + 1) i r frags low ∙ ap (λ (x : ℕ). IsNode x r) next

before-within : (i r : ℕ) (frags : List FragSpec) → r < (nth no_fragment frags i).replicas → replicas_before i frags + r < replicas_before (length frags) frags
before-within i r [] low = absurd (omega (arith, low))
before-within zero r (frag ∷ frags) low = omega (arith, low)
before-within (suc i) r (frag ∷ frags) low = let less = before-within i r frags low in omega (arith, less)

module _ (plan : Plan) where
  source-is : (s : ℕ) → s < length plan.sources → role_of plan s ≡ IsSource s
  source-is s low =
      let many = many-sources plan in
      let sum = length-append (source_roles plan) (node_roles plan) in
      let same : 0 + s ≡ s = omega arith in
      nth-first (source_roles plan ++ node_roles plan) (client_roles plan) s (omega (arith, low, many, sum)) ∙ nth-first (source_roles plan) (node_roles plan) s (omega (arith, low, many))
      ∙ nth-counted IsSource 0 (length plan.sources) s low ∙ ap IsSource same

  node-here : (f r : ℕ) → r < replicas_at plan f → role_of plan (first_replica plan f + r) ≡ IsNode f r
  node-here f r low =
      let many = many-sources plan in
      let sum = length-append (source_roles plan) (node_roles plan) in
      let nodes : length (node_roles plan) ≡ replicas_before (length plan.frags) plan.frags = length-map (nodes_of plan) node_at ∙ total-nodes 0 plan.frags in
      let within = before-within f r plan.frags low in
      let far : first_replica plan f + r ≡ length plan.sources + (replicas_before f plan.frags + r) = omega arith in
      let same : 0 + f ≡ f = omega arith in
      nth-first (source_roles plan ++ node_roles plan) (client_roles plan) (first_replica plan f + r) (omega (arith, within, many, sum, nodes))
      ∙ ap (λ (j : ℕ). nth Nobody (source_roles plan ++ node_roles plan) j) far ∙ nth-second (source_roles plan) (node_roles plan) (length plan.sources) (replicas_before f plan.frags + r) (sym many)
      ∙ node-is 0 f r plan.frags low ∙ ap (λ (x : ℕ). IsNode x r) same

  client-is : (c : ℕ) → c < length plan.clients → role_of plan (first_replica plan (length plan.frags) + c) ≡ IsClient c
  client-is c low =
      let same : 0 + c ≡ c = omega arith in
      nth-second (source_roles plan ++ node_roles plan) (client_roles plan) (first_replica plan (length plan.frags)) c (sym (many-before plan)) ∙ nth-counted IsClient 0 (length plan.clients) c low ∙ ap IsClient same

pub has-numbers : (plan : Plan) → HasNumbers plan
has-numbers plan =
    record {
      source_role = λ s low. source-is plan s low;
      node_role = λ f r low. node-here plan f r low;
      client_role = λ c low. client-is plan c low;
      source = λ s low. of-source plan s low;
      fragment = λ f. of-fragment plan (sends_stream (Frag f)) f (λ s. refl) (λ g r. refl) (λ c. refl);
      replicas = λ f. of-fragment plan (is_replica_of f) f (λ s. refl) (λ g r. refl) (λ c. refl);
      readers = λ s. of-readers plan s;
    }
