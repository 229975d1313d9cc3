-- The numbers of the actors that pass a test, and of senders and readers.
use Rattle.std.proofs.Common.{◌≡◌, ℕ, zero, suc, ◌+◌, ◌<◌, ◌≤◌, Bool, true, false, cond, ◌||◌, ◌==◌, nat_lt, List, [], ◌∷◌, ◌++◌, map, length, refl, sym, ap, ◌∙◌, arith, length-append, append-nil, inl, inr}
use Rattle.std.proofs.lemmas.Grind.{common_steps}
use Rattle.std.proofs.lemmas.List.{map-append, length-map}
use Rattle.std.proofs.lemmas.List.FromFn.{length-range_with_len}
use Rattle.std.specs.List.{filter, enumerate_from}
use Rattle.dpc_lists.specs.Lists.{nth, range_with_len, list_any}
use Rattle.dpc_model.specs.Actors.{nodes_from, nodes_of, inputs_of, sends_stream, actors_where, senders_of, readers_of, same_stream}
use Rattle.dpc_model.specs.declared.actors.Role.{Role}
use Rattle.dpc_model.specs.declared.actors.Role.TheVariants.{Source as IsSource, Node as IsNode, Client as IsClient}
use Rattle.dpc_model.specs.declared.plans.ClientSpec.{ClientSpec}
use Rattle.dpc_model.specs.declared.plans.FragSpec.{FragSpec}
use Rattle.dpc_model.specs.declared.plans.Plan.{Plan}
use Rattle.dpc_model.specs.declared.plans.StreamRef.{StreamRef}
use Rattle.dpc_model.specs.declared.plans.StreamRef.TheVariants.{Source}
use Rattle.node_model.specs.Nodes.{no_fragment}
use Rattle.dpc_lists.proofs.Truths.{eq-test, lt-of, not-lt, or-none}
use Rattle.dpc_model.proofs.Roles.{numbers_where, node_at}
use Rattle.law_granting.proofs.Asked.{same-or}
use Rattle.law_granting.proofs.Sent.{apart-test}
use Rattle.law_session_origins.specs.Numbers.{replicas_before, first_replica, replicas_at, replicas_reading, clients_reading}

-- the replicas of the fragments whose numbers pass, where the first fragment has number f, and its first replica is actor k
abbrev blocks : (ℕ → Bool) → ℕ → ℕ → List FragSpec → List ℕ
blocks t k f [] = []
blocks t k f (frag ∷ frags) = cond (t f) (range_with_len k frag.replicas) [] ++ blocks t (k + frag.replicas) (f + 1) frags

module _ (test : Role → Bool) where
  numbers-append : (k : ℕ) (xs ys : List Role) → numbers_where test k (xs ++ ys) ≡ numbers_where test k xs ++ numbers_where test (k + length xs) ys
  numbers-append k [] ys = let none : k + 0 ≡ k = omega arith in rw none refl
  numbers-append k (x ∷ xs) ys =
      let next : k + suc (length xs) ≡ k + 1 + length xs = omega arith in
      let rest = numbers-append (k + 1) xs ys in
      rw next (elim (test x) as (λ b. map (λ (y : ℕ × Role). y.0) (cond b ((k, x) ∷ filter (λ (y : ℕ × Role). test y.1) (enumerate_from (k + 1) (xs ++ ys))) (filter (λ (y : ℕ × Role). test y.1) (enumerate_from (k + 1) (xs ++ ys))))
      ≡ map (λ (y : ℕ × Role). y.0) (cond b ((k, x) ∷ filter (λ (y : ℕ × Role). test y.1) (enumerate_from (k + 1) xs)) (filter (λ (y : ℕ × Role). test y.1) (enumerate_from (k + 1) xs))) ++ numbers_where test (k + 1 + length xs) ys) [
        | true ↦ ap (λ (ns : List ℕ). k ∷ ns) rest
        | false ↦ rest
      ])

  -- nobody passes
  none-pass : {X : Type 0} (f : X → Role) (k : ℕ) (xs : List X) → ((x : X) → test (f x) ≡ false) → numbers_where test k (map f xs) ≡ []
  none-pass f k [] h = refl
  none-pass f k (x ∷ xs) h = rw (h x) (none-pass f (k + 1) xs h)

  -- all pass
  all-pass : (f : ℕ → Role) (k from count : ℕ) → ((x : ℕ) → test (f x) ≡ true) → numbers_where test k (map f (range_with_len from count)) ≡ range_with_len k count
  all-pass f k from zero h = refl
  all-pass f k from (suc count) h = rw (h from) (ap (λ (ns : List ℕ). k ∷ ns) (all-pass f (k + 1) (from + 1) count h))

  -- ---- nodes, of whom those of some fragments pass

  module _ (t : ℕ → Bool) (nodes : (g r : ℕ) → test (IsNode g r) ≡ t g) where
    blocks-are : (k f : ℕ) (frags : List FragSpec) → numbers_where test k (map node_at (nodes_from f frags)) ≡ blocks t k f frags
    blocks-are k f [] = refl
    blocks-are k f (frag ∷ frags) =
        let own : List (ℕ × ℕ) = map (λ r. (f, r)) (range_with_len 0 frag.replicas) in
        let many : length (map node_at own) ≡ frag.replicas = length-map own node_at ∙ length-map (range_with_len 0 frag.replicas) (λ r. (f, r)) ∙ length-range_with_len 0 frag.replicas in
        ap (λ (roles : List Role). numbers_where test k roles) (map-append node_at own (nodes_from (f + 1) frags)) ∙ numbers-append k (map node_at own) (map node_at (nodes_from (f + 1) frags))
        ∙ ap (λ (n : ℕ). numbers_where test k (map node_at own) ++ numbers_where test (k + n) (map node_at (nodes_from (f + 1) frags))) many
        ∙ ap (λ (ns : List ℕ). numbers_where test k (map node_at own) ++ ns) (blocks-are (k + frag.replicas) (f + 1) frags)
        ∙ ap (λ (ns : List ℕ). ns ++ blocks t (k + frag.replicas) (f + 1) frags) (block (t f) refl (range_with_len 0 frag.replicas) k 0 frag.replicas refl)
      where
        block : (b : Bool) → t f ≡ b → (rs : List ℕ) (k from count : ℕ) → rs ≡ range_with_len from count → numbers_where test k (map node_at (map (λ r. (f, r)) rs)) ≡ cond (t f) (range_with_len k count) []
        block b e rs k from zero same = rw same (by-none b e)
          where
            by-none : (b : Bool) → t f ≡ b → ◌≡◌ {A = List ℕ} [] (cond (t f) [] [])
            by-none true e = rw e refl
            by-none false e = rw e refl
        block true e rs k from (suc count) same =
            let here : test (IsNode f from) ≡ true = nodes f from ∙ e in
            let more = block true e (range_with_len (from + 1) count) (k + 1) (from + 1) count refl in
            rw (same, here, e) (ap (λ (ns : List ℕ). k ∷ ns) (rw e at more))
        block false e rs k from (suc count) same =
            let here : test (IsNode f from) ≡ false = nodes f from ∙ e in
            let more = block false e (range_with_len (from + 1) count) (k + 1) (from + 1) count refl in
            rw (same, here, e) (rw e at more)

-- ---- one fragment

none-blocks : (n k f : ℕ) (frags : List FragSpec) → n < f → blocks (λ g. n == g) k f frags ≡ []
none-blocks n k f [] low = refl
none-blocks n k f (frag ∷ frags) low = let other : (n == f) ≡ false = grind (arith, common_steps) in rw other (none-blocks n (k + frag.replicas) (f + 1) frags (omega (arith, low)))

one-block : (n k f i : ℕ) (frags : List FragSpec) → n ≡ f + i → blocks (λ g. n == g) k f frags ≡ range_with_len (k + replicas_before i frags) (nth no_fragment frags i).replicas
one-block n k f zero [] e = refl
one-block n k f (suc i) [] e = refl
one-block n k f zero (frag ∷ frags) e =
    let it : (n == f) ≡ true = eq-test n f (omega (arith, e)) in
    let none : k + 0 ≡ k = omega arith in
    rw (it, none) (ap (λ (ns : List ℕ). range_with_len k frag.replicas ++ ns) (none-blocks n (k + frag.replicas) (f + 1) frags (omega (arith, e))) ∙ append-nil (range_with_len k frag.replicas))
one-block n k f (suc i) (frag ∷ frags) e =
    let other : (n == f) ≡ false = grind (arith, common_steps) in
    let far : k + frag.replicas + replicas_before i frags ≡ k + (frag.replicas + replicas_before i frags) = omega arith in
    rw other (one-block n (k + frag.replicas) (f + 1) i frags (omega (arith, e)) ∙ ap (λ (x : ℕ). range_with_len x (nth no_fragment frags i).replicas) far)

-- ---- the fragments that read a stream

blocks-reading : (s : StreamRef) (t : ℕ → Bool) (k f : ℕ) (frags : List FragSpec) → ((i : ℕ) → t (f + i) ≡ list_any (same_stream s) (nth [] (map (λ (frag : FragSpec). frag.inputs) frags) i)) → blocks t k f frags ≡ replicas_reading s k frags
blocks-reading s t k f [] h = refl
blocks-reading s t k f (frag ∷ frags) h =
    let none : f + 0 ≡ f = omega arith in
    let here : t f ≡ list_any (same_stream s) frag.inputs = ap t (sym none) ∙ h 0 in
    ap (λ (b : Bool). cond b (range_with_len k frag.replicas) [] ++ blocks t (k + frag.replicas) (f + 1) frags) here
    ∙ ap (λ (ns : List ℕ). cond (list_any (same_stream s) frag.inputs) (range_with_len k frag.replicas) [] ++ ns)
    (blocks-reading s t (k + frag.replicas) (f + 1) frags (λ i. let next : f + 1 + i ≡ f + suc i = omega arith in ap t next ∙ h (suc i)))

clients-are : (s : StreamRef) (test : Role → Bool) (k n : ℕ) (clients : List ClientSpec) →
    ((i : ℕ) → test (IsClient (n + i)) ≡ list_any (same_stream s) (nth [] (map (λ (client : ClientSpec). client.input ∷ []) clients) i)) → numbers_where test k (map IsClient (range_with_len n (length clients))) ≡ clients_reading s k clients
clients-are s test k n [] h = refl
clients-are s test k n (client ∷ clients) h =
    let none : n + 0 ≡ n = omega arith in
    let only : (same_stream s client.input || false) ≡ same_stream s client.input = or-none (same_stream s client.input) in
    let here : test (IsClient n) ≡ same_stream s client.input = ap (λ (c : ℕ). test (IsClient c)) (sym none) ∙ h 0 ∙ only in
    let rest = clients-are s test (k + 1) (n + 1) clients (λ i. let next : n + 1 + i ≡ n + suc i = omega arith in ap (λ (c : ℕ). test (IsClient c)) next ∙ h (suc i)) in
    rw here (elim (same_stream s client.input) as (λ b. map (λ (y : ℕ × Role). y.0) (cond b ((k, IsClient n) ∷ filter (λ (y : ℕ × Role). test y.1) (enumerate_from (k + 1) (map IsClient (range_with_len (n + 1) (length clients)))))
    (filter (λ (y : ℕ × Role). test y.1) (enumerate_from (k + 1) (map IsClient (range_with_len (n + 1) (length clients)))))) ≡ cond b (k ∷ clients_reading s (k + 1) clients) (clients_reading s (k + 1) clients)) [
      | true ↦ ap (λ (ns : List ℕ). k ∷ ns) rest
      | false ↦ rest
    ])

-- ---- one source

no-source : (s k c : ℕ) → s < k → numbers_where (sends_stream (Source s)) k (map IsSource (range_with_len k c)) ≡ []
no-source s k zero low = refl
no-source s k (suc c) low = let other : (s == k) ≡ false = grind (arith, common_steps) in rw other (no-source s (k + 1) c (omega (arith, low)))

one-source : (s k c : ℕ) → k ≤ s → s < k + c → numbers_where (sends_stream (Source s)) k (map IsSource (range_with_len k c)) ≡ s ∷ []
one-source s k zero low high = absurd (omega (arith, low, high))
one-source s k (suc c) low high =
    elim (same-or s k) [
      | inl same ↦ let it : (s == k) ≡ true = eq-test s k same in rw it (ap (λ (ns : List ℕ). k ∷ ns) (no-source s (k + 1) c (omega (arith, same))) ∙ ap (λ (x : ℕ). x ∷ []) (sym same))
      | inr other ↦ let apart : (s == k) ≡ false = apart-test s k (λ e. other (sym e)) in rw apart (one-source s (k + 1) c (differ low other) (omega (arith, high)))
    ]
  where
    differ : k ≤ s → (s ≡ k → ⊥) → k + 1 ≤ s
    differ low other = by-value (nat_lt k s) refl
      where
        by-value : (b : Bool) → nat_lt k s ≡ b → k + 1 ≤ s
        by-value true e = let less = lt-of k s e in omega (arith, less)
        by-value false e = let high = not-lt k s e in absurd (other (omega (arith, low, high)))

-- ---- all actors of a plan

pub total-nodes : (f : ℕ) (frags : List FragSpec) → length (nodes_from f frags) ≡ replicas_before (length frags) frags
total-nodes f [] = refl
total-nodes f (frag ∷ frags) =
    length-append (map (λ r. (f, r)) (range_with_len 0 frag.replicas)) (nodes_from (f + 1) frags)
    ∙ ap (λ (n : ℕ). n + length (nodes_from (f + 1) frags)) (length-map (range_with_len 0 frag.replicas) (λ r. (f, r)) ∙ length-range_with_len 0 frag.replicas)
    ∙ ap (λ (n : ℕ). frag.replicas + n) (total-nodes (f + 1) frags)

module _ (plan : Plan) where
  abbrev pub source_roles : List Role
  source_roles = map IsSource (range_with_len 0 (length plan.sources))

  abbrev pub node_roles : List Role
  node_roles = map node_at (nodes_of plan)

  abbrev pub client_roles : List Role
  client_roles = map IsClient (range_with_len 0 (length plan.clients))

  pub many-sources : length source_roles ≡ length plan.sources
  many-sources = length-map (range_with_len 0 (length plan.sources)) IsSource ∙ length-range_with_len 0 (length plan.sources)

  pub many-before : length (source_roles ++ node_roles) ≡ first_replica plan (length plan.frags)
  many-before = length-append source_roles node_roles ∙ ap (λ (n : ℕ). n + length node_roles) many-sources ∙ ap (λ (n : ℕ). length plan.sources + n) (length-map (nodes_of plan) node_at ∙ total-nodes 0 plan.frags)

  parts : (test : Role → Bool) → actors_where test plan ≡ (numbers_where test 0 source_roles ++ numbers_where test (length plan.sources) node_roles) ++ numbers_where test (first_replica plan (length plan.frags)) client_roles
  parts test =
      let behind : 0 + length (source_roles ++ node_roles) ≡ first_replica plan (length plan.frags) = let many = many-before in omega (arith, many) in
      let after : 0 + length source_roles ≡ length plan.sources = let many = many-sources in omega (arith, many) in
      numbers-append test 0 (source_roles ++ node_roles) client_roles
      ∙ ap (λ (ns : List ℕ). ns ++ numbers_where test (0 + length (source_roles ++ node_roles)) client_roles) (numbers-append test 0 source_roles node_roles ∙ ap (λ (n : ℕ). numbers_where test 0 source_roles ++ numbers_where test n node_roles) after)
      ∙ ap (λ (n : ℕ). (numbers_where test 0 source_roles ++ numbers_where test (length plan.sources) node_roles) ++ numbers_where test n client_roles) behind

  pub of-fragment : (test : Role → Bool) (f : ℕ) → ((s : ℕ) → test (IsSource s) ≡ false) → ((g r : ℕ) → test (IsNode g r) ≡ (f == g)) → ((c : ℕ) → test (IsClient c) ≡ false) → actors_where test plan ≡ range_with_len (first_replica plan f) (replicas_at plan f)
  of-fragment test f sources nodes clients =
      let a = none-pass test IsSource 0 (range_with_len 0 (length plan.sources)) sources in
      let b = blocks-are test (λ g. f == g) nodes (length plan.sources) 0 plan.frags ∙ one-block f (length plan.sources) 0 f plan.frags (omega arith) in
      let c = none-pass test IsClient (first_replica plan (length plan.frags)) (range_with_len 0 (length plan.clients)) clients in
      parts test ∙ rw (a, b, c) (append-nil (range_with_len (first_replica plan f) (replicas_at plan f)))

  pub of-source : (s : ℕ) → s < length plan.sources → senders_of plan (Source s) ≡ s ∷ []
  of-source s low =
      let test = sends_stream (Source s) in
      let a = one-source s 0 (length plan.sources) (omega arith) (omega (arith, low)) in
      let b = none-pass test node_at (length plan.sources) (nodes_of plan) (λ n. refl) in
      let c = none-pass test IsClient (first_replica plan (length plan.frags)) (range_with_len 0 (length plan.clients)) (λ x. refl) in
      parts test ∙ rw (a, b, c) refl

  pub of-readers : (s : StreamRef) → readers_of plan s ≡ replicas_reading s (length plan.sources) plan.frags ++ clients_reading s (first_replica plan (length plan.frags)) plan.clients
  of-readers s =
      let test : Role → Bool = λ role. list_any (same_stream s) (inputs_of plan role) in
      let t : ℕ → Bool = λ g. list_any (same_stream s) (nth [] (map (λ (frag : FragSpec). frag.inputs) plan.frags) g) in
      let a = none-pass test IsSource 0 (range_with_len 0 (length plan.sources)) (λ u. refl) in
      let b = blocks-are test t (λ g r. refl) (length plan.sources) 0 plan.frags ∙ blocks-reading s t (length plan.sources) 0 plan.frags (λ i. let same : 0 + i ≡ i = omega arith in ap t same) in
      let c = clients-are s test (first_replica plan (length plan.frags)) 0 plan.clients (λ i. let same : 0 + i ≡ i = omega arith in ap (λ (x : ℕ). test (IsClient x)) same) in
      parts test
      ∙ ap (λ (ns : List ℕ). (ns ++ numbers_where test (length plan.sources) node_roles) ++ numbers_where test (first_replica plan (length plan.frags)) client_roles) a
      ∙ ap (λ (ns : List ℕ). ns ++ numbers_where test (first_replica plan (length plan.frags)) client_roles) b
      ∙ ap (λ (ns : List ℕ). replicas_reading s (length plan.sources) plan.frags ++ ns) c
