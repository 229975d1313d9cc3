-- Lists of actors, one more at the end.
use Rattle.std.proofs.Common.{◌≡◌, ℕ, zero, suc, ◌+◌, ◌<◌, Bool, true, false, cond, List, [], ◌∷◌, ◌++◌, map, filter, take, length, refl, ap, sym, ◌∙◌, arith, append_assoc, append-nil, slice_index_or}
use Rattle.std.proofs.lemmas.List.FromFn.{map-range_with_len_more}
use Rattle.std.proofs.lemmas.List.{map-append}
use Rattle.dpc_lists.specs.Lists.{range_with_len, enumerate_from}
use Rattle.dpc_model.specs.Actors.{nodes_from}
use Rattle.dpc_model.specs.declared.actors.Role.{Role}
use Rattle.dpc_model.specs.declared.actors.Role.TheVariants.{Node as IsNode}
use Rattle.dpc_model.specs.declared.plans.FragSpec.{FragSpec}
use Rattle.dpc_model.proofs.Roles.{numbers_where, node_at}

-- one number more
pub more : (f : ℕ → Role) (n : ℕ) (old now new : List Role) → now ≡ old ++ map f (range_with_len 0 n) → new ≡ now ++ f n ∷ [] → new ≡ old ++ map f (range_with_len 0 (n + 1))
more f n old now new before pushed =
    pushed ∙ ap (λ (xs : List Role). xs ++ f n ∷ []) before ∙ append_assoc old (map f (range_with_len 0 n)) (f n ∷ [])
    ∙ ap (λ (xs : List Role). old ++ xs) (let e : 0 + n ≡ n = omega arith in sym (map-range_with_len_more f 0 n n e))

-- one fragment more: its replicas come last
pub nodes-more : (f i : ℕ) (frags : List FragSpec) (d : FragSpec) → i < length frags →
    nodes_from f (take (i + 1) frags) ≡ nodes_from f (take i frags) ++ map (λ r. (f + i, r)) (range_with_len 0 (slice_index_or frags i d).replicas)
nodes-more f i [] d low = absurd (omega (arith, low))
nodes-more f zero (x ∷ frags) d low = let none : f + 0 ≡ f = omega arith in rw none (append-nil (map (λ r. (f, r)) (range_with_len 0 x.replicas)))
nodes-more f (suc i) (x ∷ frags) d low =
    let next : suc i + 1 ≡ suc (i + 1) = omega arith in
    let number : f + 1 + i ≡ f + suc i = omega arith in
    rw next (ap (λ (ns : List (ℕ × ℕ)). map (λ r. (f, r)) (range_with_len 0 x.replicas) ++ ns)
    (nodes-more (f + 1) i frags d (omega (arith, low)) ∙ ap (λ n. nodes_from (f + 1) (take i frags) ++ map (λ r. (n, r)) (range_with_len 0 (slice_index_or frags i d).replicas)) number)
    ∙ sym (append_assoc (map (λ r. (f, r)) (range_with_len 0 x.replicas)) (nodes_from (f + 1) (take i frags)) _))

same-role : (f : ℕ) (ns : List ℕ) → map node_at (map (λ r. (f, r)) ns) ≡ map (IsNode f) ns
same-role f [] = refl
same-role f (n ∷ ns) = ap (λ (rs : List Role). IsNode f n ∷ rs) (same-role f ns)

-- .. and so are the roles
pub roles-more : (i : ℕ) (frags : List FragSpec) (d : FragSpec) (old now new : List Role) → i < length frags →
    now ≡ old ++ map (λ n. IsNode n.0 n.1) (nodes_from 0 (take i frags)) → new ≡ now ++ map (IsNode i) (range_with_len 0 (slice_index_or frags i d).replicas) →
    new ≡ old ++ map (λ n. IsNode n.0 n.1) (nodes_from 0 (take (i + 1) frags))
roles-more i frags d old now new low before pushed =
    let front : List (ℕ × ℕ) = nodes_from 0 (take i frags) in
    let back : List (ℕ × ℕ) = map (λ r. (i, r)) (range_with_len 0 (slice_index_or frags i d).replicas) in
    let number : 0 + i ≡ i = omega arith in
    let nodes : nodes_from 0 (take (i + 1) frags) ≡ front ++ back =
    nodes-more 0 i frags d low ∙ ap (λ n. front ++ map (λ r. (n, r)) (range_with_len 0 (slice_index_or frags i d).replicas)) number in
    pushed ∙ ap (λ (xs : List Role). xs ++ map (IsNode i) (range_with_len 0 (slice_index_or frags i d).replicas)) before
    ∙ append_assoc old (map node_at front) (map (IsNode i) (range_with_len 0 (slice_index_or frags i d).replicas))
    ∙ ap (λ (xs : List Role). old ++ (map node_at front ++ xs)) (sym (same-role i (range_with_len 0 (slice_index_or frags i d).replicas)))
    ∙ ap (λ (xs : List Role). old ++ xs) (sym (map-append node_at front back))
    ∙ ap (λ (ns : List (ℕ × ℕ)). old ++ map node_at ns) (sym nodes)

-- one actor more
pub passing-more : (test : Role → Bool) (k i : ℕ) (roles : List Role) (d : Role) → i < length roles →
    numbers_where test k (take (i + 1) roles) ≡ numbers_where test k (take i roles) ++ cond (test (slice_index_or roles i d)) ((k + i) ∷ []) []
passing-more test k i [] d low = absurd (omega (arith, low))
passing-more test k zero (x ∷ roles) d low =
    let none : k + 0 ≡ k = omega arith in
    rw none ((elim (test x) as (λ b. map (λ (x : ℕ × Role). x.0) (cond b ((k, x) ∷ []) []) ≡ cond b (k ∷ []) []) [ true ↦ refl | false ↦ refl ]))
passing-more test k (suc i) (x ∷ roles) d low =
    let next : suc i + 1 ≡ suc (i + 1) = omega arith in
    let number : k + 1 + i ≡ k + suc i = omega arith in
    let rest = passing-more test (k + 1) i roles d (omega (arith, low)) ∙ ap (λ n. numbers_where test (k + 1) (take i roles) ++ cond (test (slice_index_or roles i d)) (n ∷ []) []) number in
    rw next (elim (test x) as (λ b. map (λ (x : ℕ × Role). x.0) (cond b ((k, x) ∷ filter (λ (x : ℕ × Role). test x.1) (enumerate_from (k + 1) (take (i + 1) roles))) (filter (λ (x : ℕ × Role). test x.1) (enumerate_from (k + 1) (take (i + 1) roles))))
    ≡ map (λ (x : ℕ × Role). x.0) (cond b ((k, x) ∷ filter (λ (x : ℕ × Role). test x.1) (enumerate_from (k + 1) (take i roles))) (filter (λ (x : ℕ × Role). test x.1) (enumerate_from (k + 1) (take i roles)))) ++ cond (test (slice_index_or roles i d)) ((k + suc i) ∷ []) []) [
      | true ↦ ap (λ (ns : List ℕ). k ∷ ns) rest
      | false ↦ rest
    ])

-- the next actor passes
pub passes : (test : Role → Bool) (i : ℕ) (roles : List Role) (d : Role) (now new : List ℕ) → i < length roles → now ≡ numbers_where test 0 (take i roles) →
    test (slice_index_or roles i d) ≡ true → new ≡ now ++ i ∷ [] → new ≡ numbers_where test 0 (take (i + 1) roles)
passes test i roles d now new low before passed pushed =
    let number : 0 + i ≡ i = omega arith in
    pushed ∙ ap (λ (ns : List ℕ). ns ++ i ∷ []) before
    ∙ sym (passing-more test 0 i roles d low ∙ ap (λ (b : Bool). numbers_where test 0 (take i roles) ++ cond b ((0 + i) ∷ []) []) passed ∙ ap (λ n. numbers_where test 0 (take i roles) ++ n ∷ []) number)

-- .. or it doesn't
pub fails : (test : Role → Bool) (i : ℕ) (roles : List Role) (d : Role) (now new : List ℕ) → i < length roles → now ≡ numbers_where test 0 (take i roles) →
    test (slice_index_or roles i d) ≡ false → new ≡ now → new ≡ numbers_where test 0 (take (i + 1) roles)
fails test i roles d now new low before no-pass same =
    same ∙ before ∙ sym (passing-more test 0 i roles d low ∙ ap (λ (b : Bool). numbers_where test 0 (take i roles) ++ cond b ((0 + i) ∷ []) []) no-pass ∙ append-nil (numbers_where test 0 (take i roles)))
