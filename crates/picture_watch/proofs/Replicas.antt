-- How many replicas there are, and lists of them.
use Rattle.std.proofs.Common.{◌≡◌, ℕ, ◌+◌, ◌-◌, ◌≤◌, List, [], ◌∷◌, ◌++◌, map, length, refl, sym, ap, ◌∙◌, arith}
use Rattle.std.specs.Prelude.{flat_map, sum_by}
use Rattle.std.proofs.lemmas.List.{flat_map_more, length-append, length-map, map-id}
use Rattle.std.proofs.lemmas.List.FromFn.{length-range_with_len, map-range_with_len_more}
use Rattle.std.proofs.lemmas.List.Sums.{sum_by-cons}
use Rattle.dpc_lists.specs.Lists.{range_with_len}
use Rattle.dpc_model.specs.Actors.{nodes_from}
use Rattle.dpc_model.specs.declared.plans.FragSpec.{FragSpec}

-- ---- how many there are

pub count-nodes : (f : ℕ) (frags : List FragSpec) → length (nodes_from f frags) ≡ sum_by (λ (frag : FragSpec). frag.replicas) frags
count-nodes f [] = refl
count-nodes f (frag ∷ rest) =
    let node : ℕ → ℕ × ℕ = λ r. (f, r) in
    let here : length (map node (range_with_len 0 frag.replicas)) ≡ frag.replicas = length-map (range_with_len 0 frag.replicas) node ∙ length-range_with_len 0 frag.replicas in
    let both = length-append (map node (range_with_len 0 frag.replicas)) (nodes_from (f + 1) rest) in
    let behind = count-nodes (f + 1) rest in
    let sum = sum_by-cons (λ (frag : FragSpec). frag.replicas) frag rest in
    omega (arith, here, both, behind, sum)

-- ---- lists of all of them

-- one more
pub replicas_more : {X : Type 0} (f : ℕ → X) (first a : ℕ) (old new : List X) (x : X) → first ≤ a → old ≡ map f (range_with_len first (a - first)) → x ≡ f a → new ≡ old ++ x ∷ []
    → new ≡ map f (range_with_len first (a + 1 - first))
replicas_more {X} f first a old new x past was is pushed =
    let at : first + (a - first) ≡ a = omega (arith, past) in
    let next : a + 1 - first ≡ a - first + 1 = omega (arith, past) in
    pushed ∙ ap (λ (y : X). old ++ y ∷ []) is ∙ ap (λ (xs : List X). xs ++ f a ∷ []) was ∙ sym (map-range_with_len_more f first (a - first) a at)
    ∙ ap (λ n. map f (range_with_len first n)) (sym next)

range-more : (i : ℕ) → range_with_len 0 (i + 1) ≡ range_with_len 0 i ++ i ∷ []
range-more i =
    let same : 0 + i ≡ i = omega arith in
    sym (map-id (range_with_len 0 (i + 1))) ∙ map-range_with_len_more (λ (k : ℕ). k) 0 i i same ∙ ap (λ (is : List ℕ). is ++ i ∷ []) (map-id (range_with_len 0 i))

-- what one more of them has to tell
pub told_more : {X : Type 0} (f : ℕ → List X) (i : ℕ) (start old new : List X) → old ≡ start ++ flat_map f (range_with_len 0 i) → new ≡ old ++ f i → new ≡ start ++ flat_map f (range_with_len 0 (i + 1))
told_more {X} f i start old new was is =
    is ∙ ap (λ (xs : List X). xs ++ f i) was ∙ flat_map_more f start (range_with_len 0 i) i ∙ ap (λ (is : List ℕ). start ++ flat_map f is) (sym (range-more i))
