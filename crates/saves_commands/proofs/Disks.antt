-- A disk for each node.
use Rattle.std.proofs.Common.{◌≡◌, ℕ, suc, zero, ◌+◌, ◌<◌, List, [], ◌∷◌, length, drop, map, refl, ap, ◌∙◌, arith, slice_index_or}
use Rattle.std.proofs.lemmas.List.{length-append, length-map}
use Rattle.dpc_lists.specs.Lists.{range_with_len}
use Rattle.dpc_model.specs.Actors.{nodes_from}
use Rattle.dpc_model.specs.declared.plans.FragSpec.{FragSpec}

length-range : (from n : ℕ) → length (range_with_len from n) ≡ n
length-range from zero = refl
length-range from (suc n) = ap suc (length-range (from + 1) n)

nodes-one : (frags : List FragSpec) (i k : ℕ) (f : FragSpec) → i < length frags → f ≡ slice_index_or frags i f → length (nodes_from k (drop i frags)) ≡ f.replicas + length (nodes_from (k + 1) (drop (suc i) frags))
nodes-one [] i k f l is = absurd (omega (arith, l))
nodes-one (x ∷ frags) zero k f l is =
    let own = map (λ r. (k, r)) (range_with_len 0 x.replicas) in
    let many : length own ≡ x.replicas = length-map (range_with_len 0 x.replicas) (λ r. (k, r)) ∙ length-range 0 x.replicas in
    let both = length-append own (nodes_from (k + 1) frags) in
    let same = ap (λ (g : FragSpec). g.replicas) is in omega (arith, many, both, same)
nodes-one (x ∷ frags) (suc i) k f l is = nodes-one frags i k f (omega (arith, l)) is

-- those of the next fragment, and of the others
pub nodes-next : (frags : List FragSpec) (i : ℕ) (f : FragSpec) → i < length frags → f ≡ slice_index_or frags i f → length (nodes_from i (drop i frags)) ≡ f.replicas + length (nodes_from (i + 1) (drop (i + 1) frags))
nodes-next frags i f l is =
    let next : suc i ≡ i + 1 = omega arith in nodes-one frags i i f l is ∙ ap (λ k. f.replicas + length (nodes_from (i + 1) (drop k frags))) next
