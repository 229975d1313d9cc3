-- The least order of ranks, rank by rank; and the first place of an order.
use Rattle.std.proofs.Common.{◌≡◌, ℕ, zero, suc, ◌+◌, ◌<◌, ◌≤◌, ◌==◌, false, List, [], ◌∷◌, ◌++◌, map, take, length, min, Option, refl, ap, arith, slice_index_or, lit≤, position, unwrap_or}
use Rattle.std.proofs.lemmas.Grind.{common_steps}
use Rattle.dpc_lists.specs.Lists.{least, place_of, nth}
use Rattle.dpc_model.specs.Replicas.{rank_order, choose}
use Rattle.dpc_model.specs.declared.messages.Rank.{Rank}
use Rattle.dpc_model.specs.declared.messages.Rank.TheVariants.{Stable, UpFailure, Stabilizing, Absent}

-- the least order of the first ranks, 3 where there is none
abbrev pub least_to : ℕ → List Rank → ℕ
least_to i ranks = min 3 (least 3 (map rank_order (take i ranks)))

least-more : (x : ℕ) (xs : List ℕ) → min 3 (least 3 (xs ++ x ∷ [])) ≡ min (min 3 (least 3 xs)) x
least-more x [] = refl
least-more x (y ∷ []) = omega arith
least-more x (y ∷ z ∷ xs) = let rest = least-more x (z ∷ xs) in omega (arith, rest)

order-low : (r : Rank) → rank_order r ≤ 3
order-low Stable = lit≤ tt
order-low UpFailure = lit≤ tt
order-low Stabilizing = lit≤ tt
order-low Absent = lit≤ tt

least-low : (ranks : List Rank) → least 3 (map rank_order ranks) ≤ 3
least-low [] = lit≤ tt
least-low (r ∷ []) = order-low r
least-low (r ∷ s ∷ ranks) = let low = order-low r in omega (arith, low)

taken-more : (i : ℕ) (ranks : List Rank) (d : Rank) → i < length ranks →
    map rank_order (take (i + 1) ranks) ≡ map rank_order (take i ranks) ++ rank_order (slice_index_or ranks i d) ∷ []
taken-more i [] d low = absurd (omega (arith, low))
taken-more zero (r ∷ ranks) d low = refl
taken-more (suc i) (r ∷ ranks) d low =
    let next : suc i + 1 ≡ suc (i + 1) = omega arith in rw next (ap (λ (ns : List ℕ). rank_order r ∷ ns) (taken-more i ranks d (omega (arith, low))))

pub least-next : (i : ℕ) (ranks : List Rank) (d : Rank) → i < length ranks → least_to (i + 1) ranks ≡ min (least_to i ranks) (rank_order (slice_index_or ranks i d))
least-next i ranks d low = rw (taken-more i ranks d low) (least-more (rank_order (slice_index_or ranks i d)) (map rank_order (take i ranks)))

pub least-all : (ranks : List Rank) → least_to (length ranks) ranks ≡ least 3 (map rank_order ranks)
least-all ranks = rw (all ranks) (let low = least-low ranks in omega (arith, low))
  where
    all : (rs : List Rank) → take (length rs) rs ≡ rs
    all [] = refl
    all (r ∷ rs) = ap (λ (ts : List Rank). r ∷ ts) (all rs)

-- the place of an order among orders is that of the first rank of this order
pub place-of-order : (n : ℕ) (ranks : List Rank) → position (λ (r : Rank). rank_order r == n) ranks ≡ place_of (λ o. o == n) (map rank_order ranks)
place-of-order n [] = refl
place-of-order n (r ∷ ranks) = grind (arith, common_steps, place-of-order n ranks)

-- the order at a place
pub order-at : (i : ℕ) (ranks : List Rank) (d : Rank) → i < length ranks → nth 3 (map rank_order ranks) i ≡ rank_order (slice_index_or ranks i d)
order-at i [] d low = absurd (omega (arith, low))
order-at zero (r ∷ ranks) d low = refl
order-at (suc i) (r ∷ ranks) d low = order-at i ranks d (omega (arith, low))

-- the first of the best rank, where the current replica has another rank
pub first-of-best : (current best order : ℕ) (ranks : List Rank) → order ≡ nth 3 (map rank_order ranks) current → best ≡ least 3 (map rank_order ranks) → (order == best) ≡ false →
    unwrap_or (position (λ (r : Rank). rank_order r == best) ranks) current ≡ choose current ranks
first-of-best current best order ranks e k apart = rw (← e, ← k, apart) (ap (λ (o : Option ℕ). unwrap_or o current) (place-of-order best ranks))
