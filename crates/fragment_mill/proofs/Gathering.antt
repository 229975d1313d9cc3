-- What the wires read, one after another and then sorted.
use Rattle.std.proofs.Common.{◌≡◌, ℕ, zero, suc, ◌+◌, ◌<◌, ◌≤◌, List, [], ◌∷◌, ◌++◌, map, take, length, get_or, refl, sym, arith}
use Rattle.std.proofs.lemmas.List.{map-append, append-nil, take_more, length-map, length-take-le}
use Rattle.std.proofs.lemmas.List.Sorted.{IsNonDecreasingBy-from_sort_by_key}
use Rattle.std.proofs.lemmas.Fn.{always_returns_same}
use Rattle.std.specs.Fn.{Called, ComputesKey}
use Rattle.std.specs.List.Sorted.{IsSortedByKey, IsStableByKey}
use Rattle.std.specs.Ordering.{nat_cmp}
use denote.Param.Members.{Mut}
use denote.Ref.{Bor}
use Rattle.dpc_lists.specs.Lists.{nth, sort_by}
use Rattle.dpc_model.specs.Fragments.{tag, tagged_from, read_wire}
use Rattle.dpc_model.specs.declared.tuples.Tuple.{Tuple}
use Rattle.dpc_model.specs.declared.tuples.Tagged.{Tagged}
use Rattle.dpc_model.specs.declared.operators.Wire.{Wire}
use Rattle.dpc_model.specs.declared.operators.Wire.TheVariants.{Op}
use Rattle.dpc_model.proofs.Sorting.{sorted-is}
use Rattle.dpc_model.proofs.Serial.{tagged_from-push}

nth-past : (outs : List (List Tuple)) (i : ℕ) → length outs ≤ i → nth [] outs i ≡ []
nth-past [] i h = refl
nth-past (ts ∷ outs) zero h = absurd (omega (arith, h))
nth-past (ts ∷ outs) (suc i) h = nth-past outs i (omega (arith, h))

-- a wire that reads an operator that gave nothing yet
pub reads-past : (p i : ℕ) (xs gathered : List Tagged) (outs : List (List Tuple)) (w : Wire) → w ≡ Op i → length outs ≤ i → gathered ≡ gathered ++ map (tag p) (read_wire xs outs w)
reads-past p i xs gathered outs w e h = rw (e, nth-past outs i h) (sym (append-nil gathered))

-- one wire or stream more
pub gathered-more : {X : Type 0} (f : X → List Tuple) (ws : List X) (i : ℕ) (d : X) → i < length ws →
    tagged_from 0 (map f (take i ws)) ++ map (tag i) (f (get_or ws i d)) ≡ tagged_from 0 (map f (take (i + 1) ws))
gathered-more f ws i d h =
    let number : 0 + length (map f (take i ws)) ≡ i = omega (arith, length-map (take i ws) f, length-take-le i ws (omega (arith, h))) in
    let more : map f (take (i + 1) ws) ≡ map f (take i ws) ++ f (get_or ws i d) ∷ [] = rw (take_more ws i d h) (map-append f (take i ws) (get_or ws i d ∷ [])) in
    rw more (sym (rw number at (tagged_from-push 0 (map f (take i ws)) (f (get_or ws i d)))))

-- what a stable sort gives, by a closure that computes a number
pub sorted-by_closure : {X : Type 0} (n : X → ℕ) {F : Type 0} {g : Mut F (Bor X × Unit {0}) ℕ} {f : F} (xs ys : List X) →
    ((key : X → ℕ) → ComputesKey g key f → IsSortedByKey key nat_cmp ys) →
    ((key : X → ℕ) → ComputesKey g key f → IsStableByKey key nat_cmp xs ys) →
    ((a : Bor X × Unit {0}) (r : ℕ) (f' : F) → Called g f a r f' → (r ≡ n a.0.now) × (f' ≡ f)) → ys ≡ sort_by n xs
sorted-by_closure n {g = g} {f = f} xs ys up stable h =
    sorted-is n xs ys (IsNonDecreasingBy-from_sort_by_key n ys up h) (stable n (always_returns_same g (λ a r. r ≡ n a.0.now) f h))
