-- Lists in order of a number, with one more at their end.
use Rattle.std.proofs.Common.{ℕ, ◌≤◌, List, [], ◌∷◌, ◌++◌, map, None, arith}
use Rattle.std.specs.Prelude.{unwrap_or}
use Rattle.dpc_lists.specs.Lists.{last_or}
use Rattle.dpc_model.specs.Streams.{NoneBelow, IsOrdered}

abbrev pub itself : ℕ → ℕ
itself n = n

-- the last number, or else 0
abbrev pub last_number : List ℕ → ℕ
last_number ns = unwrap_or (last_or None ns) 0

none_below-weaken : (m n : ℕ) (ns : List ℕ) → m ≤ n → NoneBelow itself n ns → NoneBelow itself m ns
none_below-weaken m n [] low h = tt
none_below-weaken m n (x ∷ ns) low h = let first = h.0 in (omega (arith, low, first), none_below-weaken m n ns low h.1)

-- numbers in order are at most the last one
first-last : (n : ℕ) (ns : List ℕ) → IsOrdered itself (n ∷ ns) → n ≤ last_number (n ∷ ns)
first-last n [] h = omega arith
first-last n (m ∷ ns) h =
    let step = h.0.0 in
    let rest : m ≤ last_number (m ∷ ns) = first-last m ns h.1 in
    omega (arith, step, rest)

none_below-push : (m n : ℕ) (ns : List ℕ) → NoneBelow itself m ns → m ≤ n → NoneBelow itself m (ns ++ n ∷ [])
none_below-push m n [] h low = (low, tt)
none_below-push m n (x ∷ ns) h low = (h.0, none_below-push m n ns h.1 low)

-- a further number that is not below the last one
pub ordered-push : (ns : List ℕ) (n : ℕ) → IsOrdered itself ns → last_number ns ≤ n → IsOrdered itself (ns ++ n ∷ [])
ordered-push [] n h low = (tt, tt)
ordered-push (m ∷ []) n h low = ((low, tt), (tt, tt))
ordered-push (m ∷ k ∷ ns) n h low =
    let first : m ≤ last_number (m ∷ k ∷ ns) = first-last m (k ∷ ns) h in
    (none_below-push m n (k ∷ ns) h.0 (omega (arith, first, low)), ordered-push (k ∷ ns) n h.1 low)

none_below-map : {X : Type 0} (key : X → ℕ) (n : ℕ) (xs : List X) → NoneBelow itself n (map key xs) → NoneBelow key n xs
none_below-map key n [] h = tt
none_below-map key n (x ∷ xs) h = (h.0, none_below-map key n xs h.1)

-- elements whose numbers are in order
pub ordered-map : {X : Type 0} (key : X → ℕ) (xs : List X) → IsOrdered itself (map key xs) → IsOrdered key xs
ordered-map key [] h = tt
ordered-map key (x ∷ xs) h = (none_below-map key (key x) xs h.0, ordered-map key xs h.1)
