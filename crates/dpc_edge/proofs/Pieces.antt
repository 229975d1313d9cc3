-- Lists in two pieces.
use Rattle.std.proofs.Common.{◌≡◌, ℕ, ◌+◌, ◌-◌, ◌≤◌, List, ◌++◌, length, take, drop, sym, ◌∙◌, ap}
use Rattle.std.proofs.Math.Seq.{take-length, take-append-add}
use Rattle.std.proofs.lemmas.List.{take-append-drop, take-append-le, drop-drop, length-drop, length-take-le}

-- a slice from place i on is all that lies behind that place
pub take-drop-whole : (i : ℕ) (xs : List ℕ) → take (length xs - i) (drop i xs) ≡ drop i xs
take-drop-whole i xs = rw (← length-drop i xs) (take-length (drop i xs))

-- what lies behind place i is its first n elements and what lies behind them
pub drop-split : (i n : ℕ) (xs ys : List ℕ) → take n ys ≡ take n (take (length xs - i) (drop i xs)) → drop i xs ≡ take n ys ++ drop (i + n) xs
drop-split i n xs ys e =
    rw (e, take-drop-whole i xs, ← drop-drop n i xs) (sym (take-append-drop n (drop i xs)))

-- the first elements of a list, with the first ones of what is put behind them
pub take-past : (i n : ℕ) (xs ys zs : List ℕ) → i ≤ length xs → n ≤ length ys → take (i + n) (take i xs ++ (ys ++ zs)) ≡ take i xs ++ take n ys
take-past i n xs ys zs low high =
    let front : length (take i xs) ≡ i = length-take-le i xs low in
    let past = take-append-add (take i xs) (ys ++ zs) n in
    let joined : take (i + n) (take i xs ++ (ys ++ zs)) ≡ take i xs ++ take n (ys ++ zs) = rw front at past in
    joined ∙ ap (λ (t : List ℕ). take i xs ++ t) (take-append-le n ys zs high)
