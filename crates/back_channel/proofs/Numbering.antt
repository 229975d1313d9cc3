-- Items of tuples, one more at the end.
use Rattle.std.proofs.Common.{◌≡◌, ℕ, ◌+◌, ◌-◌, ◌<◌, ◌≤◌, List, [], ◌∷◌, ◌++◌, length, take, drop, get_or, sym, ap, ◌∙◌, arith}
use Rattle.std.proofs.lemmas.List.{take_more, length-drop, length-take, get_or-drop, map-append, append_assoc}
use Rattle.dpc_model.specs.Sessions.{stable_items, tentative_items}
use Rattle.dpc_model.specs.declared.tuples.Item.{Item}
use Rattle.dpc_model.specs.declared.tuples.Item.TheVariants.{Stable, Tentative}
use Rattle.dpc_model.specs.declared.tuples.Tuple.{Tuple}
use Rattle.dpc_model.proofs.StableItems.{stable_items-push}

taken-next : (p i : ℕ) (xs : List Tuple) (t : Tuple) → p ≤ i → i < length xs → t ≡ get_or xs i t → take (i + 1 - p) (drop p xs) ≡ take (i - p) (drop p xs) ++ t ∷ []
taken-next p i xs t low inside is =
    let next : i + 1 - p ≡ i - p + 1 = omega (arith, low) in
    let long = length-drop p xs in
    let place : p + (i - p) ≡ i = omega (arith, low) in
    let there : get_or (drop p xs) (i - p) t ≡ t = get_or-drop p xs (i - p) t ∙ ap (λ n. get_or xs n t) place ∙ sym is in
    ap (λ n. take n (drop p xs)) next ∙ take_more (drop p xs) (i - p) t (omega (arith, long, low, inside)) ∙ ap (λ u. take (i - p) (drop p xs) ++ u ∷ []) there

pub stable-next : (p i : ℕ) (xs : List Tuple) (t : Tuple) → p ≤ i → i < length xs → t ≡ get_or xs i t
    → stable_items p (take (i + 1 - p) (drop p xs)) ≡ stable_items p (take (i - p) (drop p xs)) ++ Stable i t ∷ []
stable-next p i xs t low inside is =
    let long = length-drop p xs in
    let most = length-take (i - p) (drop p xs) in
    let number : p + length (take (i - p) (drop p xs)) ≡ i = omega (arith, long, most, low, inside) in
    ap (stable_items p) (taken-next p i xs t low inside is) ∙ stable_items-push p (take (i - p) (drop p xs)) t
    ∙ ap (λ n. stable_items p (take (i - p) (drop p xs)) ++ Stable n t ∷ []) number

pub tentative-next : (p i : ℕ) (xs : List Tuple) (t : Tuple) → p ≤ i → i < length xs → t ≡ get_or xs i t
    → tentative_items (take (i + 1 - p) (drop p xs)) ≡ tentative_items (take (i - p) (drop p xs)) ++ Tentative t ∷ []
tentative-next p i xs t low inside is =
    ap tentative_items (taken-next p i xs t low inside is) ∙ map-append Tentative (take (i - p) (drop p xs)) (t ∷ [])

-- items behind others
pub told-next : (before told more items : List Item) (i : Item) → items ≡ before ++ told → more ≡ told ++ i ∷ [] → items ++ i ∷ [] ≡ before ++ more
told-next before told more items i h k =
    ap (λ is. is ++ i ∷ []) h ∙ append_assoc before told (i ∷ []) ∙ ap (λ is. before ++ is) (sym k)
