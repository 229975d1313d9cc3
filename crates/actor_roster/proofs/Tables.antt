-- A table that grows by one entry, and what one of its entries says.
use Rattle.std.proofs.Common.{◌≡◌, ℕ, ◌+◌, ◌*◌, ◌/◌, ◌%◌, ◌<◌, Bool, List, [], ◌∷◌, ◌++◌, map, length, get_or, sym, ap, subst, ◌∙◌, arith}
use Rattle.std.proofs.lemmas.Nat.{div-mul-add, mod-mul-add}
use Rattle.std.proofs.lemmas.List.FromFn.{get_or-map-range_with_len, length-map-range_with_len, map-range_with_len_more}
use Rattle.dpc_lists.specs.Lists.{range_with_len}
use Rattle.dpc_model.specs.Actors.{are_linked}
use Rattle.dpc_model.specs.declared.plans.Plan.{Plan}
use Rattle.actor_roster.specs.Rosters.{links_of}

-- one entry more
pub more : (f : ℕ → Bool) (n : ℕ) (entry : Bool) (now new : List Bool) → now ≡ map f (range_with_len 0 n) → entry ≡ f n → new ≡ now ++ entry ∷ [] → new ≡ map f (range_with_len 0 (n + 1))
more f n entry now new before is pushed =
    let next : 0 + n ≡ n = omega arith in
    pushed ∙ ap (λ (xs : List Bool). xs ++ entry ∷ []) before ∙ ap (λ (x : Bool). map f (range_with_len 0 n) ++ x ∷ []) is ∙ sym (map-range_with_len_more f 0 n n next)

-- the entry of the row of a, at b
pub link-at :
    (plan : Plan) (width a b : ℕ) (links : List Bool) (linked : Bool) → links ≡ links_of plan width → b < width → a * width + b < length links → linked ≡ get_or links (a * width + b) linked → linked ≡ are_linked plan a b
link-at plan width a b links linked same across low read =
    let f : ℕ → Bool = λ place. are_linked plan (place / width) (place % width) in
    let place : ℕ = a * width + b in
    let many : length links ≡ width * width = ap length same ∙ length-map-range_with_len f 0 (width * width) in
    let within : place < width * width = subst (λ (n : ℕ). place < n) many low in
    let none : 0 + place ≡ place = omega arith in
    read ∙ ap (λ (xs : List Bool). get_or xs place linked) same ∙ get_or-map-range_with_len f 0 (width * width) place place linked within none
    ∙ ap (λ (row : ℕ). are_linked plan row (place % width)) (div-mul-add a width b across) ∙ ap (λ (column : ℕ). are_linked plan a column) (mod-mul-add a width b across)
