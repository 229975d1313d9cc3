-- A list that is written in place.
use Rattle.std.proofs.Common.{◌≡◌, ℕ, ◌<◌, List, length, ◌∙◌, arith, slice_index_or, slice_set}
use Rattle.std.proofs.lemmas.Grind.{common_steps}
use Rattle.std.proofs.lemmas.List.{length-set}
use Rattle.std.specs.List.{refill}
use Rattle.dpc_lists.specs.Lists.{changed}
use Rattle.dpc_lists.proofs.Elements.{set-changed}

pub refill-same : {X : Type 0} (xs ws : List X) → length ws ≡ length xs → refill (length xs) xs ws ≡ ws
refill-same xs ws e = grind (arith, common_steps)

-- one element is written behind a part of the same length
pub refill-changed : {X : Type 0} (xs ys : List X) (i : ℕ) (f : X → X) (old new : X) → ys ≡ xs → i < length xs → old ≡ slice_index_or ys i old → new ≡ f old →
    refill (length xs) xs (slice_set ys i new) ≡ changed i f xs
refill-changed xs ys i f old new same low e k =
    let old_is : old ≡ slice_index_or xs i old = rw same at e in
    let long : length (slice_set xs i new) ≡ length xs = length-set xs i new in
    rw same (refill-same xs (slice_set xs i new) long ∙ set-changed xs i f old new low old_is k)
