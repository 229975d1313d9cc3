-- The readers of a stream are different actors.
use Rattle.std.proofs.Common.{ℕ, zero, suc, ◌+◌, ◌<◌, ◌≤◌, Bool, true, false, cond, List, [], ◌∷◌, map, length, refl, arith}
use Rattle.std.specs.List.{filter, enumerate_from}
use Rattle.dpc_lists.specs.Lists.{nth, list_any, IsRising}
use Rattle.dpc_model.specs.Actors.{roles_of, inputs_of, same_stream, readers_of}
use Rattle.dpc_model.specs.declared.actors.Role.{Role}
use Rattle.dpc_model.specs.declared.plans.Plan.{Plan}
use Rattle.dpc_model.specs.declared.plans.StreamRef.{StreamRef}
use Rattle.dpc_model.proofs.Roles.{numbers_where}
use Rattle.dpc_model.proofs.Numbers.{rising-lower}
use Rattle.law_safety.proofs.Histories.{AreDistinct}

numbers-rising : (test : Role → Bool) (k : ℕ) (roles : List Role) → IsRising k (numbers_where test k roles)
numbers-rising test k [] = tt
numbers-rising test k (role ∷ roles) =
    elim (test role) as (λ b. IsRising k (map (λ (x : ℕ × Role). x.0) (cond b ((k, role) ∷ filter (λ (x : ℕ × Role). test x.1) (enumerate_from (k + 1) roles)) (filter (λ (x : ℕ × Role). test x.1) (enumerate_from (k + 1) roles))))) [
      | true ↦ (omega arith, numbers-rising test (k + 1) roles)
      | false ↦ rising-lower k (k + 1) (numbers_where test (k + 1) roles) (omega arith) (numbers-rising test (k + 1) roles)
    ]

rising-at : (k i : ℕ) (xs : List ℕ) → i < length xs → IsRising k xs → k ≤ nth 0 xs i
rising-at k i [] low h = absurd (omega (arith, low))
rising-at k zero (x ∷ xs) low h = h.0
rising-at k (suc i) (x ∷ xs) low h = let rest = rising-at (x + 1) i xs (omega (arith, low)) h.1 in let first = h.0 in omega (arith, rest, first)

rising-distinct : (k : ℕ) (xs : List ℕ) → IsRising k xs → AreDistinct xs
rising-distinct k [] h i j low few e = absurd (omega (arith, low))
rising-distinct k (x ∷ xs) h zero zero low few e = refl
rising-distinct k (x ∷ xs) h zero (suc j) low few e = let far = rising-at (x + 1) j xs (omega (arith, few)) h.1 in absurd (omega (arith, far, e))
rising-distinct k (x ∷ xs) h (suc i) zero low few e = let far = rising-at (x + 1) i xs (omega (arith, low)) h.1 in absurd (omega (arith, far, e))
rising-distinct k (x ∷ xs) h (suc i) (suc j) low few e = let same = rising-distinct (x + 1) xs h.1 i j (omega (arith, low)) (omega (arith, few)) e in omega (arith, same)

pub readers-distinct : (plan : Plan) (s : StreamRef) → AreDistinct (readers_of plan s)
readers-distinct plan s = rising-distinct 0 (readers_of plan s) (numbers-rising (λ role. list_any (same_stream s) (inputs_of plan role)) 0 (roles_of plan))
