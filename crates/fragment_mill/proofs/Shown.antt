-- For who writes what a mill keeps, operator by operator: one part more.
use Rattle.std.proofs.Common.{◌≡◌, ℕ, zero, suc, ◌+◌, List, [], ◌∷◌, ◌++◌, take, Some, ap, arith, slice_get}
use Rattle.fragment_mill.specs.declared.states.OperatorParts.{OperatorParts}

next-part : (ps : List OperatorParts) (i : ℕ) (p : OperatorParts) → slice_get ps i ≡ Some p → take (suc i) ps ≡ take i ps ++ p ∷ []
next-part [] i p e = absurd (cc)
next-part (q ∷ ps) zero p e = let same : q ≡ p = cc in ap (λ (r : OperatorParts). r ∷ []) same
next-part (q ∷ ps) (suc i) p e = ap (λ (rs : List OperatorParts). q ∷ rs) (next-part ps i p e)

-- the first parts with the one that `kept` shows
pub part-more : (ps : List OperatorParts) (i : ℕ) (p : OperatorParts) → slice_get ps i ≡ Some p → take (i + 1) ps ≡ take i ps ++ p ∷ []
part-more ps i p e = let number : i + 1 ≡ suc i = omega arith in rw number (next-part ps i p e)
