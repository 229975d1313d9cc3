-- A mill is determined by its operators and its inputs.
use Rattle.std.specs.Prelude.{◌≡◌, ℕ, false, List}
use Rattle.dpc_model.specs.declared.tuples.Tagged.{Tagged}
use Rattle.fragment_mill.specs.Mills.{MillState, specs_of, MillAfter}
use Rattle.fragment_mill.specs.Milling.{IsMill}

-- two mills of one width with the same operators, neither of them spent, that took the same inputs are the same
abbrev pub InputsDetermineMills : Type 0
InputsDetermineMills =
    (m n : MillState) (xs : List Tagged) (k : ℕ) → IsMill m → IsMill n → m.width ≡ n.width → specs_of m.stages ≡ specs_of n.stages →
    m.spent ≡ false → n.spent ≡ false → MillAfter m xs k → MillAfter n xs k → m ≡ n
