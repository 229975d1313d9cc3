-- Words that are expressions, one behind another.
use Rattle.std.specs.Prelude.{◌≡◌, ℕ, ◌+◌, ◌≤◌, Bool, true, false, not, ◌&&◌, ◌||◌, max, List, [], ◌∷◌, length}
use Rattle.dpc_model.specs.Words.{Word}
use Rattle.dpc_model.specs.Formula as formula
use Rattle.dpc_model.specs.Formula.{Formula}
use Rattle.script_rules.specs.Spelling.{is_value, value, is_i64, looks_like_value}
use Rattle.script_rules.specs.Symbols.{symbol_of, operands, is_foreign_symbol, formulas}

-- a number among the words of an expression is one of i64
abbrev pub is_in_range : Word → Bool
is_in_range w = not (looks_like_value w) || (is_value w && is_i64 (value w))

-- each word is one of an expression, with its operands behind it, and each number is one of i64
abbrev pub AreReadable : List Word → Type 0
AreReadable [] = Unit {0}
AreReadable (w ∷ ws) =
    (is_foreign_symbol (symbol_of w) ≡ false) × (operands (symbol_of w) ≤ length (formulas ws)) × (is_in_range w ≡ true) × AreReadable ws

-- the words of the longest expression
abbrev pub longest : List Formula → ℕ
longest [] = 0
longest (e ∷ es) = max (formula.words e) (longest es)

-- the columns up to the last one that an expression reads
abbrev pub columns_of : Formula → ℕ
columns_of (formula.Col c) = c + 1
columns_of (formula.Num z) = 0
columns_of formula.Time = 0
columns_of (formula.Neg e) = columns_of e
columns_of (formula.Not e) = columns_of e
columns_of (formula.Bin op d e) = max (columns_of d) (columns_of e)
columns_of (formula.If c d e) = max (columns_of c) (max (columns_of d) (columns_of e))

abbrev pub columns_in : List Formula → ℕ
columns_in [] = 0
columns_in (e ∷ es) = max (columns_of e) (columns_in es)
