-- What code's symbols stand for.
use Rattle.std.specs.Prelude.{◌≡◌, ◌<◌, pos, Bool, true, false, List, None, unwrap_or}
use Rattle.dpc_model.specs.Words.{Word}
use Rattle.dpc_model.specs.Formula as formula
use Rattle.script_rules.specs.Spelling.{looks_like_value}
use Rattle.script_rules.specs.Keywords.{looked_up}
use Rattle.script_rules.specs.Symbols as spec
use Rattle.script_words.specs.Numbers.{i64_of}
use Rattle.script_words.specs.declared.symbols.Symbol.{Symbol}
use Rattle.script_words.specs.declared.symbols.Symbol.TheVariants.{Column, Number, Time, Neg, Not, Two, Three, Foreign}

-- the symbol; for a number without a value of i64 it is one of as many operands
abbrev pub meant : Symbol → spec.Symbol
meant (Column c) = spec.Whole (formula.Col c)
meant (Number z) = spec.Whole (formula.Num (unwrap_or z (pos 0)))
meant Time = spec.Whole formula.Time
meant Neg = spec.One formula.Neg
meant Not = spec.One formula.Not
meant (Two op) = spec.Two op
meant Three = spec.Three
meant Foreign = spec.Foreign

-- a number without a value of i64
abbrev pub lacks_value : Symbol → Bool
lacks_value (Number None) = true
lacks_value _ = false

-- s is what the word w is
abbrev pub StandsFor : Symbol → Word → Type 0
StandsFor (Number z) w = (looks_like_value w ≡ true) × (z ≡ i64_of w)
StandsFor (Column c) w = (looks_like_value w ≡ false) × (spec.symbol_of w ≡ spec.Whole (formula.Col c)) × (c < 8)
StandsFor Time w = (looks_like_value w ≡ false) × (spec.symbol_of w ≡ spec.Whole formula.Time)
StandsFor Neg w = (looks_like_value w ≡ false) × (spec.symbol_of w ≡ spec.One formula.Neg)
StandsFor Not w = (looks_like_value w ≡ false) × (spec.symbol_of w ≡ spec.One formula.Not)
StandsFor (Two op) w = (looks_like_value w ≡ false) × (spec.symbol_of w ≡ spec.Two op)
StandsFor Three w = (looks_like_value w ≡ false) × (spec.symbol_of w ≡ spec.Three)
StandsFor Foreign w = (looks_like_value w ≡ false) × (spec.symbol_of w ≡ spec.Foreign)

-- s is what the word w is by a table of symbols
abbrev pub IsNamed : List (Word × spec.Symbol) → Symbol → Word → Type 0
IsNamed table (Number z) w = ⊥
IsNamed table (Column c) w = ⊥
IsNamed table s w = unwrap_or (looked_up table w) spec.Foreign ≡ meant s
