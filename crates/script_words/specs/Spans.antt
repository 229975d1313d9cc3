-- Expressions, measured word by word.
use Rattle.std.specs.Prelude.{⊤, ℕ, ◌+◌, ◌-◌, ◌<◌, ◌==◌, max, if◌then◌else◌}
use Rattle.script_words.specs.declared.symbols.Symbol.{Symbol}
use Rattle.script_words.specs.declared.symbols.Symbol.TheVariants.{Column}
use Rattle.script_words.specs.declared.expressions.Span.{Span}

-- what was seen, with a further word that is an operator on so many expressions
abbrev pub with_word : Span → ℕ → Span
with_word s operands =
    if s.wanted == 0 then record { longest = max s.longest s.count; count = 1; wanted = operands }
    else record { longest = s.longest; count = s.count + 1; wanted = s.wanted - 1 + operands }

-- the columns up to the one that a word is
abbrev pub own_columns : Symbol → ℕ
own_columns (Column c) = c + 1
own_columns _ = 0

abbrev pub IsColumnThere : Symbol → Type 0
IsColumnThere (Column c) = c < 8
IsColumnThere _ = ⊤
