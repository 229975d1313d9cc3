-- The two parts of an input: a script, and the journal behind it.
use Rattle.std.specs.Prelude.{ℕ, Bool, List, Option, codes}
use Rattle.input_parts.specs.Parts.{begins, part_before, part_from}

-- a line whose first word is `journal`
abbrev pub begins_journal : List ℕ → Bool
begins_journal line = begins (codes "journal") line

-- the script is the text up to the first such line, or all of it
abbrev pub script_part : List ℕ → List ℕ
script_part text = part_before (codes "journal") text

-- the journal is the text from that line on, where there is one
abbrev pub journal_part : List ℕ → Option (List ℕ)
journal_part text = part_from (codes "journal") text
