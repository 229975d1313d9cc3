-- The two parts of an input: a script, and what stands behind it from the first line on that begins with a key word.
use Rattle.std.specs.Prelude.{ℕ, ◌+◌, Bool, if◌then◌else◌, List, [], ◌∷◌, length, take, drop, Option, Some, None, bytes_eq}
use Rattle.dpc_lists.specs.Lists.{list_any}
use Rattle.dpc_model.specs.Words.{Word}
use Rattle.script_rules.specs.Lines.{lines_of, words_of}
use Rattle.script_rules.specs.Statements.{word}

module _ (key : Word) where
  -- a line whose first word is the key
  abbrev pub begins : List ℕ → Bool
  begins line = bytes_eq (word (words_of line) 0) key

  -- how many bytes stand in front of the first such line, where each line has its LF
  abbrev pub bytes_before : List (List ℕ) → ℕ
  bytes_before [] = 0
  bytes_before (line ∷ lines) = if begins line then 0 else length line + 1 + bytes_before lines

  -- the text up to that line, or all of it
  unfoldable pub part_before : List ℕ → List ℕ
  part_before text = take (bytes_before (lines_of text)) text

  -- the text from that line on, where there is one
  unfoldable pub part_from : List ℕ → Option (List ℕ)
  part_from text = if list_any begins (lines_of text) then Some (drop (bytes_before (lines_of text)) text) else None
