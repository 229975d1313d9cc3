-- The canonical form of a text.
use Rattle.std.specs.Prelude.{◌≡◌, ℕ, Bool, true, false, ◌&&◌, if◌then◌else◌, List, [], ◌∷◌, map, codes, bytes_eq}
use Rattle.dpc_lists.specs.Lists.{list_any}
use Rattle.dpc_model.specs.Words.{Word, text_of}
use Rattle.script_rules.specs.Lines.{lines_of, words_of, is_skipped}
use Rattle.script_rules.specs.Statements.{word}

-- each log line is of the source that was declared last, here a source of that name
abbrev pub logs_follow : Word → List (List Word) → Bool
logs_follow last [] = true
logs_follow last (line ∷ lines) =
    if bytes_eq (word line 0) (codes "source") then logs_follow (word line 1) lines
    else (if bytes_eq (word line 0) (codes "log") then bytes_eq (word line 1) last && logs_follow last lines else logs_follow last lines)

-- no skipped line, single spaces, each source followed by its logs, and LF behind each line
pub record IsCanonical (text : List ℕ) : Type 0 where
  pub spaced : text ≡ text_of (map words_of (lines_of text))
  pub nothing_skipped : list_any is_skipped (lines_of text) ≡ false
  pub logs : logs_follow [] (map words_of (lines_of text)) ≡ true
