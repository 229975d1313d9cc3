-- What contracts see of the lines and the words that were not read yet.
use Rattle.std.specs.Prelude.{ℕ, List}
use Rattle.dpc_model.specs.Words.{Word}
use Rattle.script_rules.specs.Lines.{lines_of, words_of}
use Rattle.script_words.specs.declared.lines.Lines.{Lines}
use Rattle.script_words.specs.declared.words.Words.{Words}

-- the lines that were not read yet
abbrev pub lines_left : Lines → List (List ℕ)
lines_left l = lines_of l.rest.now

-- the words that were not read yet
abbrev pub words_left : Words → List Word
words_left w = words_of w.rest.now
