-- The words of a line that was cut.
use Rattle.std.specs.Prelude.{List, [], ◌∷◌, Some, None}
use Rattle.dpc_model.specs.Words.{Word}
use Rattle.journal_text.specs.declared.lines.Pieces.{Pieces}

abbrev pub words_in : Pieces → List Word
words_in c = c.first.now ∷ c.second.now ∷ (elim c.third [ None ↦ [] | Some w ↦ w.now ∷ [] ])
