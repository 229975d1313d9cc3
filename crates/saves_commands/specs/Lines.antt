-- The lines on what nodes have saved.
use Rattle.std.specs.Prelude.{ℕ, ◌+◌, List, [], ◌∷◌, ◌++◌, length, codes, decimal}
use Rattle.dpc_model.specs.ScriptText.{actor_name}
use Rattle.dpc_model.specs.Words.{Word, text_of}
use Rattle.dpc_model.specs.declared.plans.Plan.{Plan}
use Rattle.saved_runs.specs.declared.saved.Saved.{Saved}
use Rattle.saved_runs.specs.declared.saved.Saved.TheVariants.{Never, Full, Point}

abbrev pub counted_words : Word → ℕ → List Word
counted_words w n = w ∷ decimal n ∷ []

abbrev pub saved_words : Saved → List Word
saved_words Never = codes "none" ∷ []
saved_words Full = codes "full" ∷ []
saved_words (Point cursor base kept) = counted_words (codes "cursor") cursor ++ counted_words (codes "base") base ++ counted_words (codes "kept") kept

-- of the node that this actor is
abbrev pub saved_line : Plan → ℕ → Saved → List Word
saved_line plan a saved = codes "saved" ∷ actor_name plan a ∷ saved_words saved

abbrev pub lines_from : Plan → ℕ → List Saved → List (List Word)
lines_from plan a [] = []
lines_from plan a (s ∷ told) = saved_line plan a s ∷ lines_from plan (a + 1) told

-- of all nodes in order
unfoldable pub saves_text : Plan → List Saved → List ℕ
saves_text plan told = text_of (lines_from plan (length plan.sources) told)
