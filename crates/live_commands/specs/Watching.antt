-- What is written of what readers saw.
use Rattle.std.specs.Prelude.{ℕ, List, [], ◌∷◌, map, slice_get, Some, None, codes, decimal}
use Rattle.dpc_model.specs.Words.{Word, text_of}
use Rattle.dpc_model.specs.declared.plans.Plan.{Plan}
use Rattle.client_views.specs.declared.watched.Watched.{Watched}

-- the name of a client
abbrev pub name_of : Plan → ℕ → Word
name_of plan client = elim (slice_get plan.clients client) [ Some c ↦ c.name | None ↦ [] ]

-- the reader, the client, how many stable tuples of it the reader saw, and up to where they are all
abbrev pub watched_words : Plan → Watched → List Word
watched_words plan w =
    codes "watch" ∷ decimal w.reader ∷ name_of plan w.client ∷ codes "stable" ∷ decimal w.count ∷ codes "bound" ∷ decimal w.bound ∷ []

-- a line on each
abbrev pub watched_text : Plan → List Watched → List ℕ
watched_text plan watched = text_of (map (watched_words plan) watched)
