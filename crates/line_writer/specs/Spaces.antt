-- Words behind the first one of a line.
use Rattle.std.specs.Prelude.{ℕ, List, ◌∷◌, flat_map}
use Rattle.dpc_model.specs.Words.{Word}

-- each word behind a space
abbrev pub behind_spaces : List Word → List ℕ
behind_spaces words = flat_map (λ (w : Word). 32 ∷ w) words
