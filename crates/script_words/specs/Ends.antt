-- Where a line begins and ends.
use Rattle.std.specs.Prelude.{◌≢◌, ℕ, List, [], ◌∷◌}

-- a line that begins with a word
abbrev pub BeginsWord : List ℕ → Type 0
BeginsWord [] = ⊥
BeginsWord (b ∷ bs) = b ≢ 32

-- a line that ends in a word
abbrev pub EndsInWord : List ℕ → Type 0
EndsInWord [] = ⊥
EndsInWord (b ∷ []) = b ≢ 32
EndsInWord (b ∷ c ∷ bs) = EndsInWord (c ∷ bs)
