-- Texts of lines, and lines of words.
use Rattle.std.specs.Prelude.{ℕ, List, [], ◌∷◌, ◌++◌, flat_map}

-- the bytes of a word or of a number
abbrev pub Word : Type 0
Word = List ℕ

-- the words of a line with single spaces between
abbrev pub spaced : List Word → List ℕ
spaced [] = []
spaced (w ∷ []) = w
spaced (w ∷ v ∷ words) = w ++ 32 ∷ spaced (v ∷ words)

-- the words of a line with single spaces between, and LF
abbrev pub line_of : List Word → List ℕ
line_of words = spaced words ++ 10 ∷ []

-- lines one after another
abbrev pub text_of : List (List Word) → List ℕ
text_of lines = flat_map line_of lines
