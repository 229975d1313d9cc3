-- A text as lines, and a line as words.
use Rattle.std.specs.Prelude.{ℕ, Bool, false, not, ◌&&◌, ◌||◌, ◌==◌, nat_le, if◌then◌else◌, List, [], ◌∷◌, filter}
use Rattle.dpc_lists.specs.Lists.{is_nil}
use Rattle.dpc_model.specs.Words.{Word}

-- a byte in front of the first piece
abbrev pub in_front : ℕ → List (List ℕ) → List (List ℕ)
in_front b [] = (b ∷ []) ∷ []
in_front b (piece ∷ pieces) = (b ∷ piece) ∷ pieces

-- what stands before, between and behind the separators
abbrev pub pieces : ℕ → List ℕ → List (List ℕ)
pieces separator [] = [] ∷ []
pieces separator (b ∷ bs) = if b == separator then [] ∷ pieces separator bs else in_front b (pieces separator bs)

-- the lines of a text, without their LF; the last one may lack it
abbrev pub lines_of : List ℕ → List (List ℕ)
lines_of [] = []
lines_of (b ∷ bs) = if b == 10 then [] ∷ lines_of bs else in_front b (lines_of bs)

-- the words of a line, separated by one or more spaces
abbrev pub words_of : List ℕ → List Word
words_of line = filter (λ w. not (is_nil w)) (pieces 32 line)

-- a byte that may not stand in a line
abbrev pub is_foreign_byte : ℕ → Bool
is_foreign_byte b = not (nat_le 32 b && nat_le b 126)

abbrev pub begins_with_hash : List ℕ → Bool
begins_with_hash [] = false
begins_with_hash (b ∷ bs) = b == 35

-- a line that is counted, and otherwise skipped
abbrev pub is_skipped : List ℕ → Bool
is_skipped line = begins_with_hash line || is_nil (words_of line)
