-- Shapes, as SVG writes them. All coordinates are whole numbers.
use Rattle.std.specs.Prelude.{ℕ, ◌==◌, if◌then◌else◌, List, [], ◌∷◌, ◌++◌, flat_map, length, codes, decimal}
use Rattle.dpc_model.specs.Words.{Word}

-- a byte of a text: three have a meaning of their own in SVG
abbrev pub escaped_byte : ℕ → List ℕ
escaped_byte b = if b == 38 then codes "&amp;" else (if b == 60 then codes "&lt;" else (if b == 62 then codes "&gt;" else b ∷ []))

abbrev pub escaped : Word → List ℕ
escaped w = flat_map escaped_byte w

-- a text whose left end stands at (x, y)
unfoldable pub text_at : ℕ → ℕ → Word → List ℕ
text_at x y w = codes "<text x='" ++ decimal x ++ codes "' y='" ++ decimal y ++ codes "'>" ++ escaped w ++ codes "</text>" ++ 10 ∷ []

-- letters at places of their own, where there are any: the x of each, with a space behind it
unfoldable pub some_letters : List ℕ → ℕ → List ℕ → List ℕ
some_letters places y letters = codes "<text x='" ++ places ++ codes "' y='" ++ decimal y ++ codes "'>" ++ letters ++ codes "</text>" ++ 10 ∷ []

unfoldable pub letters_at : List ℕ → ℕ → List ℕ → List ℕ
letters_at places y letters = if length letters == 0 then [] else some_letters places y letters

abbrev pub place_of : ℕ → List ℕ
place_of x = decimal x ++ 32 ∷ []

-- a path of these moves, where there are any, drawn as its class says
unfoldable pub some_path : Word → List ℕ → List ℕ
some_path class moves = codes "<path class='" ++ class ++ codes "' d='" ++ moves ++ codes "'/>" ++ 10 ∷ []

unfoldable pub path_of : Word → List ℕ → List ℕ
path_of class moves = if length moves == 0 then [] else some_path class moves

abbrev pub move_to : ℕ → ℕ → List ℕ
move_to x y = 77 ∷ decimal x ++ 32 ∷ decimal y

-- along to the right by so much
abbrev pub along : ℕ → List ℕ
along n = 104 ∷ decimal n

-- up or down to this height
abbrev pub down_to : ℕ → List ℕ
down_to y = 86 ∷ decimal y
