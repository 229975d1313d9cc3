-- The lanes.
use Rattle.std.specs.Prelude.{ℕ, ◌+◌, ◌-◌, Bool, not, ◌||◌, ◌==◌, nat_lt, max, if◌then◌else◌, List, [], ◌∷◌, ◌++◌, flat_map, fold, length, codes, decimal}
use Rattle.dpc_lists.specs.Lists.{nth, range_with_len}
use Rattle.dpc_model.specs.Words.{Word}
use Rattle.picture_model.specs.declared.columns.Column.{Column}
use Rattle.picture_svg.specs.declared.values.What.TheVariants as what
use Rattle.picture_svg.specs.Shapes.{text_at, letters_at, place_of, path_of, move_to, along, down_to}
use Rattle.picture_svg.specs.Layout.{left_at, height_in}
use Rattle.picture_svg.specs.Values.{values_of}

-- ---- lines, bars and letters along phases of one width

-- up to a number's height over the base, and along its phase
abbrev pub rise : ℕ → ℕ → ℕ → ℕ → ℕ → List ℕ
rise step room base whole value = down_to (base - height_in room value whole) ++ along step

abbrev pub line_over : ℕ → ℕ → ℕ → ℕ → List ℕ → List ℕ
line_over step room base whole values = move_to 170 base ++ flat_map (rise step room base whole) values

-- a bar over a phase that has this letter
abbrev pub bar_at : ℕ → ℕ → ℕ → List ℕ → ℕ → List ℕ
bar_at step y letter letters j = if nth 0 letters j == letter then move_to (left_at step j) y ++ along step else []

abbrev pub bars_of : ℕ → ℕ → ℕ → List ℕ → List ℕ
bars_of step y letter letters = flat_map (bar_at step y letter letters) (range_with_len 0 (length letters))

-- a phase has another letter than the one before it
abbrev pub is_new : List ℕ → ℕ → Bool
is_new letters j = j == 0 || not (nth 0 letters (j - 1) == nth 0 letters j)

abbrev pub new_place : ℕ → List ℕ → ℕ → List ℕ
new_place step letters j = if is_new letters j then place_of (left_at step j + 1) else []

abbrev pub new_letter : List ℕ → ℕ → List ℕ
new_letter letters j = if is_new letters j then nth 0 letters j ∷ [] else []

abbrev pub new_letters : ℕ → ℕ → List ℕ → List ℕ
new_letters step y letters =
    let places = range_with_len 0 (length letters) in letters_at (flat_map (new_place step letters) places) y (flat_map (new_letter letters) places)

-- a number rose in a phase
abbrev pub rose : List ℕ → ℕ → Bool
rose values j = nat_lt (if j == 0 then 0 else nth 0 values (j - 1)) (nth 0 values j)

abbrev pub rose_place : ℕ → ℕ → List ℕ → ℕ → List ℕ
rose_place step shift values j = if rose values j then place_of (left_at step j + shift) else []

abbrev pub rose_letter : ℕ → List ℕ → ℕ → List ℕ
rose_letter letter values j = if rose values j then letter ∷ [] else []

abbrev pub rose_letters : ℕ → ℕ → ℕ → ℕ → List ℕ → List ℕ
rose_letters step shift y letter values =
    let places = range_with_len 0 (length values) in
    letters_at (flat_map (rose_place step shift values) places) y (flat_map (rose_letter letter values) places)

-- ---- a source: an area as high as its boundary is in the whole time, and a line as high as what it sent

unfoldable pub source_lane : ℕ → ℕ → List Column → Word → ℕ → ℕ → List ℕ
source_lane step end columns name y s =
    text_at 10 (y + 16) name ++ path_of (codes "b") (line_over step 16 (y + 20) end (values_of (what.Bound s) columns) ++ down_to (y + 20))
    ++ path_of (codes "e") (line_over step 16 (y + 20) end (values_of (what.Sent s) columns))

-- ---- links: a bar where none is cut, else a gap with their number

unfoldable pub link_lane : ℕ → List Column → ℕ → List ℕ
link_lane step columns y =
    text_at 10 (y + 16) (codes "cut links") ++ path_of (codes "k") (bars_of step (y + 12) 46 (values_of what.Links columns))
    ++ new_letters step (y + 16) (values_of what.Links columns)

-- ---- a replica: bars by its state, each with a letter

abbrev pub state_bars : ℕ → ℕ → List ℕ → ℕ → List ℕ
state_bars step y letters letter = path_of (letter ∷ []) (bars_of step (y + 12) letter letters)

unfoldable pub states_shown : ℕ → ℕ → List ℕ → List ℕ
states_shown step y letters = flat_map (state_bars step y letters) (codes "SUCRx") ++ new_letters step (y + 16) letters

unfoldable pub replica_lane : ℕ → List Column → Word → ℕ → ℕ → List ℕ
replica_lane step columns name y r = text_at 10 (y + 16) name ++ states_shown step y (values_of (what.State r) columns)

-- ---- a client: a line of its stable tuples and how many they are at the end, one above it with the tentative ones, undo and rec_done, and the
-- replica that it reads

abbrev pub most_in : List ℕ → ℕ
most_in values = fold max 1 values

unfoldable pub held_lines : ℕ → ℕ → List ℕ → List ℕ → List ℕ
held_lines step y held stable =
    path_of (codes "t") (line_over step 22 (y + 34) (most_in held) held) ++ path_of (codes "f") (line_over step 22 (y + 34) (most_in held) stable)

-- the last number, behind its line
unfoldable pub total_text : ℕ → ℕ → List ℕ → List ℕ
total_text step y values = text_at (left_at step (length values) + 4) (y + 17) (decimal (nth 0 values (length values - 1)))

unfoldable pub taken_letters : ℕ → List Column → ℕ → ℕ → List ℕ
taken_letters step columns y c =
    rose_letters step 1 (y + 10) 117 (values_of (what.Undos c) columns) ++ rose_letters step 9 (y + 10) 100 (values_of (what.Dones c) columns)
    ++ new_letters step (y + 47) (values_of (what.Reads c) columns)

unfoldable pub client_lane : ℕ → List Column → Word → ℕ → ℕ → List ℕ
client_lane step columns name y c =
    text_at 10 (y + 30) name ++ text_at 10 (y + 47) (codes "reads") ++ held_lines step y (values_of (what.Held c) columns) (values_of (what.Stable c) columns)
    ++ total_text step y (values_of (what.Stable c) columns)
    ++ taken_letters step columns y c
