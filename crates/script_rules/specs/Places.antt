-- The places of a line, and what stands there.
use Rattle.std.specs.Prelude.{ℕ, ◌+◌, ◌^◌, ◌%◌, Bool, true, false, not, ◌&&◌, ◌||◌, ◌==◌, nat_le, min, if◌then◌else◌, List, [], ◌∷◌, ◌++◌, map, length, replicate, is_some, codes, bytes_eq}
use Rattle.dpc_lists.specs.Lists.{nth, list_any}
use Rattle.dpc_model.specs.Words.{Word}
use Rattle.script_rules.specs.Spelling.{is_numeral, number, is_value, value, is_i64, looks_like_value, is_name, is_node_name, column_of}
use Rattle.script_rules.specs.Symbols.{symbol_of, is_foreign_symbol, operands, aggregates}
use Rattle.script_rules.specs.Keywords.{looked_up}
use Rattle.script_rules.specs.declared.keywords.Keyword.{Keyword}
use Rattle.script_rules.specs.declared.keywords.Keyword.TheVariants as key
use Rattle.script_rules.specs.declared.places.Place.{Place}
use Rattle.script_rules.specs.declared.places.Sort.{Sort}
use Rattle.script_rules.specs.declared.places.Sort.TheVariants.{Name, Actor, Natural, Range, Multiple, Value, Expression, Count, Group, Aggregate, Column, LeftKey, Anything}
use Rattle.script_rules.specs.Drafts.{Draft, is_wide, greatest_end, width_of, end_of}

abbrev pub must : Sort → Place
must sort = record { sort = sort; needed = true }

abbrev pub may : Sort → Place
may sort = record { sort = sort; needed = false }

-- the places that a word opens right behind its own: an operator's operands, as many expressions as COUNT says,
-- the column of an aggregate, and the right key behind a left one. Behind a COUNT that is no number no word is looked at
abbrev pub opened : Sort → Word → List Word → List Place
opened Expression w behind = replicate (operands (symbol_of w)) (must Expression)
opened Count w behind =
    if is_numeral w then replicate (min (number w) (length behind + 1)) (must Expression) else map (λ _. may Anything) behind
opened Aggregate w behind = if bytes_eq w (codes "count") then [] else must Column ∷ []
opened LeftKey w behind = must Natural ∷ []
opened _ w behind = []

-- the words that have a place, each with what may stand there
abbrev pub placed : List Place → List Word → List (Sort × Word)
placed places [] = []
placed [] (w ∷ ws) = []
placed (p ∷ places) (w ∷ ws) = (p.sort, w) ∷ placed (opened p.sort w ws ++ places) ws

-- a place where a word must stand is left over, or a word is
abbrev pub leaves_over : List Place → List Word → Bool
leaves_over places [] = list_any (λ (p : Place). p.needed) places
leaves_over [] (w ∷ ws) = true
leaves_over (p ∷ places) (w ∷ ws) = leaves_over (opened p.sort w ws ++ places) ws

-- ---- the rules of places

-- a word of another sort than those of its place
abbrev pub is_foreign : Sort → Word → Bool
is_foreign Name w = not (is_name w)
is_foreign Actor w = not (is_name w || is_node_name w)
is_foreign Expression w = is_foreign_symbol (symbol_of w)
is_foreign Group w = not (bytes_eq w (codes "-") || is_some (column_of w))
is_foreign Aggregate w = not (is_some (looked_up aggregates w))
is_foreign Column w = not (is_some (column_of w))
is_foreign _ w = false

-- no number at a number's place
abbrev pub is_no_number : Sort → Word → Bool
is_no_number Natural w = not (is_numeral w)
is_no_number (Range low high) w = not (is_numeral w)
is_no_number (Multiple low high of) w = not (is_numeral w)
is_no_number Count w = not (is_numeral w)
is_no_number LeftKey w = not (is_numeral w)
is_no_number Value w = not (is_value w)
is_no_number Expression w = looks_like_value w && not (is_value w)
is_no_number _ w = false

abbrev pub is_between : ℕ → ℕ → ℕ → Bool
is_between low high n = nat_le low n && nat_le n high

-- a number out of the range of its place
abbrev pub is_out_of_range : Sort → Word → Bool
is_out_of_range (Range low high) w = not (is_between low high (number w))
is_out_of_range (Multiple low high of) w = not (is_between low high (number w) && number w % of == 0)
is_out_of_range Count w = not (is_between 1 8 (number w))
is_out_of_range Value w = not (is_i64 (value w))
is_out_of_range Expression w = looks_like_value w && not (is_i64 (value w))
is_out_of_range _ w = false

-- ---- the places of each line

-- version, width, delay, end, and in version 3 passing
abbrev pub header_sorts : Draft → List Sort
header_sorts d =
    Range 1 3 ∷ Range 1 (if is_wide d then 2 ^ 50 else 1000000) ∷ Range 0 (10 ^ 12) ∷ Multiple (width_of d) (greatest_end d) (width_of d) ∷ Range 0 1
    ∷ []

-- those of an operator with so many inputs
abbrev pub operator_places : ℕ → List Place
operator_places inputs = replicate (inputs + 1) (must Name)

abbrev pub size_place : Draft → Place
size_place d = must (Range 1 (greatest_end d))

abbrev pub places_of : Draft → Keyword → List Place
places_of d (key.Header place) = must (nth Anything (header_sorts d) place) ∷ []
places_of d key.Source = must Name ∷ must (Range 1 8) ∷ []
places_of d key.Log = must Name ∷ must Natural ∷ must Value ∷ replicate 7 (may Value)
places_of d key.Fragment = must Name ∷ must (Range 1 4) ∷ must Name ∷ replicate 7 (may Name)
places_of d key.Patience = must (Range 0 (10 ^ 12)) ∷ []
places_of d key.Filter = operator_places 1 ++ must Expression ∷ []
places_of d key.Map = operator_places 1 ++ must Count ∷ []
places_of d key.Union = operator_places 2 ++ replicate 6 (may Name)
places_of d key.Join = operator_places 2 ++ must (Range 0 (greatest_end d)) ∷ replicate 8 (may LeftKey)
places_of d key.Aggregate =
    operator_places 1 ++ size_place d ∷ size_place d ∷ must Group ∷ must Aggregate ∷ replicate 7 (may Aggregate)
places_of d key.Client = must Name ∷ must Name ∷ []
places_of d key.Begin = []
places_of d key.Emit = must Name ∷ must (Range 1 (end_of d)) ∷ []
places_of d key.Release = must Name ∷ must (Range 1 (end_of d)) ∷ []
places_of d key.Cut = must Actor ∷ must Actor ∷ []
places_of d key.Heal = must Actor ∷ must Actor ∷ []
places_of d key.Lose = must Actor ∷ must Actor ∷ []
places_of d key.Repeat = must Actor ∷ must Actor ∷ []
places_of d key.Crash = must Actor ∷ []
places_of d key.Restart = must Actor ∷ []
places_of d key.Tick = must (Range 0 (10 ^ 12)) ∷ []
places_of d key.Settle = []
