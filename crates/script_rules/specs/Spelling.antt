-- How numbers, values, names and columns are spelled.
use Rattle.std.specs.Prelude.{ℕ, ◌+◌, ◌-◌, ◌*◌, ◌^◌, ℤ, pos, negsuc, int_le, Bool, false, not, ◌&&◌, ◌||◌, ◌==◌, nat_lt, nat_le, if◌then◌else◌, List, [], ◌∷◌, length, Option, Some, None, codes, bytes_eq}
use Rattle.dpc_lists.specs.Lists.{is_nil, list_all}
use Rattle.dpc_model.specs.Words.{Word}
use Rattle.script_rules.specs.Lines.{pieces}

-- ---- numbers

abbrev pub is_digit : ℕ → Bool
is_digit b = nat_le 48 b && nat_le b 57

-- digits without a leading zero, but for the number 0
abbrev pub is_numeral : Word → Bool
is_numeral [] = false
is_numeral (b ∷ bs) = list_all is_digit (b ∷ bs) && (not (b == 48) || is_nil bs)

-- the number that digits give behind those that gave n
abbrev pub value_after : ℕ → List ℕ → ℕ
value_after n [] = n
value_after n (b ∷ bs) = value_after (n * 10 + (b - 48)) bs

-- the number that a numeral stands for, of any size
abbrev pub number : Word → ℕ
number w = value_after 0 w

-- ---- values, which may have a minus sign; `-0` is none

abbrev pub is_value : Word → Bool
is_value [] = false
is_value (b ∷ bs) = if b == 45 then is_numeral bs && not (bytes_eq bs (codes "0")) else is_numeral (b ∷ bs)

abbrev pub value : Word → ℤ
value [] = pos 0
value (b ∷ bs) = if b == 45 then negsuc (number bs - 1) else pos (number (b ∷ bs))

abbrev pub is_i64 : ℤ → Bool
is_i64 z = int_le (negsuc (2 ^ 63 - 1)) z && int_le z (pos (2 ^ 63 - 1))

-- a word that looks like a value: it begins with a digit or `-`
abbrev pub looks_like_value : Word → Bool
looks_like_value [] = false
looks_like_value (b ∷ bs) = is_digit b || b == 45

-- ---- names

abbrev pub is_letter : ℕ → Bool
is_letter b = nat_le 97 b && nat_le b 122

abbrev pub may_stand_in_name : ℕ → Bool
may_stand_in_name b = is_letter b || is_digit b || b == 95

-- 1 to 16 lower-case letters, digits or underscores, the first one a letter
abbrev pub is_name : Word → Bool
is_name [] = false
is_name (b ∷ bs) = is_letter b && list_all may_stand_in_name bs && nat_lt (length bs) 16

abbrev pub are_name_and_numeral : List Word → Bool
are_name_and_numeral (f ∷ r ∷ []) = is_name f && is_numeral r
are_name_and_numeral _ = false

-- a fragment's name, a dot and a replica's number
abbrev pub is_node_name : Word → Bool
is_node_name w = are_name_and_numeral (pieces 46 w)

-- ---- columns

-- `c0` to `c7`
abbrev pub column_of : Word → Option ℕ
column_of (c ∷ d ∷ []) = if c == 99 && nat_le 48 d && nat_le d 55 then Some (d - 48) else None
column_of _ = None
