-- The numbers and values that fit 64 bits.
use Rattle.std.specs.Prelude.{ℕ, ◌-◌, ◌^◌, ℤ, pos, negsuc, ◌&&◌, ◌==◌, nat_lt, nat_le, if◌then◌else◌, [], ◌∷◌, Option, None}
use Rattle.dpc_model.specs.Words.{Word}
use Rattle.script_rules.specs.Spelling.{is_numeral, number, is_value, value, is_i64}
use Rattle.script_words.specs.Options.{◌>>=◌, given}

-- the number of a numeral, where it is one of u64
abbrev pub u64_of : Word → Option ℕ
u64_of w = given (is_numeral w && nat_lt (number w) (2 ^ 64)) (number w)

-- the value of a word, where it is one of i64
abbrev pub i64_of : Word → Option ℤ
i64_of w = given (is_value w && is_i64 (value w)) (value w)

-- the value below 0 of this size, where it is one of i64
abbrev pub below_zero : ℕ → Option ℤ
below_zero n = given (nat_lt 0 n && nat_le n (2 ^ 63)) (negsuc (n - 1))

-- the value of this size, where it is one of i64
abbrev pub from_zero : ℕ → Option ℤ
from_zero n = given (nat_lt n (2 ^ 63)) (pos n)

-- the same value, by the number of its digits
abbrev pub i64_by_digits : Word → Option ℤ
i64_by_digits [] = None
i64_by_digits (b ∷ bs) = if b == 45 then (u64_of bs >>= below_zero) else (u64_of (b ∷ bs) >>= from_zero)
