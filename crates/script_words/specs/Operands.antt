-- Values and numbers that words say.
use Rattle.std.specs.Prelude.{ℕ, ◌^◌, Bool, ◌&&◌, nat_lt, List, Option, map}
use Rattle.dpc_lists.specs.Lists.{list_all}
use Rattle.dpc_model.specs.Words.{Word}
use Rattle.script_rules.specs.Spelling.{is_numeral, number, is_value, value, is_i64}
use Rattle.script_rules.specs.Statements.{pairs}
use Rattle.script_words.specs.Options.{given}

-- each word is a value of i64
abbrev pub are_i64 : List Word → Bool
are_i64 ws = list_all (λ w. is_value w && is_i64 (value w)) ws

-- each word is a number of u64
abbrev pub are_u64 : List Word → Bool
are_u64 ws = list_all (λ w. is_numeral w && nat_lt (number w) (2 ^ 64)) ws

-- the numbers in pairs, where each is one of u64
abbrev pub pairs_of : List Word → Option (List (ℕ × ℕ))
pairs_of ws = given (are_u64 ws) (pairs (map number ws))
