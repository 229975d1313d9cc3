-- The values of a tuple, as they lie in it.
use Rattle.std.specs.Prelude.{ℤ, ◌≤◌, List, take}
use Rattle.std.specs.Bool.{⊤}
use Rattle.dpc_lists.specs.declared.vals.Held.{Held}
use Rattle.dpc_lists.specs.declared.vals.Held.TheVariants.{Few, Many}

abbrev pub values_held : Held → List ℤ
values_held (Few count values) = take count values
values_held (Many values) = values.items

-- no more of them than have room
abbrev pub IsHeld : Held → Type 0
IsHeld (Few count values) = count ≤ 5
IsHeld (Many values) = ⊤
