-- Wires that read each port by its number.
use Rattle.std.specs.Prelude.{◌≡◌, ℕ, ◌<◌, List, map, length, All}
use Rattle.dpc_lists.specs.Lists.{range_with_len}
use Rattle.dpc_model.specs.declared.tuples.Tagged.{Tagged}
use Rattle.dpc_model.specs.declared.operators.Wire.{Wire}
use Rattle.dpc_model.specs.declared.operators.Wire.TheVariants.{Port}

-- wire number p reads port p
abbrev pub AreStraight : List Wire → Type 0
AreStraight wires = wires ≡ map Port (range_with_len 0 (length wires))

-- each came by one of the first n ports
abbrev pub AreAmong : ℕ → List Tagged → Type 0
AreAmong n xs = All (λ (x : Tagged). x.port < n) xs
