-- What contracts see of a teller.
use Rattle.std.specs.Prelude.{ℕ, Bool, false, List, [], ◌++◌, length}
use Rattle.dpc_model.specs.declared.tuples.Tuple.{Tuple}
use Rattle.dpc_model.specs.declared.tuples.Item.{Item}
use Rattle.live_view.specs.Telling.{new_tuples, new_bound}
use Rattle.live_view.specs.declared.shown.Shown.{Shown}

-- the client, the stable tuples and the greatest bound that were told, and whether memory was wanted
pub record TellerState : Type 0 where
  pub client : ℕ
  pub tuples : List Tuple
  pub bound : ℕ
  pub spent : Bool

abbrev pub teller_of : Shown → Bool → TellerState
teller_of x spent = record { client = x.client; tuples = x.tuples; bound = x.bound; spent = spent }

abbrev pub new_teller : ℕ → TellerState
new_teller c = record { client = c; tuples = []; bound = 0; spent = false }

-- after items: what was told already is not told again, and what goes on nowhere is left out
abbrev pub told : List Item → TellerState → TellerState
told items t = record t { tuples = t.tuples ++ new_tuples (length t.tuples) items; bound = new_bound (length t.tuples) t.bound items }
