-- Numbers over all ports.
use Rattle.std.specs.Prelude.{ℕ, Bool, true, ◌/◌, min, List, [], ◌∷◌, map}
use Rattle.dpc_model.specs.Due.{reach, DueInputs}
use Rattle.dpc_model.specs.Parts.{bucket_at}
use Rattle.dpc_model.specs.Inlets.{new_inlet, restarted_inlet, sess_of}
use Rattle.dpc_model.specs.Reading.{stable_reader}
use Rattle.inlet.specs.Forgotten.{from_first}
use Rattle.dpc_model.specs.PartStands.{InletValue, with_stable}
use Rattle.dpc_model.specs.Streams.{InOrder}
use Rattle.dpc_model.specs.declared.tuples.Tuple.{Tuple}

-- the least number over the ports, and at most this one
abbrev pub least_over : (InletValue → ℕ) → ℕ → List InletValue → ℕ
least_over f most [] = most
least_over f most (port ∷ ports) = min (f port) (least_over f most ports)

-- how many buckets are complete at a port
abbrev pub complete_at : ℕ → InletValue → ℕ
complete_at width port = port.state.held.bound / width

-- how many buckets the port is known to go past
abbrev pub reached_at : ℕ → InletValue → ℕ
reached_at width port = reach port.state.held / width

-- the tuples of bucket k that each port holds
abbrev pub bucket_of : ℕ → ℕ → List InletValue → List (List Tuple)
bucket_of width k ports = map (λ (port : InletValue). bucket_at width k port.state.held) ports

-- what each port keeps is in order of time
abbrev pub KeptInOrder : List InletValue → Type 0
KeptInOrder [] = Unit {0}
KeptInOrder (port ∷ ports) = InOrder port.state.held.stable × KeptInOrder ports

-- the buckets from the frontier on, as these ports show them, where passed marks count
abbrev pub passing_inputs : ℕ → List InletValue → ℕ → Bool → DueInputs
passing_inputs width ports frontier any_closed =
    record { width = width; delay = 0; passing = true; ports = map (λ (i : InletValue). i.state.held) ports; stamps = []; frontier = frontier; any_closed = any_closed }

-- the inlet without its first tuples below a time
abbrev pub forgetting : ℕ → InletValue → InletValue
forgetting time i = record i { state = with_stable (from_first time i.state.held.stable) i.state }

-- an inlet behind a snapshot: it had so many tuples, all of them below a time, and keeps none
abbrev pub behind_snapshot : ℕ → ℕ → ℕ → InletValue
behind_snapshot inc time count = record { count = count; state = restarted_inlet (stable_reader [] time) (sess_of inc 0) }

-- for each of these inlets one that had so many tuples, all of them below a time, and keeps none
abbrev pub begun_anew : ℕ → List ℕ → List InletValue → List InletValue
begun_anew time [] ports = []
begun_anew time (n ∷ counts) [] = []
begun_anew time (n ∷ counts) (port ∷ ports) = record { count = n; state = restarted_inlet (stable_reader [] time) port.state.sess } ∷ begun_anew time counts ports

abbrev pub at_opening : ℕ → InletValue
at_opening inc = record { count = 0; state = new_inlet inc }
