-- How the inputs go on to stand for the plain ones, where a call's clause gives the new value.
use Rattle.std.specs.Prelude.{◌≡◌, ℕ, ◌+◌, ◌*◌, ◌<◌, List, [], ◌∷◌, length, replicate, map, All, Option}
use Rattle.dpc_lists.specs.Lists.{nth, changed}
use Rattle.dpc_model.specs.Inlets.{InletState, new_inlet, restarted_inlet, sess_of, with_next_session, after_tally, shows_loss, no_inlet}
use Rattle.dpc_model.specs.Parts.{Inputs}
use Rattle.dpc_model.specs.Reading.{stable_reader}
use Rattle.dpc_model.specs.declared.tuples.Tuple.{Tuple}
use Rattle.dpc_model.specs.declared.messages.Sess.{Sess}
use Rattle.sunion.specs.Values.{SUnionValue}
use Rattle.sunion.specs.Unions.{StandsForInputs, no_value, new_union, union_at, restarted_union, with_closed, with_inlet_state, after_closing, without_closed}

-- the plain inputs with one inlet changed
abbrev pub with_inlet : ℕ → (InletState → InletState) → Inputs → Inputs
with_inlet port f x = record x { inlets = changed port f x.inlets }

-- the plain inputs at the opening, and behind a snapshot with these tuples of each port
abbrev pub new_inputs : ℕ → ℕ → Inputs
new_inputs ports inc = record { inlets = replicate ports (new_inlet inc); stamps = []; cursor = 0; closed = [] }

abbrev pub inputs_at : ℕ → ℕ → ℕ → List (List Tuple) → Inputs
inputs_at width inc cursor streams =
    record { inlets = map (λ (ts : List Tuple). restarted_inlet (stable_reader ts (cursor * width)) (sess_of inc 0)) streams; stamps = []; cursor = cursor; closed = [] }

-- a new value stands for the plain inputs at the opening, and one behind a snapshot for those with any tuples of those counts below the cursor's bucket
abbrev pub StartStands : Type 0
StartStands =
    ((ports width end delay inc : ℕ) → StandsForInputs (new_union ports width end delay inc) (new_inputs ports inc))
    × ((width end delay inc cursor : ℕ) (streams : List (List Tuple)) → All (λ (ts : List Tuple). All (λ (t : Tuple). t.stime < cursor * width) ts) streams →
    StandsForInputs (union_at width end delay inc cursor (map (λ (ts : List Tuple). length ts) streams)) (inputs_at width inc cursor streams))

-- the plain inlets begun anew with these tuples of each port, and the plain inputs with them
abbrev pub inlets_anew : ℕ → List (List Tuple) → List InletState → List InletState
inlets_anew time [] inlets = []
inlets_anew time (ts ∷ streams) [] = []
inlets_anew time (ts ∷ streams) (i ∷ inlets) = restarted_inlet (stable_reader ts time) i.sess ∷ inlets_anew time streams inlets

abbrev pub inputs_anew : ℕ → ℕ → List (List Tuple) → Inputs → Inputs
inputs_anew width cursor streams x = record { inlets = inlets_anew (cursor * width) streams x.inlets; stamps = []; cursor = cursor; closed = [] }

-- inputs begun anew behind a snapshot stand for those with any tuples of those counts below the cursor's bucket, and the last session of each port
abbrev pub RestartingStands : Type 0
RestartingStands =
    (v : SUnionValue) (x : Inputs) (cursor : ℕ) (streams : List (List Tuple)) → StandsForInputs v x → All (λ (ts : List Tuple). All (λ (t : Tuple). t.stime < cursor * v.width) ts) streams →
    StandsForInputs (restarted_union cursor (map (λ (ts : List Tuple). length ts) streams) v) (inputs_anew v.width cursor streams x)

-- it stands for the inputs whose next bucket is closed
abbrev pub ClosingStands : Type 0
ClosingStands = (v : SUnionValue) (x : Inputs) → StandsForInputs v x → StandsForInputs (with_closed (v.union.closed + 1) v) (after_closing v.width x)

-- it stands for the inputs without closed buckets
abbrev pub UndoingStands : Type 0
UndoingStands = (v : SUnionValue) (x : Inputs) → StandsForInputs v x → StandsForInputs (with_closed 0 v) (without_closed x)

-- it stands for the inputs whose port asks for the next session, heard of its session, or numbers it anew
abbrev pub SessionsStand : Type 0
SessionsStand =
    (v : SUnionValue) (x : Inputs) (port : ℕ) → StandsForInputs v x →
    StandsForInputs (with_inlet_state port with_next_session v) (with_inlet port with_next_session x)
    × ((tally : Option (Sess × ℕ)) → StandsForInputs (with_inlet_state port (λ (i : InletState). after_tally i tally) v) (with_inlet port (λ (i : InletState). after_tally i tally) x))
    × ((number : ℕ) →
    StandsForInputs (with_inlet_state port (λ (i : InletState). record i { sess = sess_of i.sess.inc number }) v) (with_inlet port (λ (i : InletState). record i { sess = sess_of i.sess.inc number }) x))

-- and what is told of a port's session shows a loss exactly where it does at the plain inlet
abbrev pub HearingTells : Type 0
HearingTells =
    (v : SUnionValue) (x : Inputs) (port : ℕ) (tally : Option (Sess × ℕ)) → port < length v.union.inlets → StandsForInputs v x →
    shows_loss (nth no_value v.union.inlets port).state tally ≡ shows_loss (nth no_inlet x.inlets port) tally
