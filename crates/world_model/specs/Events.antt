-- Tests of events, by their kind and by what they name.
use Rattle.std.specs.Prelude.{ℕ, Bool, true, false, ◌==◌}
use Rattle.dpc_model.specs.declared.messages.Event.{Event}
use Rattle.dpc_model.specs.declared.messages.Event.TheVariants.{Phase, Emit, Release, Cut, Heal, Crash, Restart, Deliver, Tick, Mill}

-- a phase begins
abbrev pub is_phase : Event → Bool
is_phase (Phase p) = true
is_phase (Emit s t) = false
is_phase (Release s t) = false
is_phase (Cut a b) = false
is_phase (Heal a b) = false
is_phase (Crash a) = false
is_phase (Restart a i) = false
is_phase (Deliver k) = false
is_phase (Tick a now) = false
is_phase (Mill a r) = false

-- a source releases its log up to a time
abbrev pub is_release : Event → Bool
is_release (Phase p) = false
is_release (Emit s t) = false
is_release (Release s t) = true
is_release (Cut a b) = false
is_release (Heal a b) = false
is_release (Crash a) = false
is_release (Restart a i) = false
is_release (Deliver k) = false
is_release (Tick a now) = false
is_release (Mill a r) = false

-- a node is crashed
abbrev pub is_crash : Event → Bool
is_crash (Phase p) = false
is_crash (Emit s t) = false
is_crash (Release s t) = false
is_crash (Cut a b) = false
is_crash (Heal a b) = false
is_crash (Crash a) = true
is_crash (Restart a i) = false
is_crash (Deliver k) = false
is_crash (Tick a now) = false
is_crash (Mill a r) = false

-- a node is restarted
abbrev pub is_restart : Event → Bool
is_restart (Phase p) = false
is_restart (Emit s t) = false
is_restart (Release s t) = false
is_restart (Cut a b) = false
is_restart (Heal a b) = false
is_restart (Crash a) = false
is_restart (Restart a i) = true
is_restart (Deliver k) = false
is_restart (Tick a now) = false
is_restart (Mill a r) = false

-- an actor ticks
abbrev pub is_ticking : Event → Bool
is_ticking (Phase p) = false
is_ticking (Emit s t) = false
is_ticking (Release s t) = false
is_ticking (Cut a b) = false
is_ticking (Heal a b) = false
is_ticking (Crash a) = false
is_ticking (Restart a i) = false
is_ticking (Deliver k) = false
is_ticking (Tick a now) = true
is_ticking (Mill a r) = false

-- an event of a phase without directives
abbrev pub is_quiet : Event → Bool
is_quiet (Phase p) = false
is_quiet (Emit s t) = false
is_quiet (Release s t) = false
is_quiet (Cut a b) = false
is_quiet (Heal a b) = false
is_quiet (Crash a) = false
is_quiet (Restart a i) = false
is_quiet (Deliver k) = true
is_quiet (Tick a now) = true
is_quiet (Mill a r) = true

-- actor a ticks
abbrev pub is_tick : ℕ → Event → Bool
is_tick a (Phase p) = false
is_tick a (Emit s t) = false
is_tick a (Release s t) = false
is_tick a (Cut b c) = false
is_tick a (Heal b c) = false
is_tick a (Crash b) = false
is_tick a (Restart b i) = false
is_tick a (Deliver k) = false
is_tick a (Tick b now) = b == a
is_tick a (Mill b r) = false

-- envelope k is delivered
abbrev pub is_delivery : ℕ → Event → Bool
is_delivery k (Phase p) = false
is_delivery k (Emit s t) = false
is_delivery k (Release s t) = false
is_delivery k (Cut a b) = false
is_delivery k (Heal a b) = false
is_delivery k (Crash a) = false
is_delivery k (Restart a i) = false
is_delivery k (Deliver j) = j == k
is_delivery k (Tick a now) = false
is_delivery k (Mill a r) = false
