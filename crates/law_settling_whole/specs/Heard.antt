-- Runs in which readers hear those that they read.
use Rattle.std.specs.Prelude.{⊤, ℕ, ◌+◌, ◌<◌, List, [], ◌∷◌, length}
use Rattle.dpc_model.specs.declared.messages.Event.{Event}
use Rattle.dpc_model.specs.declared.scripts.Script.{Script}
use Rattle.world_model.specs.Worlds.{World, happens, new_world}
use Rattle.world_model.specs.Steady.{TickIsHeard, phase_at}
use Rattle.world_model.specs.Schedules.{settling_phases}

abbrev pub HeardFrom : Script → ℕ → World → List Event → Type 0
HeardFrom script p w [] = ⊤
HeardFrom script p w (e ∷ events) =
    let q = phase_at p e in
    let next = happens w e in
    (length script.phases + settling_phases < q → TickIsHeard next e) × HeardFrom script q next events

-- past the first quiet phases no reader misses three beats in a row of one of several replicas
abbrev pub IsHeard : Script → List Event → Type 0
IsHeard script events = HeardFrom script 0 (new_world script.plan) events
