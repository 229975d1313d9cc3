-- Runs in which recoveries end, and readers that do not recover.
use Rattle.std.specs.Prelude.{◌≡◌, ⊤, ℕ, ◌+◌, ◌<◌, List, [], ◌∷◌, ◌++◌, length}
use Rattle.dpc_model.specs.declared.messages.Event.{Event}
use Rattle.dpc_model.specs.declared.scripts.Script.{Script}
use Rattle.world_model.specs.Worlds.{World, happens, new_world}
use Rattle.world_model.specs.Steady.{NoneRecovers, phase_at, OpensWell}
use Rattle.world_model.specs.Schedules.{settling_phases, lockstep_journal}
use Rattle.law_readers.specs.Settling.{CanSettle}
use Rattle.law_settling.specs.Rests.{RestsPast}
use Rattle.law_settling_readers.specs.Streams.{HearsPast}

abbrev pub CalmFrom : Script → ℕ → World → List Event → Type 0
CalmFrom script p w [] = ⊤
CalmFrom script p w (e ∷ events) =
    let q = phase_at p e in
    let next = happens w e in
    (length script.phases + settling_phases < q → NoneRecovers next.nodes) × CalmFrom script q next events

-- past the first quiet phases no node recovers
abbrev pub IsCalm : Script → List Event → Type 0
IsCalm script events = CalmFrom script 0 (new_world script.plan) events

-- in any beginning of the one-thread journal: who does not recover past some quiet phase hears a beat of each replica in each phase behind it
abbrev pub RestingReadersHear : Script → Type 0
RestingReadersHear script =
    CanSettle script → OpensWell script (lockstep_journal script) → (events later : List Event) (x floor : ℕ) → lockstep_journal script ≡ events ++ later → length script.phases < floor →
    RestsPast script events x floor → HearsPast script events x floor
