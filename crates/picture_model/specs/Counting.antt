-- Phases that a picture shows.
use Rattle.std.specs.Prelude.{Bool, true, not, ◌==◌}
use Rattle.dpc_model.specs.declared.messages.Event.{Event}
use Rattle.dpc_model.specs.declared.messages.Event.TheVariants.{Phase, Emit, Release, Cut, Heal, Crash, Restart, Deliver, Tick, Mill}

-- phases have numbers from 1
abbrev pub is_numbered : Event → Bool
is_numbered (Phase p) = not (p == 0)
is_numbered (Emit s t) = true
is_numbered (Release s t) = true
is_numbered (Cut a b) = true
is_numbered (Heal a b) = true
is_numbered (Crash a) = true
is_numbered (Restart a i) = true
is_numbered (Deliver k) = true
is_numbered (Tick a now) = true
is_numbered (Mill a r) = true
