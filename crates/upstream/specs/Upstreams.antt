-- What a reader knows of the senders of its stream, and what each call makes of it.
use Rattle.std.specs.Prelude.{ℕ, ◌+◌, Bool, min, if◌then◌else◌, List, map, Option, Some, None}
use Rattle.dpc_lists.specs.Lists.{nth, changed}
use Rattle.dpc_model.specs.Inlets.{new_inlet}
use Rattle.dpc_model.specs.Replicas.{new_watch, after_beat, after_tick, with_mark, after_count}
use Rattle.dpc_model.specs.Ports.{Port, choice_at, must_reopen}
use Rattle.dpc_model.specs.Parts.{Upstream}
use Rattle.dpc_model.specs.declared.messages.Beat.{Beat}

-- the senders by replica, as actors, and what is known of them
pub record UpstreamValue : Type 0 where
  pub senders : List ℕ
  pub known : Upstream

-- nothing is known yet
abbrev pub new_upstream : List ℕ → UpstreamValue
new_upstream senders = record { senders = senders; known = record { chosen = 0; watches = map (λ _. new_watch) senders; ticks = 0 } }

-- marks end where so many tuples are at least their base
abbrev pub with_marks_ended : ℕ → Upstream → Upstream
with_marks_ended count u = record u { watches = map (after_count count) u.watches }

-- a beat of replica r came
abbrev pub with_beat : ℕ → Beat → Upstream → Upstream
with_beat r b u = record u { watches = changed r (after_beat b.inc b.state b.recovering) u.watches }

-- replica r truncated what was asked for
abbrev pub with_truncation : ℕ → ℕ → Upstream → Upstream
with_truncation r base u = record u { watches = changed r (with_mark base) u.watches }

-- one tick is counted, of every replica and of the session
abbrev pub with_tick : Upstream → Upstream
with_tick u = record u { watches = map after_tick u.watches; ticks = min 3 (u.ticks + 1) }

-- no tick went by since the session was lost
abbrev pub with_no_tick : Upstream → Upstream
with_no_tick u = record u { ticks = 0 }

-- a port of which this is known, with an inlet that is broken, or answered
abbrev pub port_by : Bool → Bool → Upstream → Port
port_by broken answered u =
    record { inlet = record (new_inlet 0) { broken = broken; answered = answered }; chosen = u.chosen; watches = u.watches; ticks = u.ticks }

-- the replica that is chosen; the ticks begin anew where the session does
abbrev pub with_choice : Bool → Bool → Upstream → Upstream
with_choice broken answered u =
    let p = port_by broken answered u in record u { chosen = choice_at p; ticks = if must_reopen p then 0 else u.ticks }

-- the actor that is asked for a new session, where one must be opened
abbrev pub asked_actor : Bool → Bool → UpstreamValue → Option ℕ
asked_actor broken answered v =
    let p = port_by broken answered v.known in if must_reopen p then Some (nth 0 v.senders (choice_at p)) else None
