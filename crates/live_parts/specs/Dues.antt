-- What an actor has to do in a phase, behind its directives.
use Rattle.std.specs.Prelude.{ℕ, Bool, not, ◌&&◌, if◌then◌else◌, List, [], ◌∷◌, ◌++◌, flat_map, replicate, slice_get}
use Rattle.dpc_lists.specs.Lists.{has}
use Rattle.dpc_model.specs.declared.messages.Event.TheVariants.{Deliver, Tick}
use Rattle.dpc_model.specs.declared.scripts.Script.{Script}
use Rattle.world_model.specs.Worlds.{World, is_up}
use Rattle.world_model.specs.Schedules.{Undelivered, Progress, is_free, may_come, now_of}
use Rattle.live_parts.specs.Inboxes.{goes_to, is_due}
use Rattle.live_parts.specs.declared.due.Due.{Due}
use Rattle.live_parts.specs.declared.inbox.Awaited.{Awaited}

-- deliveries of an envelope, so many
abbrev pub deliveries : ℕ → ℕ → ℕ → List Due
deliveries a k left = replicate left (record { actor = a; event = Deliver k })

-- of what waits at an addressee: of each that is pending and may come, as often as it is still to come
abbrev pub deliveries_of : World → ℕ → Awaited → List Due
deliveries_of w a q = if is_due w q then deliveries a q.number q.left else []

abbrev pub deliveries_in : World → ℕ → List Awaited → List Due
deliveries_in w a qs = flat_map (deliveries_of w a) qs

-- of all that waits: what goes to the actor, in the order in which it waits
abbrev pub is_due_now : World → Undelivered → Bool
is_due_now w x = x.pending && may_come w (slice_get w.envelopes x.number)

abbrev pub deliveries_to : World → ℕ → Undelivered → List Due
deliveries_to w a x = if goes_to a (slice_get w.envelopes x.number) then (if is_due_now w x then deliveries a x.number x.left else []) else []

-- its tick, where it may come
abbrev pub tick_in : Script → Progress → ℕ → List Due
tick_in script p a = if is_free p && is_up p.world a && not (has p.ticked a) then record { actor = a; event = Tick a (now_of script p) } ∷ [] else []

-- both
unfoldable pub dues_of : Script → Progress → ℕ → List Due
dues_of script p a = flat_map (deliveries_to p.world a) p.waiting ++ tick_in script p a
