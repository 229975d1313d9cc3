-- The events that complete a phase from whatever point of it, and a run.
use Rattle.std.specs.Prelude.{ℕ, zero, suc, ◌+◌, ◌-◌, true, false, not, ◌&&◌, ◌==◌, if◌then◌else◌, List, [], ◌∷◌, ◌++◌, map, filter, flat_map, replicate, Some, None, slice_get}
use Rattle.dpc_lists.specs.Lists.{has}
use Rattle.dpc_model.specs.declared.messages.Event.{Event}
use Rattle.dpc_model.specs.declared.messages.Event.TheVariants.{Phase, Deliver, Tick}
use Rattle.dpc_model.specs.declared.scripts.Directive.{Directive}
use Rattle.dpc_model.specs.declared.scripts.Script.{Script}
use Rattle.world_model.specs.Worlds.{World, node_at, is_up, happens}
use Rattle.world_model.specs.Schedules.{Undelivered, Progress, event_of, mill_events, may_come, actors_of, now_of, next_progress, progress_from, phase_left}

-- the events of directives, one after another
abbrev pub directing : World → List Directive → List Event
directing w [] = []
directing w (d ∷ ds) = elim (event_of w d) [ None ↦ directing w ds | Some e ↦ e ∷ directing (happens w e) ds ]

-- ---- behind the directives

-- the buckets that a node lacks of its target
abbrev pub lacking : World → ℕ × ℕ → ℕ
lacking w t = elim (node_at w t.0) [ None ↦ 0 | Some n ↦ t.1 - n.cursor ]

abbrev pub milling : Progress → List Event
milling x = flat_map (λ (t : ℕ × ℕ). mill_events t.0 (lacking x.world t)) x.targets

-- a pending envelope that can come, as often as is left
abbrev pub delivering_one : World → Undelivered → List Event
delivering_one w y = if y.pending && may_come w (slice_get w.envelopes y.number) then replicate y.left (Deliver y.number) else []

abbrev pub delivering : Progress → List Event
delivering x = flat_map (delivering_one x.world) x.waiting

-- the actors that are up and had no tick yet
abbrev pub ticking : Script → Progress → List Event
ticking script x = map (λ a. Tick a (now_of script x)) (filter (λ a. is_up x.world a && not (has x.ticked a)) (actors_of x.world.plan))

-- the targets first, then the deliveries in order of number, and the ticks last
abbrev pub behind_directives : Script → Progress → List Event
behind_directives script x = milling x ++ delivering x ++ ticking script x

-- ---- a phase, and the run

-- all that is left of the last phase that was opened
abbrev pub completing : Script → Progress → List Event
completing script x =
    if x.phase == 0 then []
    else (let ds = directing x.world x.todo in ds ++ behind_directives script (progress_from script x ds))

-- the phase, and then at most so many others, each complete
abbrev pub finishing : ℕ → Script → Progress → List Event
finishing zero script x = completing script x
finishing (suc most) script x =
    let es = completing script x in
    let y = progress_from script x es in
    let next = Phase (y.phase + 1) in
    es ++ (elim (phase_left script y) [ false ↦ [] | true ↦ next ∷ finishing most script (next_progress script y next) ])
