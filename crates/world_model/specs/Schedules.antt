-- Which events a script lets come next, and the one-thread journal of a script.
use Rattle.std.specs.Prelude.{ℕ, zero, suc, ◌+◌, ◌-◌, ◌*◌, ◌/◌, ◌%◌, Bool, true, false, not, ◌&&◌, ◌||◌, ◌==◌, nat_lt, nat_le, max, if◌then◌else◌, List, [], ◌∷◌, ◌++◌, map, length, filter, flat_map, fold, drop, reverse, replicate, Option, Some, None, slice_get}
use Rattle.dpc_lists.specs.Lists.{nth, range_with_len, list_any, list_all, has, place_of, is_nil}
use Rattle.dpc_model.specs.Limits.{most_milled, may_be_milled}
use Rattle.dpc_model.specs.Actors.{roles_of, nodes_of}
use Rattle.dpc_model.specs.Replicas.{absent_after}
use Rattle.dpc_model.specs.declared.messages.Event.{Event}
use Rattle.dpc_model.specs.declared.messages.Event.TheVariants.{Phase, Emit, Release, Cut, Heal, Crash, Restart, Deliver, Tick, Mill}
use Rattle.dpc_model.specs.declared.scripts.Directive.{Directive}
use Rattle.dpc_model.specs.declared.scripts.Directive.TheVariants as directive
use Rattle.dpc_model.specs.declared.plans.FragSpec.{FragSpec}
use Rattle.dpc_model.specs.declared.plans.Plan.{Plan}
use Rattle.dpc_model.specs.declared.scripts.Phase.{Phase as PhaseSpec}
use Rattle.dpc_model.specs.declared.scripts.Script.{Script}
use Rattle.world_model.specs.Worlds.{World, Envelope, slot_of, node_at, new_world, happens, is_up, can_come, ready_at, all_settled}

-- ---- phases

-- 38. Two things are counted by it: the quiet phases past which no node may recover any more (`IsSteady`), and those that a fragment takes,
-- from its inputs on, until its readers have its stream, which are at most so many for each of its replicas and once more (`enough` of
-- `law_settling_whole`: far fewer, 22 would do)
abbrev pub settling_phases : ℕ
settling_phases = 6 * absent_after + 20

-- the most quiet phases of a run: so many for each of F + 1 and R + 1, with F fragments and R the most replicas of one
abbrev pub quiet_limit : Plan → ℕ
quiet_limit plan = (length plan.frags + 1) * (fold max 0 (map (λ (f : FragSpec). f.replicas) plan.frags) + 1) * settling_phases

-- the clock of the last phase, 0 where there is none
abbrev pub last_clock : Script → ℕ
last_clock script = fold (λ _ now. now) 0 (map (λ (p : PhaseSpec). p.now) script.phases)

-- the phase of a number: the script's, or a quiet one after them
abbrev pub phase_of : Script → ℕ → PhaseSpec
phase_of script p = nth (record { directives = []; now = last_clock script + (p - length script.phases) }) script.phases (p - 1)

-- the event of a directive, where it has one; a restart takes the next incarnation
abbrev pub event_of : World → Directive → Option Event
event_of w (directive.Emit s t) = Some (Emit s t)
event_of w (directive.Release s t) = Some (Release s t)
event_of w (directive.Cut a b) = Some (Cut a b)
event_of w (directive.Heal a b) = Some (Heal a b)
event_of w (directive.Lose a b) = None
event_of w (directive.Repeat a b) = None
event_of w (directive.Crash a) = Some (Crash a)
event_of w (directive.Restart a) = Some (Restart a ((slot_of w a).last_inc + 1))

-- ---- the one-thread journal

-- whether an envelope goes from one actor to another
abbrev pub goes : ℕ → ℕ → Option Envelope → Bool
goes a b None = false
goes a b (Some e) = e.sender == a && e.to == b

-- whether a directive loses, or repeats, an envelope
abbrev pub loses : Option Envelope → Directive → Bool
loses e (directive.Lose a b) = goes a b e
loses e (directive.Emit s t) = false
loses e (directive.Release s t) = false
loses e (directive.Cut a b) = false
loses e (directive.Heal a b) = false
loses e (directive.Repeat a b) = false
loses e (directive.Crash a) = false
loses e (directive.Restart a) = false

abbrev pub repeats : Option Envelope → Directive → Bool
repeats e (directive.Repeat a b) = goes a b e
repeats e (directive.Emit s t) = false
repeats e (directive.Release s t) = false
repeats e (directive.Cut a b) = false
repeats e (directive.Heal a b) = false
repeats e (directive.Lose a b) = false
repeats e (directive.Crash a) = false
repeats e (directive.Restart a) = false

abbrev pub may_come : World → Option Envelope → Bool
may_come w None = false
may_come w (Some e) = can_come w e

-- how often an envelope that is pending is delivered in a phase with these directives
abbrev pub deliveries_of : World → List Directive → ℕ → ℕ
deliveries_of w directives k =
    let e = slice_get w.envelopes k in
    if list_any (loses e) directives || not (may_come w e) then 0 else (if list_any (repeats e) directives then 2 else 1)

-- a run so far: the world, and its journal with the last event first
pub record Told : Type 0 where
  pub world : World
  pub events : List Event

abbrev pub tell : Told → Event → Told
tell x e = record { world = happens x.world e; events = e ∷ x.events }

abbrev pub tell_all : Told → List Event → Told
tell_all x events = fold tell x events

-- the events of the directives
abbrev pub tell_directive : Told → Directive → Told
tell_directive x d = elim (event_of x.world d) [ None ↦ x | Some e ↦ tell x e ]

-- so many buckets of a node, the most at a time
abbrev pub mill_events : ℕ → ℕ → List Event
mill_events a r = replicate (r / most_milled) (Mill a most_milled) ++ (if r % most_milled == 0 then [] else Mill a (r % most_milled) ∷ [])

-- the numbers of all actors
abbrev pub actors_of : Plan → List ℕ
actors_of plan = range_with_len 0 (length (roles_of plan))

-- those of the nodes alone
abbrev pub node_actors : Plan → List ℕ
node_actors plan = range_with_len (length plan.sources) (length (nodes_of plan))

-- the events behind the directives: each node's ready buckets, the pending envelopes, and the ticks
abbrev pub phase_events : World → List Directive → List ℕ → ℕ → List Event
phase_events w directives pending now =
    flat_map (λ a. mill_events a (ready_at w a)) (actors_of w.plan)
    ++ flat_map (λ k. replicate (deliveries_of w directives k) (Deliver k)) pending
    ++ map (λ a. Tick a now) (filter (is_up w) (actors_of w.plan))

-- one phase: the pending envelopes are those sent since the last phase began, from number `from` on
abbrev pub tell_phase : ℕ → ℕ → List Directive → ℕ → Told → Told
tell_phase p first directives now x =
    let pending = range_with_len first (length x.world.envelopes - first) in
    let y = fold tell_directive (tell x (Phase p)) directives in
    tell_all y (phase_events y.world directives pending now)

-- the script's phases, the first of which has number p
abbrev pub tell_phases : ℕ → ℕ → List PhaseSpec → Told → ℕ × Told
tell_phases p first [] x = (first, x)
tell_phases p first (spec ∷ rest) x = tell_phases (p + 1) (length x.world.envelopes) rest (tell_phase p first spec.directives spec.now x)

-- quiet phases, at most so many, until every client is settled
abbrev pub tell_quiet : ℕ → ℕ → ℕ → ℕ → Told → Told
tell_quiet zero p first now x = x
tell_quiet (suc most) p first now x =
    elim (all_settled x.world) [
      | true ↦ x
      | false ↦ tell_quiet most (p + 1) (length x.world.envelopes) (now + 1) (tell_phase p first [] now x)
    ]

abbrev pub tell_rest : Script → ℕ × Told → Told
tell_rest script x =
    if script.settle then tell_quiet (quiet_limit script.plan) (length script.phases + 1) x.0 (last_clock script + 1) x.1 else x.1

-- the world and the events of the one-thread run of a script
unfoldable pub lockstep : Script → Told
lockstep script = tell_rest script (tell_phases 1 0 script.phases (record { world = new_world script.plan; events = [] }))

-- ---- which event may come next

-- an envelope that still has deliveries to come; it is pending where it was sent before the phase began
pub record Undelivered : Type 0 where
  pub number : ℕ
  pub left : ℕ
  pub pending : Bool

-- how far a run is in its script
pub record Progress : Type 0 where
  pub world : World
  -- the number of phases that were opened, and the directives of the last one that have events still to come
  pub phase : ℕ
  pub todo : List Directive
  pub waiting : List Undelivered
  -- the actors that had their tick in this phase, and the cursors that nodes must reach in it
  pub ticked : List ℕ
  pub targets : List (ℕ × ℕ)

abbrev pub first_progress : Script → Progress
first_progress script = record { world = new_world script.plan; phase = 0; todo = []; waiting = []; ticked = []; targets = [] }

-- whether a directive has an event
abbrev pub has_event : Directive → Bool
has_event (directive.Lose a b) = false
has_event (directive.Repeat a b) = false
has_event (directive.Emit s t) = true
has_event (directive.Release s t) = true
has_event (directive.Cut a b) = true
has_event (directive.Heal a b) = true
has_event (directive.Crash a) = true
has_event (directive.Restart a) = true

-- ---- what an event makes of it

-- the envelopes that become pending: those sent in the last phase that still wait
abbrev pub becomes_pending : World → List Directive → Undelivered → Undelivered
becomes_pending w directives x =
    record x { pending = true; left = if list_any (repeats (slice_get w.envelopes x.number)) directives then 2 else 1 }

abbrev pub is_lost : World → List Directive → Undelivered → Bool
is_lost w directives x = list_any (loses (slice_get w.envelopes x.number)) directives

abbrev pub pending_in : World → List Directive → List Undelivered → List Undelivered
pending_in w directives xs =
    map (becomes_pending w directives) (filter (λ (x : Undelivered). not x.pending && not (is_lost w directives x)) xs)

-- one delivery of an envelope was made
abbrev pub delivery_made : ℕ → List Undelivered → List Undelivered
delivery_made k [] = []
delivery_made k (x ∷ xs) = if x.number == k then (if x.left == 1 then xs else record x { left = x.left - 1 } ∷ xs) else x ∷ delivery_made k xs

-- the envelopes that an event sent
abbrev pub newly_sent : World → World → List Undelivered
newly_sent old new =
    map (λ k. record { number = k; left = 1; pending = false }) (range_with_len (length old.envelopes) (length new.envelopes - length old.envelopes))

-- the cursor that a node must reach in a phase: all its buckets that are ready after the directives lie below it
abbrev pub target_of : World → ℕ → ℕ × ℕ
target_of w a = (a, elim (node_at w a) [ None ↦ 0 | Some n ↦ n.cursor + ready_at w a ])

abbrev pub targets_in : World → List (ℕ × ℕ)
targets_in w = map (target_of w) (node_actors w.plan)

-- a node that recovers, or is down, need not reach its target
abbrev pub is_recovering : World → ℕ → Bool
is_recovering w a = elim (node_at w a) [ None ↦ true | Some n ↦ n.recovering ]

abbrev pub targets_left : World → List (ℕ × ℕ) → List (ℕ × ℕ)
targets_left w ts = filter (λ (t : ℕ × ℕ). not (is_recovering w t.0)) ts

-- the parts of the progress that an event changes besides the world
abbrev pub noting : Script → Progress → Event → Progress
noting script x (Phase p) =
    let directives = (phase_of script p).directives in
    let todo = filter has_event directives in
    record {
      world = x.world;
      phase = p;
      todo = todo;
      waiting = pending_in x.world directives x.waiting;
      ticked = [];
      targets = if is_nil todo then targets_in x.world else [];
    }
noting script x (Deliver k) = record x { waiting = delivery_made k x.waiting }
noting script x (Tick a now) = record x { ticked = a ∷ x.ticked }
noting script x (Mill a r) = x
noting script x (Emit s t) = record x { todo = drop 1 x.todo }
noting script x (Release s t) = record x { todo = drop 1 x.todo }
noting script x (Cut a b) = record x { todo = drop 1 x.todo }
noting script x (Heal a b) = record x { todo = drop 1 x.todo }
noting script x (Crash a) = record x { todo = drop 1 x.todo }
noting script x (Restart a i) = record x { todo = drop 1 x.todo }

-- the directives were done by this event
abbrev pub directives_done : Progress → Progress → Bool
directives_done old new = not (is_nil old.todo) && is_nil new.todo

abbrev pub next_progress : Script → Progress → Event → Progress
next_progress script x e =
    let y = noting script x e in
    let w = happens x.world e in
    record y {
      world = w;
      waiting = y.waiting ++ newly_sent x.world w;
      targets = if directives_done x y && y.phase == x.phase then targets_in w else targets_left w y.targets;
    }

-- ---- what may come

abbrev pub same_event : Event → Event → Bool
same_event (Phase p) e = elim e [ Phase q ↦ p == q | _ ↦ false ]
same_event (Emit s t) e = elim e [ Emit u v ↦ s == u && t == v | _ ↦ false ]
same_event (Release s t) e = elim e [ Release u v ↦ s == u && t == v | _ ↦ false ]
same_event (Cut a b) e = elim e [ Cut c d ↦ a == c && b == d | _ ↦ false ]
same_event (Heal a b) e = elim e [ Heal c d ↦ a == c && b == d | _ ↦ false ]
same_event (Crash a) e = elim e [ Crash c ↦ a == c | _ ↦ false ]
same_event (Restart a i) e = elim e [ Restart c j ↦ a == c && i == j | _ ↦ false ]
same_event (Deliver k) e = elim e [ Deliver l ↦ k == l | _ ↦ false ]
same_event (Tick a now) e = elim e [ Tick c clock ↦ a == c && now == clock | _ ↦ false ]
same_event (Mill a r) e = elim e [ Mill c q ↦ a == c && r == q | _ ↦ false ]

-- the directives of the last phase that was opened are done
abbrev pub is_free : Progress → Bool
is_free x = nat_lt 0 x.phase && is_nil x.todo

-- the event of the next directive
abbrev pub is_next : Progress → Event → Bool
is_next x e = elim x.todo [ [] ↦ false | d ∷ rest ↦ elim (event_of x.world d) [ None ↦ false | Some f ↦ same_event f e ] ]

-- two envelopes have the same sender and the same addressee
abbrev pub same_way : Option Envelope → Option Envelope → Bool
same_way None e = false
same_way (Some d) e = goes d.sender d.to e

-- the first envelope that waits and goes the same way has this number
abbrev pub is_first_of_its_way : World → ℕ → List Undelivered → Bool
is_first_of_its_way w k xs =
    elim (place_of (λ (x : Undelivered). same_way (slice_get w.envelopes k) (slice_get w.envelopes x.number)) xs) [
      | None ↦ false
      | Some i ↦ nth false (map (λ (x : Undelivered). x.number == k) xs) i
    ]

abbrev pub may_deliver : Progress → ℕ → Bool
may_deliver x k = may_come x.world (slice_get x.world.envelopes k) && is_first_of_its_way x.world k x.waiting

abbrev pub now_of : Script → Progress → ℕ
now_of script x = (phase_of script x.phase).now

-- an event that a node may make of its ready buckets
abbrev pub may_mill : World → ℕ → ℕ → Bool
may_mill w a r = may_be_milled r (ready_at w a)

abbrev pub all_ticked : Progress → Bool
all_ticked x = list_all (λ a. not (is_up x.world a) || has x.ticked a) (actors_of x.world.plan)

abbrev pub all_delivered : Progress → Bool
all_delivered x = list_all (λ (y : Undelivered). not y.pending || not (may_come x.world (slice_get x.world.envelopes y.number))) x.waiting

abbrev pub all_milled : Progress → Bool
all_milled x = list_all (λ (t : ℕ × ℕ). nat_le t.1 (elim (node_at x.world t.0) [ None ↦ t.1 | Some n ↦ n.cursor ])) x.targets

-- all that the phase must see was done
abbrev pub is_phase_complete : Progress → Bool
is_phase_complete x = x.phase == 0 || (is_nil x.todo && all_ticked x && all_delivered x && all_milled x)

-- a phase of the script is left, or a quiet one may follow
abbrev pub phase_left : Script → Progress → Bool
phase_left script x =
    nat_lt x.phase (length script.phases)
    || (script.settle && not (all_settled x.world) && nat_lt (x.phase - length script.phases) (quiet_limit script.plan))

-- an event may come next
abbrev pub may_follow : Script → Progress → Event → Bool
may_follow script x (Phase p) = p == x.phase + 1 && is_phase_complete x && phase_left script x
may_follow script x (Deliver k) = is_free x && may_deliver x k
may_follow script x (Tick a now) = is_free x && is_up x.world a && not (has x.ticked a) && now == now_of script x
may_follow script x (Mill a r) = is_free x && may_mill x.world a r
may_follow script x (Emit s t) = is_next x (Emit s t)
may_follow script x (Release s t) = is_next x (Release s t)
may_follow script x (Cut a b) = is_next x (Cut a b)
may_follow script x (Heal a b) = is_next x (Heal a b)
may_follow script x (Crash a) = is_next x (Crash a)
may_follow script x (Restart a i) = is_next x (Restart a i)

-- the progress after a list of events
abbrev pub progress_from : Script → Progress → List Event → Progress
progress_from script x [] = x
progress_from script x (e ∷ events) = progress_from script (next_progress script x e) events

unfoldable pub progress : Script → List Event → Progress
progress script events = progress_from script (first_progress script) events

-- an event may come after these
unfoldable pub may : Script → List Event → Event → Bool
may script events e = may_follow script (progress script events) e

abbrev pub follows_from : Script → Progress → List Event → Bool
follows_from script x [] = true
follows_from script x (e ∷ events) = may_follow script x e && follows_from script (next_progress script x e) events

-- each event may follow those before it
unfoldable pub is_live_so_far : Script → List Event → Bool
is_live_so_far script events = follows_from script (first_progress script) events

-- and the run is at its end
unfoldable pub is_live : Script → List Event → Bool
is_live script events =
    is_live_so_far script events && is_phase_complete (progress script events) && not (phase_left script (progress script events))

-- the one-thread journal of a script
unfoldable pub lockstep_journal : Script → List Event
lockstep_journal script = reverse (lockstep script).events
