-- What an entry of a journal names: actors of its sort, and numbers in their ranges.
use Rattle.std.specs.Prelude.{◌≡◌, ℕ, ◌+◌, ◌^◌, ◌≤◌, true, nat_lt, List, [], ◌∷◌, length, filter}
use Rattle.dpc_lists.specs.Lists.{list_all}
use Rattle.dpc_model.specs.Limits.{most_envelopes, most_items}
use Rattle.dpc_model.specs.Actors.{role_of, roles_of, are_linked}
use Rattle.dpc_model.specs.declared.actors.Role.TheVariants.{Source as IsSource, Node as IsNode}
use Rattle.dpc_model.specs.declared.messages.Event.{Event}
use Rattle.dpc_model.specs.declared.messages.Event.TheVariants.{Phase, Emit, Release, Cut, Heal, Crash, Restart, Deliver, Tick, Mill}
use Rattle.dpc_model.specs.declared.plans.Plan.{Plan}
use Rattle.dpc_model.specs.declared.scripts.Script.{Script}
use Rattle.world_model.specs.Worlds.{World, item_count, slot_of, is_release_time, run}
use Rattle.world_model.specs.Schedules.{phase_of}
use Rattle.world_model.specs.Events.{is_restart}
use Rattle.law_schedules.specs.Journals.{phases_in, most_phases, Comes, Mills, Ticks}

-- ---- what each sort of entry names

-- the next phase, of as many as the script's run can have
pub record IsNextPhase (script : Script) (events : List Event) (p : ℕ) : Type 0 where
  pub next : p ≡ phases_in events + 1
  pub few : p ≤ most_phases script

-- a source, and a time from 1 to end
pub record IsSend (plan : Plan) (a t : ℕ) : Type 0 where
  pub role : role_of plan a ≡ IsSource a
  pub time : is_release_time plan t ≡ true

pub record IsOfNode (plan : Plan) (a : ℕ) : Type 0 where
  pub frag : ℕ
  pub replica : ℕ
  pub role : role_of plan a ≡ IsNode frag replica

abbrev pub restarts_in : List Event → ℕ
restarts_in events = length (filter is_restart events)

-- a node with its next incarnation, which is at most 2 more than there were restarts
pub record IsNextIncarnation (plan : Plan) (events : List Event) (a i : ℕ) : Type 0 where
  pub node : IsOfNode plan a
  pub next : i ≡ (slot_of (run plan events) a).last_inc + 1
  pub few : i ≤ restarts_in events + 2

-- an actor that is up, with its phase's clock, which its own clock may become
pub record IsPhaseTick (script : Script) (events : List Event) (a now : ℕ) : Type 0 where
  pub ticks : Ticks (run script.plan events) a now
  pub clock : now ≡ (phase_of script (phases_in events)).now

-- what an entry behind these names
abbrev pub IsEntryOf : Script → List Event → Event → Type 0
IsEntryOf script events (Phase p) = IsNextPhase script events p
IsEntryOf script events (Emit a t) = IsSend script.plan a t
IsEntryOf script events (Release a t) = IsSend script.plan a t
IsEntryOf script events (Cut a b) = are_linked script.plan a b ≡ true
IsEntryOf script events (Heal a b) = are_linked script.plan a b ≡ true
IsEntryOf script events (Crash a) = IsOfNode script.plan a
IsEntryOf script events (Restart a i) = IsNextIncarnation script.plan events a i
IsEntryOf script events (Deliver k) = Comes (run script.plan events) k
IsEntryOf script events (Tick a now) = IsPhaseTick script events a now
IsEntryOf script events (Mill a r) = Mills (run script.plan events) a r

-- ---- numbers

abbrev pub actors_in : Event → List ℕ
actors_in (Phase p) = []
actors_in (Emit a t) = a ∷ []
actors_in (Release a t) = a ∷ []
actors_in (Cut a b) = a ∷ b ∷ []
actors_in (Heal a b) = a ∷ b ∷ []
actors_in (Crash a) = a ∷ []
actors_in (Restart a i) = a ∷ []
actors_in (Deliver k) = []
actors_in (Tick a now) = a ∷ []
actors_in (Mill a r) = a ∷ []

-- the others: of phases, times, incarnations, envelopes, clocks and buckets
abbrev pub numbers_in : Event → List ℕ
numbers_in (Phase p) = p ∷ []
numbers_in (Emit a t) = t ∷ []
numbers_in (Release a t) = t ∷ []
numbers_in (Cut a b) = []
numbers_in (Heal a b) = []
numbers_in (Crash a) = []
numbers_in (Restart a i) = i ∷ []
numbers_in (Deliver k) = k ∷ []
numbers_in (Tick a now) = now ∷ []
numbers_in (Mill a r) = r ∷ []

-- the most actors of a checked script: 16 sources, 16 fragments of 4 replicas, and 16 clients
abbrev pub most_actors : ℕ
most_actors = 96

-- actors of the plan, and numbers that 63 bits hold
pub record HasSmallNumbers (plan : Plan) (e : Event) : Type 0 where
  pub actors : list_all (λ a. nat_lt a (length (roles_of plan))) (actors_in e) ≡ true
  pub numbers : list_all (λ n. nat_lt n (2 ^ 63)) (numbers_in e) ≡ true

-- no more envelopes were sent, and no more items in them, than a run may send
pub record IsWithinLimits (w : World) : Type 0 where
  pub envelopes : length w.envelopes ≤ most_envelopes
  pub items : item_count w w.envelopes ≤ most_items
