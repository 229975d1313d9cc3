-- What a picture marks: what happened in a phase.
use Rattle.std.specs.Prelude.{ℕ, ◌+◌, ◌-◌, Bool, false, ◌==◌, if◌then◌else◌, List, [], ◌∷◌, flat_map, map, length, Option, Some, None}
use Rattle.dpc_lists.specs.Lists.{nth, range_with_len}
use Rattle.dpc_model.specs.Actors.{role_of}
use Rattle.dpc_model.specs.declared.actors.Role.{Role}
use Rattle.dpc_model.specs.declared.actors.Role.TheVariants.{Source as IsSource, Node as IsNode, Client as IsClient, Nobody}
use Rattle.dpc_model.specs.declared.plans.Plan.{Plan}
use Rattle.dpc_model.specs.declared.scripts.Directive.{Directive}
use Rattle.dpc_model.specs.declared.scripts.Directive.TheVariants as directive
use Rattle.dpc_model.specs.declared.scripts.Phase.{Phase}
use Rattle.dpc_model.specs.declared.scripts.Script.{Script}
use Rattle.world_model.specs.Schedules.{node_actors}
use Rattle.world_model.specs.Worlds.{World, node_at}
use Rattle.picture_model.specs.Points.{promise_of}
use Rattle.picture_model.specs.declared.columns.Mark.{Mark}
use Rattle.picture_model.specs.declared.columns.Mark.TheVariants.{Lose, Repeat, Grant}

-- ---- grants: a replica that promised to wait for another one

-- by replica, to whom it has its promise
abbrev pub promises_of : Plan → World → List (Option ℕ)
promises_of plan w = map (λ a. promise_of (node_at w a)) (node_actors plan)

-- the actor of the replica at place q of a fragment, one of whose replicas is the actor a
abbrev pub peer_at : ℕ → ℕ → Role → ℕ
peer_at a q (IsNode f r) = (a + q) - r
peer_at a q (IsSource s) = a
peer_at a q (IsClient c) = a
peer_at a q Nobody = a

abbrev pub is_to : ℕ → Option ℕ → Bool
is_to q None = false
is_to q (Some p) = p == q

-- a promise is new where it was not there before
abbrev pub grant_by : Plan → ℕ → Option ℕ → Option ℕ → List Mark
grant_by plan a before None = []
grant_by plan a before (Some q) = if is_to q before then [] else Grant a (peer_at a q (role_of plan a)) ∷ []

-- of the i-th replica
abbrev pub grant_at : Plan → List (Option ℕ) → List (Option ℕ) → ℕ → List Mark
grant_at plan before now i = grant_by plan (length plan.sources + i) (nth None before i) (nth None now i)

-- of all, by their promises at two moments
abbrev pub grants_between : Plan → List (Option ℕ) → List (Option ℕ) → List Mark
grants_between plan before now = flat_map (grant_at plan before now) (range_with_len 0 (length now))

-- ---- losses: what a script loses and repeats as a phase begins, which has no event

abbrev pub loss_of : Directive → List Mark
loss_of (directive.Lose a b) = Lose a b ∷ []
loss_of (directive.Repeat a b) = Repeat a b ∷ []
loss_of (directive.Emit s t) = []
loss_of (directive.Release s t) = []
loss_of (directive.Cut a b) = []
loss_of (directive.Heal a b) = []
loss_of (directive.Crash a) = []
loss_of (directive.Restart a) = []

-- by phase of a script
abbrev pub phase_losses : Phase → List Mark
phase_losses p = flat_map loss_of p.directives

abbrev pub losses_of : Script → List (List Mark)
losses_of script = map phase_losses script.phases
