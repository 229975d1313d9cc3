-- Replicas that have all of their inputs, and those that have processed them.
use Rattle.std.specs.Prelude.{◌≡◌, ℕ, ◌+◌, ◌<◌, Bool, true, false, ◌==◌, IsTrue, List, [], ◌∷◌, ◌++◌, length, Some}
use Rattle.dpc_lists.specs.Lists.{list_all}
use Rattle.dpc_model.specs.Fragments.{ideal}
use Rattle.dpc_model.specs.Actors.{role_of}
use Rattle.dpc_model.specs.NodeStates.{is_up_failure}
use Rattle.dpc_model.specs.Ports.{Port}
use Rattle.dpc_model.specs.declared.actors.Role.TheVariants.{Node as IsNode}
use Rattle.dpc_model.specs.declared.messages.Event.{Event}
use Rattle.dpc_model.specs.declared.messages.Event.TheVariants.{Phase}
use Rattle.dpc_model.specs.declared.messages.NodeState.TheVariants.{Stable}
use Rattle.dpc_model.specs.declared.plans.Plan.{Plan}
use Rattle.dpc_model.specs.declared.plans.StreamRef.TheVariants.{Frag}
use Rattle.dpc_model.specs.declared.scripts.Script.{Script}
use Rattle.node_model.specs.Nodes.{Home, PlainNode, buckets_of, out_stable}
use Rattle.world_model.specs.Worlds.{World, home_of, slot_of, run}
use Rattle.world_model.specs.Schedules.{is_live_so_far, is_live, settling_phases}
use Rattle.world_model.specs.Steady.{IsSteady, OpensWell}
use Rattle.law_readers.specs.Settling.{CanSettle}
use Rattle.world_model.specs.Events.{is_quiet}
use Rattle.law_settling.specs.Rests.{RestsPast}

-- every port holds its stream up to the end of the run
abbrev pub has_whole_inputs : Plan → PlainNode → Bool
has_whole_inputs plan n = list_all (λ (p : Port). p.inlet.held.bound == plan.end) n.ports

-- every bucket is processed stably: the whole failure-free output, and nothing to correct
pub record IsFinished (home : Home) (n : PlainNode) : Type 0 where
  pub cursor : n.cursor ≡ buckets_of home.plan
  pub closed : n.closed ≡ []
  pub state : n.state ≡ Stable
  pub recovering : n.recovering ≡ false
  pub output : out_stable home n ≡ ideal home.plan (Frag home.frag)

pub record FinishedAt (plan : Plan) (w : World) (a f r : ℕ) : Type 0 where
  pub node : PlainNode
  pub up : (slot_of w a).node ≡ Some node
  pub finished : IsFinished (home_of plan (f, r)) node

-- a replica that does not recover past some phase, has all of its inputs when a later one opens and is not UP_FAILURE then, has finished when that is over, and for good
abbrev pub RestingReplicaFinishes : Script → List Event → Type 0
RestingReplicaFinishes script events =
    CanSettle script → IsTrue (is_live_so_far script events) → OpensWell script events →
    (before here more rest : List Event) (p q floor : ℕ) → events ≡ before ++ (Phase p ∷ (here ++ Phase q ∷ (more ++ rest))) → length script.phases < floor → floor < p → list_all is_quiet here ≡ true →
    (a f r : ℕ) (n : PlainNode) → RestsPast script events a floor → role_of script.plan a ≡ IsNode f r → (slot_of (run script.plan before) a).node ≡ Some n → IsTrue (has_whole_inputs script.plan n) → is_up_failure n.state ≡ false →
    FinishedAt script.plan (run script.plan (before ++ (Phase p ∷ (here ++ Phase q ∷ more)))) a f r

-- so it is in a live run past the last phase in which a recovery may go on
abbrev pub WholeReplicasFinish : Script → List Event → Type 0
WholeReplicasFinish script events =
    CanSettle script → IsTrue (is_live script events) → OpensWell script events → IsSteady script events →
    (before here more rest : List Event) (p q : ℕ) → events ≡ before ++ (Phase p ∷ (here ++ Phase q ∷ (more ++ rest))) → length script.phases + settling_phases < p → list_all is_quiet here ≡ true →
    (a f r : ℕ) (n : PlainNode) → role_of script.plan a ≡ IsNode f r → (slot_of (run script.plan before) a).node ≡ Some n → IsTrue (has_whole_inputs script.plan n) → is_up_failure n.state ≡ false →
    FinishedAt script.plan (run script.plan (before ++ (Phase p ∷ (here ++ Phase q ∷ more)))) a f r
