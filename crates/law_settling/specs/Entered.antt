-- Replicas with whole inputs that are UP_FAILURE: one after another enters.
use Rattle.std.specs.Prelude.{◌≡◌, ℕ, zero, suc, ◌+◌, ◌*◌, ◌<◌, ◌≤◌, true, false, IsTrue, List, ◌++◌, length, Some, None, ◌⊎◌}
use Rattle.dpc_lists.specs.Lists.{nth}
use Rattle.dpc_model.specs.Actors.{role_of}
use Rattle.dpc_model.specs.Granting.{Key, key_le}
use Rattle.dpc_model.specs.NodeStates.{is_up_failure}
use Rattle.dpc_model.specs.declared.actors.Role.TheVariants.{Node as IsNode}
use Rattle.dpc_model.specs.declared.messages.Event.{Event}
use Rattle.dpc_model.specs.declared.plans.Plan.{Plan}
use Rattle.dpc_model.specs.declared.scripts.Script.{Script}
use Rattle.node_model.specs.Nodes.{PlainNode, no_fragment}
use Rattle.world_model.specs.Worlds.{World, home_of, slot_of, run}
use Rattle.world_model.specs.Schedules.{is_live_so_far, is_live, settling_phases}
use Rattle.world_model.specs.Steady.{IsSteady, OpensWell}
use Rattle.law_schedules.specs.Journals.{phases_in}
use Rattle.law_readers.specs.Settling.{CanSettle}
use Rattle.law_settling.specs.Rests.{AllRestPast}
use Rattle.law_settling.specs.Finished.{has_whole_inputs, IsFinished}

-- the fragment's replica with this number is up at the actor
pub record IsReplicaOf (plan : Plan) (w : World) (f a r : ℕ) (n : PlainNode) : Type 0 where
  pub role : role_of plan a ≡ IsNode f r
  pub up : (slot_of w a).node ≡ Some n

-- each replica has all of its inputs
abbrev pub AreWhole : Plan → World → ℕ → Type 0
AreWhole plan w f = (a r : ℕ) (n : PlainNode) → IsReplicaOf plan w f a r n → IsTrue (has_whole_inputs plan n)

-- each is UP_FAILURE, or has finished
abbrev pub AreFailingOrDone : Plan → World → ℕ → Type 0
AreFailingOrDone plan w f = (a r : ℕ) (n : PlainNode) → IsReplicaOf plan w f a r n → (is_up_failure n.state ≡ true) ⊎ IsFinished (home_of plan (f, r)) n

-- each heard from each other that its last ask that is over is
abbrev pub OversAreKnown : Plan → World → ℕ → Type 0
OversAreKnown plan w f =
    (a q : ℕ) (n : PlainNode) (b r : ℕ) (m : PlainNode) → IsReplicaOf plan w f a q n → IsReplicaOf plan w f b r m → (b ≡ a → ⊥) →
    (h : Key) × (nth None m.grants.heard q ≡ Some h) × (key_le (n.grants.inc, n.grants.over) h ≡ true)

-- a replica was UP_FAILURE in one world, and is not in the other
pub record EnteredBetween (plan : Plan) (v w : World) (f : ℕ) : Type 0 where
  pub actor : ℕ
  pub number : ℕ
  pub old : PlainNode
  pub new : PlainNode
  pub was : IsReplicaOf plan v f actor number old
  pub failed : is_up_failure old.state ≡ true
  pub is : IsReplicaOf plan w f actor number new
  pub fine : is_up_failure new.state ≡ false

-- where the replicas of a fragment do not recover past some phase, and from a later point on have whole inputs, each has finished or is UP_FAILURE there, and each
-- heard of the others' asks that are over: of those that are UP_FAILURE one isn't any more 3R + 4 phases later, R being the number of replicas
abbrev pub OneRestingEnters : Script → List Event → Type 0
OneRestingEnters script events =
    CanSettle script → IsTrue (is_live_so_far script events) → OpensWell script events →
    (before mid rest : List Event) (f floor : ℕ) → events ≡ before ++ (mid ++ rest) → length script.phases < floor → AllRestPast script events f floor → floor < phases_in before →
    phases_in before + (3 * (nth no_fragment script.plan.frags f).replicas + 4) ≤ phases_in (before ++ mid) →
    ((done more : List Event) → events ≡ done ++ more → length before ≤ length done → AreWhole script.plan (run script.plan done) f) →
    AreFailingOrDone script.plan (run script.plan before) f → OversAreKnown script.plan (run script.plan before) f →
    (a r : ℕ) (n : PlainNode) → IsReplicaOf script.plan (run script.plan before) f a r n → is_up_failure n.state ≡ true →
    EnteredBetween script.plan (run script.plan before) (run script.plan (before ++ mid)) f

-- where the replicas of a fragment have whole inputs from some point on, each has finished or is UP_FAILURE, and each heard of the others'
-- asks that are over: of those that are UP_FAILURE one isn't any more 3R + 4 phases later, R being the number of replicas
abbrev pub OneEnters : Script → List Event → Type 0
OneEnters script events =
    CanSettle script → IsTrue (is_live script events) → OpensWell script events → IsSteady script events →
    (before mid rest : List Event) (f : ℕ) → events ≡ before ++ (mid ++ rest) → length script.phases + settling_phases < phases_in before →
    phases_in before + (3 * (nth no_fragment script.plan.frags f).replicas + 4) ≤ phases_in (before ++ mid) →
    ((done more : List Event) → events ≡ done ++ more → length before ≤ length done → AreWhole script.plan (run script.plan done) f) →
    AreFailingOrDone script.plan (run script.plan before) f → OversAreKnown script.plan (run script.plan before) f →
    (a r : ℕ) (n : PlainNode) → IsReplicaOf script.plan (run script.plan before) f a r n → is_up_failure n.state ≡ true →
    EnteredBetween script.plan (run script.plan before) (run script.plan (before ++ mid)) f

-- so many phases are enough for all replicas to finish, where there are m of which u are UP_FAILURE
abbrev pub finishing_phases : ℕ → ℕ → ℕ
finishing_phases m zero = 2
finishing_phases m (suc u) = finishing_phases m u + (3 * m + 9)

-- where the replicas of a fragment do not recover past some phase, and have whole inputs from a later point on, all of them have finished R(3R + 9) + 2 phases behind that
abbrev pub RestingReplicasFinish : Script → List Event → Type 0
RestingReplicasFinish script events =
    CanSettle script → IsTrue (is_live_so_far script events) → OpensWell script events →
    (before mid rest : List Event) (f floor : ℕ) → events ≡ before ++ (mid ++ rest) → length script.phases < floor → AllRestPast script events f floor → floor < phases_in before →
    (let m = (nth no_fragment script.plan.frags f).replicas in phases_in before + finishing_phases m m ≤ phases_in (before ++ mid)) →
    ((done more : List Event) → events ≡ done ++ more → length before ≤ length done → AreWhole script.plan (run script.plan done) f) →
    (a r : ℕ) (n : PlainNode) → IsReplicaOf script.plan (run script.plan (before ++ mid)) f a r n → IsFinished (home_of script.plan (f, r)) n

-- where the replicas of a fragment have whole inputs from some point on, past the last recovery, all of them have finished R(3R + 9) + 2 phases later
abbrev pub ReplicasFinish : Script → List Event → Type 0
ReplicasFinish script events =
    CanSettle script → IsTrue (is_live script events) → OpensWell script events → IsSteady script events →
    (before mid rest : List Event) (f : ℕ) → events ≡ before ++ (mid ++ rest) → length script.phases + settling_phases < phases_in before →
    (let m = (nth no_fragment script.plan.frags f).replicas in phases_in before + finishing_phases m m ≤ phases_in (before ++ mid)) →
    ((done more : List Event) → events ≡ done ++ more → length before ≤ length done → AreWhole script.plan (run script.plan done) f) →
    (a r : ℕ) (n : PlainNode) → IsReplicaOf script.plan (run script.plan (before ++ mid)) f a r n → IsFinished (home_of script.plan (f, r)) n
