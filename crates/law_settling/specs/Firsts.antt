-- Fragments that read sources alone.
use Rattle.std.specs.Prelude.{◌≡◌, ℕ, ◌+◌, ◌≤◌, IsTrue, List, ◌++◌, length, Some, slice_get}
use Rattle.dpc_lists.specs.Lists.{nth}
use Rattle.dpc_model.specs.declared.messages.Event.{Event}
use Rattle.dpc_model.specs.declared.plans.Plan.{Plan}
use Rattle.dpc_model.specs.declared.plans.StreamRef.{StreamRef}
use Rattle.dpc_model.specs.declared.plans.StreamRef.TheVariants.{Source}
use Rattle.dpc_model.specs.declared.scripts.Script.{Script}
use Rattle.node_model.specs.Nodes.{PlainNode, no_fragment}
use Rattle.world_model.specs.Worlds.{home_of, run}
use Rattle.world_model.specs.Schedules.{is_live, settling_phases}
use Rattle.world_model.specs.Steady.{IsSteady, OpensWell}
use Rattle.law_schedules.specs.Journals.{phases_in}
use Rattle.law_readers.specs.Settling.{CanSettle}
use Rattle.law_settling.specs.Read.{reading_phases}
use Rattle.law_settling.specs.Finished.{IsFinished}
use Rattle.law_settling.specs.Entered.{IsReplicaOf, finishing_phases}

-- each input of the fragment is a source
abbrev pub ReadsSourcesOnly : Plan → ℕ → Type 0
ReadsSourcesOnly plan f = (p : ℕ) (s : StreamRef) → slice_get (nth no_fragment plan.frags f).inputs p ≡ Some s → (k : ℕ) × (s ≡ Source k)

-- all replicas of such a fragment have finished R(3R + 9) + 2 phases after the sources were read
abbrev pub FirstFragmentsFinish : Script → List Event → Type 0
FirstFragmentsFinish script events =
    CanSettle script → IsTrue (is_live script events) → OpensWell script events → IsSteady script events →
    (before mid rest : List Event) (f : ℕ) → events ≡ before ++ (mid ++ rest) → ReadsSourcesOnly script.plan f → length script.phases + settling_phases + reading_phases + 1 ≤ phases_in before →
    (let m = (nth no_fragment script.plan.frags f).replicas in phases_in before + finishing_phases m m ≤ phases_in (before ++ mid)) →
    (a r : ℕ) (n : PlainNode) → IsReplicaOf script.plan (run script.plan (before ++ mid)) f a r n → IsFinished (home_of script.plan (f, r)) n
