-- Fragments that finish one after another, and clients that settle, where at most one replica of each fragment is ever crashed.
use Rattle.std.specs.Prelude.{◌≡◌, ℕ, zero, suc, ◌+◌, ◌*◌, ◌≤◌, true, IsTrue, List, ◌++◌, length, Some, slice_get}
use Rattle.dpc_lists.specs.Lists.{nth}
use Rattle.dpc_model.specs.declared.messages.Event.{Event}
use Rattle.dpc_model.specs.declared.plans.Plan.{Plan}
use Rattle.dpc_model.specs.declared.plans.StreamRef.TheVariants.{Frag}
use Rattle.dpc_model.specs.declared.scripts.Script.{Script}
use Rattle.node_model.specs.Nodes.{no_fragment}
use Rattle.script_rules.specs.Checking.{IsChecked}
use Rattle.world_model.specs.Worlds.{run, all_settled}
use Rattle.world_model.specs.Schedules.{lockstep_journal, settling_phases}
use Rattle.world_model.specs.Steady.{OpensWell}
use Rattle.law_schedules.specs.Journals.{phases_in}
use Rattle.law_readers.specs.Settling.{CanSettle}
use Rattle.law_healing.specs.Healing.{heals}
use Rattle.law_settling.specs.Entered.{finishing_phases}
use Rattle.law_settling_readers.specs.Streams.{AreFinished, serving_phases}
use Rattle.law_survivors.specs.Spared.{keeps_all_but_one}

-- how many replicas a fragment has
abbrev pub replicas_in : Plan → ℕ → ℕ
replicas_in plan f = (nth no_fragment plan.frags f).replicas

-- all replicas of the fragment have finished at each point of the one-thread journal from the phase with this number on
abbrev pub FinishedFrom : Script → ℕ → ℕ → Type 0
FinishedFrom script f from = (done rest : List Event) → lockstep_journal script ≡ done ++ rest → from ≤ phases_in done → AreFinished script.plan (run script.plan done) f

-- each fragment that this one reads has at most so many replicas, and all of them have finished from that phase on
abbrev pub IsFedFrom : Script → ℕ → ℕ → ℕ → Type 0
IsFedFrom script f most from = (p g : ℕ) → slice_get (nth no_fragment script.plan.frags f).inputs p ≡ Some (Frag g) → (replicas_in script.plan g ≤ most) × FinishedFrom script g from

-- so many phases are enough for a fragment of m replicas that reads fragments of at most `most`: for those who recover to be served, for their
-- recovery, for all to be served, and to finish
abbrev pub fed_phases : ℕ → ℕ → ℕ
fed_phases most m = 2 * serving_phases most + finishing_phases m m + 3

-- where all replicas of the fragments that a fragment reads have finished from some phase on, past the seventh quiet one, its own have finished so
-- many phases later, for good, those that were crashed among them
abbrev pub FedFragmentsFinish : Script → Type 0
FedFragmentsFinish script =
    CanSettle script → OpensWell script (lockstep_journal script) → keeps_all_but_one script ≡ true → (f from most : ℕ) → length script.phases + 8 ≤ from → IsFedFrom script f most from → FinishedFrom script f (from + fed_phases most (replicas_in script.plan f))

-- each fragment has at most four replicas, and at most so many
abbrev pub HaveAtMost : Plan → ℕ → Type 0
HaveAtMost plan most = (f : ℕ) → (replicas_in plan f ≤ 4) × (replicas_in plan f ≤ most)

-- the phase by which the fragments before number b have finished, where the first begin in phase `first` and each takes `more`
abbrev pub finished_by : ℕ → ℕ → ℕ → ℕ
finished_by first more zero = first
finished_by first more (suc b) = finished_by first more b + more

-- so all replicas of the first f + 1 fragments have finished that many times 38 (R + 1) phases behind the eighth quiet one, R being the most
-- replicas of one
abbrev pub AllFragmentsFinish : Script → Type 0
AllFragmentsFinish script =
    CanSettle script → OpensWell script (lockstep_journal script) → keeps_all_but_one script ≡ true → (most f : ℕ) → HaveAtMost script.plan most → FinishedFrom script f (finished_by (length script.phases + 8) (settling_phases * (most + 1)) (suc f))

-- ---- scripts

-- a script that mends what it breaks, crashes at most one replica of each fragment, of which another one is there, and ends with `settle`: every
-- client is settled at the end of its one-thread run
abbrev pub SettlesWithCrashes : Script → Type 0
SettlesWithCrashes script = IsChecked script → IsTrue script.settle → heals script ≡ true → keeps_all_but_one script ≡ true → IsTrue (all_settled (run script.plan (lockstep_journal script)))
