-- What a script is to have for its live runs to settle.
use Rattle.std.specs.Prelude.{◌≡◌, ℕ, ◌+◌, ◌^◌, ◌≤◌, All, Some, slice_get}
use Rattle.dpc_model.specs.Streams.{IsOrdered}
use Rattle.dpc_model.specs.Actors.{role_of, inputs_of}
use Rattle.dpc_model.specs.declared.plans.StreamRef.{StreamRef}
use Rattle.dpc_model.specs.declared.scripts.Phase.{Phase}
use Rattle.dpc_model.specs.declared.scripts.Script.{Script}
use Rattle.world_model.specs.Schedules.{last_clock, quiet_limit}
use Rattle.law_safety.specs.Plans.{IsCheckedPlan}

-- what a script is to have for its runs to settle; every checked script has it
pub record CanSettle (script : Script) : Type 0 where
  pub plan : IsCheckedPlan script.plan
  -- no actor reads a stream at two ports: each port has its sessions for itself
  pub once : (x p q : ℕ) (s : StreamRef) → slice_get (inputs_of script.plan (role_of script.plan x)) p ≡ Some s → slice_get (inputs_of script.plan (role_of script.plan x)) q ≡ Some s → p ≡ q
  -- clocks don't fall and are low, and so are those of the quiet phases: no tick is void
  pub clocks : IsOrdered (λ (p : Phase). p.now) script.phases
  pub low : All (λ (p : Phase). p.now ≤ 10 ^ 12) script.phases
  pub quiet : last_clock script + quiet_limit script.plan ≤ 2 ^ 40
