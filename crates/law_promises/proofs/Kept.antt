-- The laws of runs, together.
use Rattle.std.proofs.Common.{◌+◌, List, length, sym, subst}
use Rattle.dpc_model.specs.declared.messages.Event.{Event}
use Rattle.dpc_model.specs.declared.plans.Plan.{Plan}
use Rattle.world_model.specs.Worlds.{run}
use Rattle.world_model.specs.Safe.{IsSafeStep}
use Rattle.law_safety.specs.Plans.{IsCheckedPlan}
use Rattle.law_safety.proofs.Law.{run-safe, run-good, event-safe}
use Rattle.law_safety.proofs.Promises.{sent-true, readers-right, outputs-right, done-leaves-nothing, done-surely-sent, none-waits}
use Rattle.law_sessions.proofs.Runs.{run-law}
use Rattle.law_sessions.proofs.Invented.{none-invented}
use Rattle.law_granting.proofs.First.{prefix-taken}
use Rattle.law_granting.proofs.Standing.{serves-meanwhile}
use Rattle.law_fit.proofs.FitWorlds.{run-world}
use Rattle.law_promises.specs.Promises.{KeepsPromises}

pub promises-kept : (plan : Plan) (events : List Event) → IsCheckedPlan plan → KeepsPromises plan events
promises-kept plan events checked =
    record {
      safe = run-safe plan events checked;
      sent = sent-true plan events checked;
      readers = readers-right plan events checked;
      outputs = outputs-right plan events checked;
      done = done-leaves-nothing plan events checked;
      surely = done-surely-sent plan events checked;
      due = none-waits plan events checked;
      sessions = run-law plan events checked;
      prefix = prefix-taken plan events checked;
      invented = none-invented plan events checked;
      meanwhile = serves-meanwhile plan checked;
    }

pub next-safe : (plan : Plan) (events : List Event) (e : Event) → IsCheckedPlan plan → IsSafeStep (run plan events) e
next-safe plan events e checked =
    let same = sym (run-good plan events checked).of_plan in
    event-safe (run plan events) (1 + length events) e (subst IsCheckedPlan same checked) (run-world plan events checked)
