-- The laws of every run, at runs that crashes, restarts and repeats cut into.
use Rattle.std.proofs.Common.{◌≡◌, ℕ, zero, suc, ◌+◌, true, List, length, arith, refl}
use Rattle.dpc_lists.specs.Lists.{list_all}
use Rattle.dpc_model.specs.Streams.{InOrder}
use Rattle.dpc_model.specs.Fragments.{log_of}
use Rattle.dpc_model.specs.Actors.{nodes_of}
use Rattle.dpc_model.specs.declared.messages.Event.{Event}
use Rattle.dpc_model.specs.declared.plans.Plan.{Plan}
use Rattle.dpc_model.specs.declared.plans.StreamRef.TheVariants.{Source}
use Rattle.world_model.specs.Worlds.{run}
use Rattle.world_model.specs.Safe.{IsSafe}
use Rattle.world_model.specs.Orderly.{IsOrderlyWorld, fits_stream}
use Rattle.law_safety.specs.Plans.{IsCheckedPlan}
use Rattle.trial_runs.proofs.Checking.{checked-one}
use Rattle.law_safety.proofs.Law.{run-safe, run-orderly}
use Rattle.law_sessions.specs.Laws.{SessionLaw}
use Rattle.law_sessions.proofs.Runs.{run-law}
use Rattle.trial_runs.specs.BothAsk.{script as both_ask}
use Rattle.trial_runs.specs.Hostile.{crashed_at, restarted_at, repeated}

-- ---- the plan is checked: two sources, two replicas of one fragment, a client

abbrev plan : Plan
plan = both_ask.plan

logs-in-order : (s : ℕ) → InOrder (log_of plan s)
logs-in-order zero = ((omega arith, (omega arith, tt)), ((omega arith, tt), (tt, tt)))
logs-in-order (suc zero) = ((omega arith, tt), (tt, tt))
logs-in-order (suc (suc s)) = tt

logs-fit : (s : ℕ) → list_all (fits_stream plan (Source s)) (log_of plan s) ≡ true
logs-fit zero = refl
logs-fit (suc zero) = refl
logs-fit (suc (suc s)) = refl

checked : IsCheckedPlan plan
checked =
    checked-one plan
    (record { sound = record { logs = logs-in-order; ops = ((tt, tt), tt); inputs = (tt, tt) }; width = omega arith; whole = refl; logs = logs-fit; even = refl })
    refl refl (omega arith) refl refl

-- ---- the runs

-- what is safe, what is kept beside it, and what sessions leave
pub record Holds (events : List Event) : Type 0 where
  pub safe : IsSafe plan events
  pub orderly : IsOrderlyWorld (run plan events) (nodes_of plan) (1 + length events)
  pub sessions : SessionLaw plan events

holds : (events : List Event) → Holds events
holds events = record { safe = run-safe plan events checked; orderly = run-orderly plan events checked; sessions = run-law plan events checked }

-- a crash behind any event, without and with a restart, and envelopes again
pub hostile : (k : ℕ) → Holds (crashed_at k) × Holds (restarted_at k) × Holds repeated
hostile k = (holds (crashed_at k), holds (restarted_at k), holds repeated)
