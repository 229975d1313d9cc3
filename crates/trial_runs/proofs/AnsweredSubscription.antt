-- Why the law names the subscription that was answered, and not the first one of a session that was sent: where a fragment
-- reads a stream by two ports, both ask for sessions of the same numbers, and a reader that fits the one sent first may have
-- no reading of what was sent to the other. And a session that a subscription opened, so that the law speaks of some.
use Rattle.std.proofs.Common.{◌≡◌, ℕ, zero, suc, true, false, pos, List, [], ◌∷◌, refl, arith, Option, Some, None, slice_get}
use Rattle.std.specs.Prelude.{codes}
use Rattle.dpc_lists.specs.Lists.{list_all}
use Rattle.dpc_model.specs.Streams.{InOrder}
use Rattle.dpc_model.specs.Fragments.{log_of}
use Rattle.dpc_model.specs.Formula as formula
use Rattle.dpc_model.specs.Inlets.{sess_of}
use Rattle.dpc_model.specs.Reading.{empty_reader, fold_items}
use Rattle.dpc_model.specs.declared.messages.Event.{Event}
use Rattle.dpc_model.specs.declared.messages.Event.TheVariants.{Emit, Release, Crash, Restart, Deliver, Tick}
use Rattle.dpc_model.specs.declared.messages.Subscribe.{Subscribe}
use Rattle.dpc_model.specs.declared.plans.Plan.{Plan}
use Rattle.dpc_model.specs.declared.plans.StreamRef.TheVariants.{Source, Frag}
use Rattle.dpc_model.specs.declared.operators.OpKind.TheVariants.{Filter}
use Rattle.dpc_model.specs.declared.operators.Wire.TheVariants.{Port as from_port}
use Rattle.node_model.specs.Nodes.{new_node, restarted_node, out_stable, out_with_closed, out_tentative, ready}
use Rattle.node_model.specs.NodeSteps.{enter_step, packet_step, tick_step}
use Rattle.node_model.specs.Sources.{new_source, source_emits, source_releases, source_packet_step, source_tick_step}
use Rattle.node_model.specs.Clients.{new_client}
use Rattle.dpc_model.specs.Inlets.{take_batch}
use Rattle.world_model.specs.Worlds.{Envelope, source_at, new_world, run}
use Rattle.world_model.specs.SessionLaw.{Channel, sent_after}
use Rattle.world_model.specs.Orderly.{fits_stream}
use Rattle.law_safety.specs.Plans.{IsCheckedPlan}
use Rattle.trial_runs.proofs.Checking.{checked-one}
use Rattle.law_sessions.specs.Openings.{first_subscription, asks_for, opened_by}

-- a source, a fragment that reads it by two ports, and a client
abbrev plan : Plan
plan =
    record {
      version = 1;
      passing = false;
      width = 10;
      delay = 20;
      end = 30;
      sources = record { name = codes "s"; columns = 1; log = record { stime = 3; vals = (pos 5) ∷ [] } ∷ [] } ∷ [];
      frags = record { name = codes "f"; replicas = 1; delay = None; inputs = Source 0 ∷ Source 0 ∷ []; ops = record { name = codes "k"; kind = Filter (formula.Num (pos 1)); reads = from_port 0 ∷ [] } ∷ [] } ∷ [];
      clients = record { name = codes "c"; input = Frag 0 } ∷ [];
    }

logs-in-order : (s : ℕ) → InOrder (log_of plan s)
logs-in-order zero = (tt, tt)
logs-in-order (suc s) = tt

logs-fit : (s : ℕ) → list_all (fits_stream plan (Source s)) (log_of plan s) ≡ true
logs-fit zero = refl
logs-fit (suc s) = refl

checked : IsCheckedPlan plan
checked =
    checked-one plan
    (record { sound = record { logs = logs-in-order; ops = ((tt, tt), tt); inputs = (tt, tt) }; width = omega arith; whole = refl; logs = logs-fit; even = refl })
    refl refl (omega arith) refl refl

-- The node is restarted, and both ports ask for session (2, 1). The first one is answered, and all batches are its own. The
-- second one asks anew after three ticks, for (2, 2) from tuple 0 on. The first one misses a batch and asks for (2, 2) too,
-- from tuple 1 on; that one comes first.
abbrev events : List Event
events =
    Crash 1 ∷ Restart 1 2 ∷ Tick 1 0 ∷ Emit 0 4 ∷ Deliver 0 ∷ Deliver 6 ∷ Release 0 10 ∷ Tick 0 0 ∷ Tick 1 0 ∷ Tick 1 0 ∷ Tick 1 0 ∷ Deliver 8 ∷ Tick 1 0 ∷ Deliver 19 ∷ []

abbrev line : Channel
line = record { sender = 0; reader = 1; sess = sess_of 2 2 }

-- the first subscription of a session that was sent
abbrev first_asked : Channel → List Envelope → Option Subscribe
first_asked l [] = None
first_asked l (e ∷ es) = elim (asks_for l e) [ None ↦ first_asked l es | Some asked ↦ Some asked ]

first_is : first_asked line (run plan events).envelopes ≡ Some (record { sess = sess_of 2 2; n = 0; tentative = false })
unfolding run new_world new_node restarted_node out_stable out_with_closed out_tentative ready enter_step packet_step tick_step new_source source_emits source_releases source_packet_step source_tick_step new_client take_batch
first_is = refl

opened_is : opened_by line (first_subscription line) (new_world plan) events ≡ record { sess = sess_of 2 2; n = 1; tentative = false }
unfolding run new_world new_node restarted_node out_stable out_with_closed out_tentative ready enter_step packet_step tick_step new_source source_emits source_releases source_packet_step source_tick_step new_client take_batch
opened_is = refl

-- the source has it open
is_open : slice_get (source_at (run plan events) 0).subs 0 ≡ Some (record { kept = Some (sess_of 2 2); is_open = true; batches = 1 })
unfolding run new_world new_node restarted_node out_stable out_with_closed out_tentative ready enter_step packet_step tick_step new_source source_emits source_releases source_packet_step source_tick_step new_client take_batch
is_open = refl

-- a reader that holds nothing, as the first one says, has no reading of what was sent
unread : fold_items empty_reader (sent_after line [] (new_world plan) events) ≡ None
unfolding run new_world new_node restarted_node out_stable out_with_closed out_tentative ready enter_step packet_step tick_step new_source source_emits source_releases source_packet_step source_tick_step new_client take_batch
unread = refl
