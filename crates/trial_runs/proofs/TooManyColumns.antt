-- Why the tentative tuples of a port and of a closed bucket must fit their streams: without it a tick of a safe and orderly
-- node sends a tuple with too many columns.
use Rattle.std.proofs.Common.{◌≡◌, ℕ, ◌+◌, Bool, true, false, ◌&&◌, ◌==◌, nat_lt, nat_le, pos, List, [], ◌∷◌, map, length, refl, arith, None}
use Rattle.std.specs.Prelude.{codes}
use Rattle.dpc_lists.specs.Lists.{list_all, numbered}
use Rattle.dpc_model.specs.Actors.{senders_of}
use Rattle.dpc_model.specs.Fragments.{ideal, ideal_upto, log_of}
use Rattle.dpc_model.specs.Inlets.{sess_of}
use Rattle.dpc_model.specs.Granting.{new_grants}
use Rattle.dpc_model.specs.Replicas.{new_watch}
use Rattle.dpc_model.specs.Ports.{Port}
use Rattle.dpc_model.specs.Sessions.{opening_session}
use Rattle.dpc_model.specs.Formula as formula
use Rattle.dpc_model.specs.declared.plans.Plan.{Plan}
use Rattle.dpc_model.specs.declared.plans.StreamRef.{StreamRef}
use Rattle.dpc_model.specs.declared.plans.StreamRef.TheVariants.{Source, Frag}
use Rattle.dpc_model.specs.declared.operators.OpKind.TheVariants.{Filter}
use Rattle.dpc_model.specs.declared.operators.Wire.TheVariants.{Port as from_port}
use Rattle.dpc_model.specs.declared.messages.NodeState.TheVariants.{Stable}
use Rattle.dpc_model.specs.declared.tuples.Tagged.{Tagged}
use Rattle.dpc_model.specs.Engines.{lies_in, is_serial}
use Rattle.node_model.specs.Nodes.{Home, PlainNode, node_frontier, buckets_of, out_stable, out_with_closed, out_tentative, ready}
use Rattle.node_model.specs.NodeSteps.{tick_step, enter_step}
use Rattle.world_model.specs.Worlds.{from}
use Rattle.world_model.specs.Safe.{IsSafeNode}
use Rattle.world_model.specs.Orderly.{is_tentative_past, has_state_of_closed, recovers_empty, stamps_in_place, base_follows, has_shape, is_fitting}

-- a source with one column, a filter that lets everything pass, and a client
abbrev plan : Plan
plan =
    record {
      version = 1;
      passing = false;
      width = 10;
      delay = 20;
      end = 30;
      sources = record { name = codes "s"; columns = 1; log = record { stime = 3; vals = (pos 5) ∷ [] } ∷ [] } ∷ [];
      frags = record { name = codes "f"; replicas = 1; delay = None; inputs = Source 0 ∷ []; ops = record { name = codes "k"; kind = Filter (formula.Num (pos 1)); reads = from_port 0 ∷ [] } ∷ [] } ∷ [];
      clients = record { name = codes "c"; input = Frag 0 } ∷ [];
    }

abbrev home : Home
home = record { plan = plan; frag = 0; replica = 0 }

-- its port holds a tentative tuple with two columns, whose bucket waits since clock 0
abbrev port : Port
port =
    record {
      inlet = record { held = record { stable = []; bound = 0; tentative = record { stime = 3; vals = (pos 5) ∷ (pos 6) ∷ [] } ∷ []; passed = 0 }; sess = sess_of 1 1; next = 1; answered = true; broken = false };
      chosen = 0;
      watches = new_watch ∷ [];
      ticks = 0;
    }

abbrev node : PlainNode
node =
    record {
      ports = port ∷ [];
      stamps = (0, 0) ∷ [];
      cursor = 0;
      closed = [];
      state = Stable;
      recovering = false;
      subs = opening_session ∷ [];
      acks = (0, 0) ∷ [];
      base = 0;
      grants = new_grants 0 1 1;
      peers = new_watch ∷ [];
      clock = 0;
      tries = 0;
    }

-- what was asked of a port and of closed buckets before
abbrev is_port_sound_before : Plan → StreamRef → ℕ → ℕ → Port → Bool
is_port_sound_before plan s i most p =
    is_tentative_past plan p.inlet.held && p.inlet.sess.inc == i && nat_le p.inlet.sess.number most && length p.watches == length (senders_of plan s) && nat_lt p.chosen (length p.watches)

abbrev closed_before : Home → PlainNode → Bool
closed_before home n =
    list_all (λ (b : ℕ × List Tagged). list_all (lies_in home.plan.width (n.cursor + b.0)) b.1 && is_serial b.1) (numbered n.closed) && nat_le (node_frontier n) (buckets_of home.plan)

-- the node is as it was asked to be
before : (is_port_sound_before plan (Source 0) 1 1 port && has_state_of_closed node && recovers_empty node && closed_before home node && stamps_in_place home node && base_follows home node && has_shape home 1 node) ≡ true
unfolding out_stable
before = refl

-- and safe
safe : IsSafeNode home node
unfolding ideal ideal_upto out_stable
safe =
    record {
      inputs = (record { stable = (log_of plan 0, refl); within = omega arith; bound = omega arith }, tt);
      output = λ e. record { reaches = (omega arith, tt); base = omega arith; output = refl };
    }

-- at clock 20 its tick sends a tuple that does not fit
sends_wrong : list_all (is_fitting plan) (map (from 1) (tick_step home 20 node).sends) ≡ false
unfolding tick_step ready out_stable out_with_closed out_tentative enter_step
sends_wrong = refl
