-- The plain node: it keeps its whole inputs, and has no operator state.
use Rattle.std.specs.Prelude.{ℕ, ◌+◌, ◌-◌, ◌*◌, ◌/◌, Bool, true, false, not, ◌&&◌, ◌==◌, if◌then◌else◌, List, [], ◌++◌, map, length, drop, Option, Some, None, replicate}
use Rattle.dpc_lists.specs.Lists.{nth, is_nil}
use Rattle.dpc_model.specs.Streams.{cut}
use Rattle.dpc_model.specs.Operators.{all_of}
use Rattle.dpc_model.specs.Parts.{bucket_held}
use Rattle.dpc_model.specs.Fragments.{serial, fragment_value}
use Rattle.dpc_model.specs.Reading.{Reader, stable_reader}
use Rattle.dpc_model.specs.Inlets.{new_inlet, restarted_inlet, sess_of}
use Rattle.dpc_model.specs.Due.{Stamps, DueInputs, is_complete, first_incomplete, last_due, delay_of}
use Rattle.dpc_model.specs.Replicas.{Watch, new_watch}
use Rattle.dpc_model.specs.Granting.{Grants, new_grants}
use Rattle.dpc_model.specs.NodeStates.{is_stable, is_up_failure}
use Rattle.dpc_model.specs.Actors.{readers_of}
use Rattle.dpc_model.specs.Ports.{Port, port_at, held_at}
use Rattle.dpc_model.specs.declared.tuples.Tuple.{Tuple}
use Rattle.dpc_model.specs.declared.tuples.Tagged.{Tagged}
use Rattle.dpc_model.specs.declared.messages.NodeState.{NodeState}
use Rattle.dpc_model.specs.declared.messages.NodeState.TheVariants.{Stable, Stabilization}
use Rattle.dpc_model.specs.declared.plans.Plan.{Plan}
use Rattle.dpc_model.specs.declared.plans.FragSpec.{FragSpec}
use Rattle.dpc_model.specs.declared.plans.StreamRef.{StreamRef}
use Rattle.dpc_model.specs.declared.plans.StreamRef.TheVariants.{Frag}
use Rattle.dpc_model.specs.Sessions.{no_session, opening_session, Shown, Acked}
use Rattle.dpc_model.specs.declared.sessions.Sub.{Sub}

-- ---- where a node stands

-- a node's plan, fragment and replica
pub record Home : Type 0 where
  pub plan : Plan
  pub frag : ℕ
  pub replica : ℕ

-- a fragment of nobody
abbrev pub no_fragment : FragSpec
no_fragment = record { name = []; replicas = 0; delay = None; inputs = []; ops = [] }

abbrev pub spec_of : Home → FragSpec
spec_of home = nth no_fragment home.plan.frags home.frag

abbrev pub streams_of : Home → List StreamRef
streams_of home = (spec_of home).inputs

abbrev pub own_readers : Home → List ℕ
own_readers home = readers_of home.plan (Frag home.frag)

-- how many buckets a run has
abbrev pub buckets_of : Plan → ℕ
buckets_of plan = plan.end / plan.width

-- ---- the node

pub record PlainNode : Type 0 where
  pub ports : List Port
  pub stamps : Stamps
  -- the first bucket that is not processed stably, and the buckets closed from it on
  pub cursor : ℕ
  pub closed : List (List Tagged)
  pub state : NodeState
  pub recovering : Bool
  -- by reader: its session, and what it acknowledged
  pub subs : List Sub
  pub acks : List Acked
  pub base : ℕ
  -- asks and promises, with the own incarnation
  pub grants : Grants
  -- what is known of each replica of the own fragment
  pub peers : List Watch
  pub clock : ℕ
  pub tries : ℕ

-- the session of each reader at the opening: replica 0 serves all
abbrev pub first_session : Home → Sub
first_session home = if home.replica == 0 then opening_session else no_session

-- the node at the opening
unfoldable pub new_node : Home → PlainNode
new_node home =
    record {
      ports = map (port_at home.plan (new_inlet 1)) (streams_of home);
      stamps = [];
      cursor = 0;
      closed = [];
      state = Stable;
      recovering = false;
      subs = map (λ _. first_session home) (own_readers home);
      acks = map (λ _. (0, 0)) (own_readers home);
      base = 0;
      grants = new_grants home.replica 1 (spec_of home).replicas;
      peers = replicate (spec_of home).replicas new_watch;
      clock = 0;
      tries = 0;
    }

-- a node that was restarted with a new incarnation has nothing, and is recovering
unfoldable pub restarted_node : Home → ℕ → PlainNode
restarted_node home i =
    record {
      ports = map (port_at home.plan (restarted_inlet (stable_reader [] 0) (sess_of i 0))) (streams_of home);
      stamps = [];
      cursor = 0;
      closed = [];
      state = Stabilization;
      recovering = true;
      subs = map (λ _. no_session) (own_readers home);
      acks = map (λ _. (0, 0)) (own_readers home);
      base = 0;
      grants = new_grants home.replica i (spec_of home).replicas;
      peers = replicate (spec_of home).replicas new_watch;
      clock = 0;
      tries = 0;
    }

-- ---- its output

-- the stable inputs below the cursor's bucket, by port
abbrev pub inputs_done : Home → PlainNode → List (List Tuple)
inputs_done home n = map (λ (p : Port). cut p.inlet.held.stable (n.cursor * home.plan.width)) n.ports

-- the frontier: the first bucket that is neither processed nor closed
abbrev pub node_frontier : PlainNode → ℕ
node_frontier n = n.cursor + length n.closed

-- the stable output
unfoldable pub out_stable : Home → PlainNode → List Tuple
out_stable home n = fragment_value (spec_of home).ops (serial (inputs_done home n)) (n.cursor * home.plan.width)

-- the output with that of the closed buckets
unfoldable pub out_with_closed : Home → PlainNode → List Tuple
out_with_closed home n = fragment_value (spec_of home).ops (serial (inputs_done home n) ++ all_of n.closed) (node_frontier n * home.plan.width)

-- the tentative output
unfoldable pub out_tentative : Home → PlainNode → List Tuple
out_tentative home n = drop (length (out_stable home n)) (out_with_closed home n)

-- the boundary of the output, with the number of tuples below it, where a bucket was processed
abbrev pub out_bound : Home → PlainNode → Option (ℕ × ℕ)
out_bound home n = if n.cursor == 0 then None else Some (n.cursor * home.plan.width, length (out_stable home n))

-- how far the tentative output goes, where the plan passes that on and a bucket is closed
abbrev pub out_passed : Home → PlainNode → Option ℕ
out_passed home n = if home.plan.passing && not (is_nil n.closed) then Some (node_frontier n * home.plan.width) else None

-- what the node shows a reader
abbrev pub shown : Home → PlainNode → Shown
shown home n =
    record {
      stable = out_stable home n;
      bound = out_bound home n;
      tentative = out_tentative home n;
      passed = out_passed home n;
      base = n.base;
      is_stable = is_stable n.state;
    }

-- ---- its buckets

-- the readers' states, by port
abbrev pub held_by : PlainNode → List Reader
held_by n = map held_at n.ports

-- the bucket as it stands
abbrev pub bucket_of : Home → PlainNode → ℕ → List Tagged
bucket_of home n k = bucket_held home.plan.width (held_by n) k

-- the first bucket that is not complete
abbrev pub complete_upto : Home → PlainNode → ℕ
complete_upto home n = first_incomplete home.plan.width (held_by n)

-- the number of buckets from the cursor on that are complete, where none is closed
abbrev pub complete_buckets : Home → PlainNode → ℕ
complete_buckets home n = if is_nil n.closed then complete_upto home n - n.cursor else 0

-- the number of buckets that may be milled
unfoldable pub ready : Home → PlainNode → ℕ
ready home n = if n.recovering then 0 else complete_buckets home n

abbrev pub due_inputs : Home → PlainNode → DueInputs
due_inputs home n =
    record {
      width = home.plan.width;
      delay = delay_of home.plan (spec_of home);
      passing = home.plan.passing;
      ports = held_by n;
      stamps = n.stamps;
      frontier = node_frontier n;
      any_closed = not (is_nil n.closed);
    }

-- the last bucket that a tick at this clock must process
abbrev pub due_at : Home → PlainNode → ℕ → Option ℕ
due_at home n now = last_due (due_inputs home n) now (buckets_of home.plan)

-- the node has tentative output and could correct it
abbrev pub wants_to_reconcile : Home → PlainNode → Bool
wants_to_reconcile home n = is_up_failure n.state && is_complete home.plan.width (held_by n) n.cursor
