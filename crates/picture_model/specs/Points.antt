-- What a picture shows of a source, a replica and a client.
use Rattle.std.specs.Prelude.{ℕ, Bool, true, false, if◌then◌else◌, length, max, Option, Some, None, option_map}
use Rattle.std.specs.List.{count_by}
use Rattle.dpc_model.specs.Granting.{Key}
use Rattle.dpc_model.specs.declared.messages.NodeState.{NodeState}
use Rattle.dpc_model.specs.declared.messages.NodeState.TheVariants as state
use Rattle.dpc_model.specs.declared.plans.Plan.{Plan}
use Rattle.dpc_model.specs.declared.tuples.Item.{Item}
use Rattle.dpc_model.specs.declared.tuples.Item.TheVariants.{Stable, Tentative, Passed, Boundary, Undo, RecDone}
use Rattle.node_model.specs.Clients.{ClientState, reader_of, client_settled}
use Rattle.node_model.specs.Nodes.{PlainNode}
use Rattle.picture_model.specs.declared.columns.ReplicaState.{ReplicaState}
use Rattle.picture_model.specs.declared.columns.ReplicaState.TheVariants as shown
use Rattle.picture_model.specs.declared.columns.SourcePoint.{SourcePoint}
use Rattle.picture_model.specs.declared.columns.ClientPoint.{ClientPoint}

-- ---- replicas

abbrev pub shown_state : NodeState → ReplicaState
shown_state state.Stable = shown.Stable
shown_state state.UpFailure = shown.UpFailure
shown_state state.Stabilization = shown.Stabilization

-- a node that recovers is shown as such, whatever its state
abbrev pub up_state : Bool → NodeState → ReplicaState
up_state recovering s = if recovering then shown.Recovering else shown_state s

abbrev pub replica_state : Option PlainNode → ReplicaState
replica_state None = shown.Down
replica_state (Some n) = up_state n.recovering n.state

-- the place, among the replicas of its fragment, of the one to which a node has its promise
abbrev pub promise_of : Option PlainNode → Option ℕ
promise_of None = None
promise_of (Some n) = option_map (λ (p : ℕ × Key). p.0) n.grants.promise

-- ---- sources

-- nothing was sent
abbrev pub first_point : SourcePoint
first_point = record { sent = 0; bound = 0 }

-- what was logged below t is sent
abbrev pub emitted_to : ℕ → SourcePoint → SourcePoint
emitted_to t s = record s { sent = max s.sent t }

-- and it was said that this is all
abbrev pub released_to : ℕ → SourcePoint → SourcePoint
released_to t s = record { sent = max s.sent t; bound = max s.bound t }

-- ---- clients

abbrev pub is_undo : Item → Bool
is_undo (Stable k t) = false
is_undo (Tentative t) = false
is_undo (Passed b) = false
is_undo (Boundary b m) = false
is_undo (Undo n) = true
is_undo RecDone = false

abbrev pub is_done : Item → Bool
is_done (Stable k t) = false
is_done (Tentative t) = false
is_done (Passed b) = false
is_done (Boundary b m) = false
is_done (Undo n) = false
is_done RecDone = true

abbrev pub client_point : Plan → ClientState → ClientPoint
client_point plan x =
    record {
      stable = length (reader_of x).stable;
      bound = (reader_of x).bound;
      tentative = length (reader_of x).tentative;
      undos = count_by is_undo x.taken;
      dones = count_by is_done x.taken;
      reads = x.port.chosen;
      settled = client_settled plan x;
    }
