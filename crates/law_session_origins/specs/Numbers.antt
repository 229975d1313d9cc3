-- What numbers the senders and readers of a stream have, and that nobody reads a stream twice.
use Rattle.std.specs.Prelude.{◌≡◌, ℕ, zero, suc, ◌+◌, ◌<◌, if◌then◌else◌, List, [], ◌∷◌, ◌++◌, length, Some, slice_get}
use Rattle.dpc_lists.specs.Lists.{nth, list_any, range_with_len}
use Rattle.dpc_model.specs.Actors.{role_of, inputs_of, senders_of, readers_of, replicas_of, same_stream}
use Rattle.dpc_model.specs.Ports.{sender_at}
use Rattle.dpc_model.specs.declared.actors.Role.TheVariants.{Source as IsSource, Node as IsNode, Client as IsClient}
use Rattle.dpc_model.specs.declared.plans.ClientSpec.{ClientSpec}
use Rattle.dpc_model.specs.declared.plans.FragSpec.{FragSpec}
use Rattle.dpc_model.specs.declared.plans.Plan.{Plan}
use Rattle.dpc_model.specs.declared.plans.StreamRef.{StreamRef}
use Rattle.dpc_model.specs.declared.plans.StreamRef.TheVariants.{Source, Frag}
use Rattle.node_model.specs.Nodes.{no_fragment}

-- ---- numbers

-- the replicas of the fragments before one
abbrev pub replicas_before : ℕ → List FragSpec → ℕ
replicas_before zero frags = 0
replicas_before (suc f) [] = 0
replicas_before (suc f) (frag ∷ frags) = frag.replicas + replicas_before f frags

-- the first replica of a fragment, as an actor; behind the last fragment it is the first client
abbrev pub first_replica : Plan → ℕ → ℕ
first_replica plan f = length plan.sources + replicas_before f plan.frags

abbrev pub replicas_at : Plan → ℕ → ℕ
replicas_at plan f = (nth no_fragment plan.frags f).replicas

-- the replicas of the fragments that read a stream, where the first fragment's first replica is this actor
abbrev pub replicas_reading : StreamRef → ℕ → List FragSpec → List ℕ
replicas_reading s a [] = []
replicas_reading s a (frag ∷ frags) = (if list_any (same_stream s) frag.inputs then range_with_len a frag.replicas else []) ++ replicas_reading s (a + frag.replicas) frags

-- the clients that read a stream, where the first one is this actor
abbrev pub clients_reading : StreamRef → ℕ → List ClientSpec → List ℕ
clients_reading s a [] = []
clients_reading s a (client ∷ clients) = if same_stream s client.input then a ∷ clients_reading s (a + 1) clients else clients_reading s (a + 1) clients

-- the sources have the first numbers, then come the replicas, fragment by fragment, and then the clients;
-- a source is its stream's only sender, under its own number; a fragment's replicas are consecutive actors, behind the sources and
-- the fragments before it; and the readers of a stream are the replicas of the fragments that read it, and then the clients
pub record HasNumbers (plan : Plan) : Type 0 where
  pub source_role : (s : ℕ) → s < length plan.sources → role_of plan s ≡ IsSource s
  pub node_role : (f r : ℕ) → r < replicas_at plan f → role_of plan (first_replica plan f + r) ≡ IsNode f r
  pub client_role : (c : ℕ) → c < length plan.clients → role_of plan (first_replica plan (length plan.frags) + c) ≡ IsClient c
  pub source : (s : ℕ) → s < length plan.sources → senders_of plan (Source s) ≡ s ∷ []
  pub fragment : (f : ℕ) → senders_of plan (Frag f) ≡ range_with_len (first_replica plan f) (replicas_at plan f)
  pub replicas : (f : ℕ) → replicas_of plan f ≡ range_with_len (first_replica plan f) (replicas_at plan f)
  pub readers : (s : StreamRef) → readers_of plan s ≡ replicas_reading s (length plan.sources) plan.frags ++ clients_reading s (first_replica plan (length plan.frags)) plan.clients

-- ---- ports

-- no actor reads a stream at two ports
abbrev pub ReadsOnce : Plan → Type 0
ReadsOnce plan = (x i j : ℕ) (s : StreamRef) → slice_get (inputs_of plan (role_of plan x)) i ≡ Some s → slice_get (inputs_of plan (role_of plan x)) j ≡ Some s → i ≡ j

-- so the port and the number by which a reader knows a sender are those under which the sender is among the senders of the port's stream
abbrev pub FindsSenders : Plan → Type 0
FindsSenders plan =
    (x p r a : ℕ) (s : StreamRef) → slice_get (inputs_of plan (role_of plan x)) p ≡ Some s → slice_get (senders_of plan s) r ≡ Some a → sender_at plan (inputs_of plan (role_of plan x)) a ≡ Some (p, r)
