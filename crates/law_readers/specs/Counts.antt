-- What a node may forget is at most what each client holds.
use Rattle.std.specs.Prelude.{◌≡◌, ℕ, ◌≤◌, List, length, Some, slice_get}
use Rattle.dpc_lists.specs.Lists.{nth}
use Rattle.dpc_model.specs.Actors.{role_of}
use Rattle.dpc_model.specs.declared.actors.Role.TheVariants.{Node as IsNode, Client as IsClient}
use Rattle.dpc_model.specs.declared.messages.Event.{Event}
use Rattle.dpc_model.specs.declared.messages.Message.TheVariants as message
use Rattle.dpc_model.specs.declared.plans.Plan.{Plan}
use Rattle.dpc_model.specs.declared.plans.StreamRef.TheVariants.{Frag}
use Rattle.node_model.specs.Mails.{Snap, Plain, SnapFor}
use Rattle.node_model.specs.Nodes.{PlainNode, own_readers}
use Rattle.node_model.specs.Clients.{client_stream}
use Rattle.world_model.specs.Worlds.{World, Envelope, home_of, client_at, slot_of, run}

-- how many stable tuples a client holds
abbrev pub count_at : World → ℕ → ℕ
count_at w c = length (client_at w c).port.inlet.held.stable

-- a client, as an actor, that reads a fragment
pub record ReadsOf (plan : Plan) (x c f : ℕ) : Type 0 where
  pub client : role_of plan x ≡ IsClient c
  pub stream : client_stream plan c ≡ Frag f

-- nothing is forgotten, in no snapshot either, that a client lacks, and no client is said to hold more than it does
pub record IsKeptFor (plan : Plan) (w : World) (x c f : ℕ) : Type 0 where
  -- the base of a replica that is up, and what the client acknowledged to it
  pub bases : (a r : ℕ) (n : PlainNode) → role_of plan a ≡ IsNode f r → (slot_of w a).node ≡ Some n → n.base ≤ count_at w c
  pub acks : (a r k : ℕ) (n : PlainNode) → role_of plan a ≡ IsNode f r → (slot_of w a).node ≡ Some n → nth 0 (own_readers (home_of plan (f, r))) k ≡ x → (nth (0, 0) n.acks k).1 ≤ count_at w c
  -- snapshots of the fragment, and acknowledgements of the client, however long ago they were sent
  pub snapshots : (k r i try : ℕ) (e : Envelope) (s : Snap) → slice_get w.envelopes k ≡ Some e → role_of plan e.sender ≡ IsNode f r → e.packet ≡ SnapFor i try s → s.base ≤ count_at w c
  pub told : (k i n : ℕ) (e : Envelope) → slice_get w.envelopes k ≡ Some e → role_of plan e.sender ≡ IsClient c → e.packet ≡ Plain (message.Ack i n) → n ≤ count_at w c

abbrev pub ClientsAreKeptFor : Plan → List Event → Type 0
ClientsAreKeptFor plan events = (x c f : ℕ) → ReadsOf plan x c f → IsKeptFor plan (run plan events) x c f
