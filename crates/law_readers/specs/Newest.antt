-- Which sessions of a port are known of: none that is newer than the port's own.
use Rattle.std.specs.Prelude.{◌≡◌, ⊤, ℕ, ◌≤◌, true, false, List, [], Option, Some, None, IfSome, slice_get}
use Rattle.dpc_lists.specs.Lists.{nth}
use Rattle.dpc_model.specs.Inlets.{is_newer}
use Rattle.dpc_model.specs.Ports.{Port}
use Rattle.dpc_model.specs.Actors.{role_of, inputs_of, sends_stream, readers_of}
use Rattle.dpc_model.specs.declared.actors.Role.{Role}
use Rattle.dpc_model.specs.declared.actors.Role.TheVariants.{Source as IsSource, Node as IsNode, Client as IsClient, Nobody}
use Rattle.dpc_model.specs.declared.sessions.Sub.{Sub}
use Rattle.dpc_model.specs.declared.tuples.Item.{Item}
use Rattle.dpc_model.specs.declared.messages.Event.{Event}
use Rattle.dpc_model.specs.declared.messages.Sess.{Sess}
use Rattle.dpc_model.specs.declared.messages.Subscribe.{Subscribe}
use Rattle.dpc_model.specs.declared.messages.Message.TheVariants as message
use Rattle.dpc_model.specs.declared.plans.Plan.{Plan}
use Rattle.dpc_model.specs.declared.plans.StreamRef.{StreamRef}
use Rattle.node_model.specs.Mails.{Plain}
use Rattle.node_model.specs.Nodes.{PlainNode}
use Rattle.world_model.specs.Worlds.{World, Envelope, Slot, slot_of, source_at, client_at, run}

-- a session is of an incarnation that the node reached, and where the node is up it is not newer than the port's
pub record IsReachedAt (slot : Slot) (p : ℕ) (u : Sess) : Type 0 where
  pub came : u.inc ≤ slot.last_inc
  pub now : IfSome slot.node (λ (n : PlainNode). IfSome (slice_get n.ports p) (λ (q : Port). is_newer u q.inlet.sess ≡ false))

-- a session is not newer than that of a reader's port; a client has one port, and is always up
abbrev pub IsReached : World → ℕ → ℕ → Role → Sess → Type 0
IsReached w x p (IsNode f r) u = IsReachedAt (slot_of w x) p u
IsReached w x p (IsClient c) u = is_newer u (client_at w c).port.inlet.sess ≡ false
IsReached w x p (IsSource s) u = ⊤
IsReached w x p Nobody u = ⊤

abbrev pub node_subs : Option PlainNode → List Sub
node_subs None = []
node_subs (Some n) = n.subs

-- the sessions that a sender that is up keeps
abbrev pub subs_of : World → ℕ → Role → List Sub
subs_of w a (IsSource s) = (source_at w s).subs
subs_of w a (IsNode f r) = node_subs (slot_of w a).node
subs_of w a (IsClient c) = []
subs_of w a Nobody = []

-- a port of a reader, and the only one of its stream
pub record IsPortOf (plan : Plan) (x p : ℕ) (s : StreamRef) : Type 0 where
  pub there : slice_get (inputs_of plan (role_of plan x)) p ≡ Some s
  pub only : (q : ℕ) → slice_get (inputs_of plan (role_of plan x)) q ≡ Some s → q ≡ p

-- whatever the stream's senders keep of the reader, whatever it asked them for, and whatever they sent it, is of no newer session
pub record KnowsNoNewer (plan : Plan) (w : World) (x p : ℕ) (s : StreamRef) : Type 0 where
  pub kept : (a k : ℕ) (sub : Sub) (u : Sess) → sends_stream s (role_of plan a) ≡ true → slice_get (subs_of w a (role_of plan a)) k ≡ Some sub → nth 0 (readers_of plan s) k ≡ x → sub.kept ≡ Some u →
      IsReached w x p (role_of plan x) u
  pub asked : (k : ℕ) (e : Envelope) (asks : Subscribe) → slice_get w.envelopes k ≡ Some e → e.sender ≡ x → sends_stream s (role_of plan e.to) ≡ true → e.packet ≡ Plain (message.Subscribe asks) → IsReached w x p (role_of plan x) asks.sess
  pub batches : (k index : ℕ) (e : Envelope) (u : Sess) (items : List Item) → slice_get w.envelopes k ≡ Some e → e.to ≡ x → sends_stream s (role_of plan e.sender) ≡ true → e.packet ≡ Plain (message.Batch u index items) →
      IsReached w x p (role_of plan x) u
  pub truncated : (k base : ℕ) (e : Envelope) (u : Sess) → slice_get w.envelopes k ≡ Some e → e.to ≡ x → sends_stream s (role_of plan e.sender) ≡ true → e.packet ≡ Plain (message.Truncated u base) → IsReached w x p (role_of plan x) u

abbrev pub NoneIsNewer : Plan → List Event → Type 0
NoneIsNewer plan events = (x p : ℕ) (s : StreamRef) → IsPortOf plan x p s → KnowsNoNewer plan (run plan events) x p s
