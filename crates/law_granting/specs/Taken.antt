-- Which batches a reader took in its present session, and which its sender sent in it.
use Rattle.std.specs.Prelude.{◌≡◌, ℕ, ◌+◌, Bool, true, false, ◌&&◌, ◌==◌, if◌then◌else◌, List, [], ◌∷◌, ◌++◌, Option, Some, None, slice_get}
use Rattle.dpc_lists.specs.Lists.{nth, IsPrefixOf}
use Rattle.dpc_model.specs.Inlets.{same_sess, sess_of}
use Rattle.dpc_model.specs.Actors.{role_of, inputs_of, senders_of}
use Rattle.dpc_model.specs.declared.actors.Role.{Role}
use Rattle.dpc_model.specs.declared.actors.Role.TheVariants.{Source as IsSource, Node as IsNode, Client as IsClient, Nobody}
use Rattle.dpc_model.specs.Ports.{Port}
use Rattle.dpc_model.specs.declared.messages.Event.{Event}
use Rattle.dpc_model.specs.declared.messages.Event.TheVariants.{Phase, Emit, Release, Cut, Heal, Crash, Restart, Deliver, Tick, Mill}
use Rattle.dpc_model.specs.declared.messages.Sess.{Sess}
use Rattle.dpc_model.specs.declared.messages.Message.TheVariants as message
use Rattle.dpc_model.specs.declared.plans.Plan.{Plan}
use Rattle.dpc_model.specs.declared.plans.StreamRef.{StreamRef}
use Rattle.node_model.specs.Mails.{Packet, Plain, SnapFor}
use Rattle.node_model.specs.Nodes.{PlainNode}
use Rattle.world_model.specs.Worlds.{World, Envelope, slot_of, client_at, can_come, happens, run, new_world}
use Rattle.world_model.specs.Safe.{EachStep}
use Rattle.world_model.specs.SessionLaw.{Channel}

-- ---- what was sent

-- the index of a batch of a session
abbrev pub index_in : Sess → Packet → Option ℕ
index_in s (Plain (message.Batch u index items)) = if same_sess u s then Some index else None
index_in s (Plain m) = None
index_in s (SnapFor i try snap) = None

-- and of an envelope that its sender sent in it
abbrev pub index_of : Channel → Envelope → Option ℕ
index_of l e = if e.sender == l.sender && e.to == l.reader then index_in l.sess e.packet else None

-- the numbers of the batches that were sent in a session, where the first envelope has number k
abbrev pub batches_in : Channel → ℕ → List Envelope → List ℕ
batches_in l k [] = []
batches_in l k (e ∷ es) = elim (index_of l e) [ None ↦ batches_in l (k + 1) es | Some index ↦ k ∷ batches_in l (k + 1) es ]

-- ---- what was taken

abbrev pub node_port : ℕ → Option PlainNode → Option Port
node_port p None = None
node_port p (Some n) = slice_get n.ports p

abbrev pub role_port : World → ℕ → ℕ → Role → Option Port
role_port w x p (IsNode f r) = node_port p (slot_of w x).node
role_port w x p (IsClient c) = if p == 0 then Some (client_at w c).port else None
role_port w x p (IsSource s) = None
role_port w x p Nobody = None

-- a port of a reader that is up
abbrev pub port_of : World → ℕ → ℕ → Option Port
port_of w x p = role_port w x p (role_of w.plan x)

-- the same session before and after
abbrev pub keeps_session : Option Port → Option Port → Bool
keeps_session (Some q) (Some r) = same_sess q.inlet.sess r.inlet.sess
keeps_session (Some q) None = false
keeps_session None o = false

-- one batch more was taken
abbrev pub takes_one : Option Port → Option Port → Bool
takes_one (Some q) (Some r) = r.inlet.next == q.inlet.next + 1
takes_one (Some q) None = false
takes_one None o = false

abbrev pub delivers : Event → List ℕ
delivers (Deliver k) = k ∷ []
delivers (Phase p) = []
delivers (Emit a t) = []
delivers (Release a t) = []
delivers (Cut a b) = []
delivers (Heal a b) = []
delivers (Crash a) = []
delivers (Restart a i) = []
delivers (Tick a now) = []
delivers (Mill a r) = []

-- the numbers of the batches that a port took in its session, with those that it took before the event
abbrev pub taken_next : List ℕ → Event → Option Port → Option Port → List ℕ
taken_next ks e old new = if keeps_session old new then (if takes_one old new then ks ++ delivers e else ks) else []

abbrev pub taken_from : ℕ → ℕ → List ℕ → World → List Event → List ℕ
taken_from x p ks w [] = ks
taken_from x p ks w (e ∷ events) = taken_from x p (taken_next ks e (port_of w x p) (port_of (happens w e) x p)) (happens w e) events

abbrev pub taken_in : Plan → List Event → ℕ → ℕ → List ℕ
taken_in plan events x p = taken_from x p [] (new_world plan) events

-- the session of a port, with the replica that it reads
abbrev pub line_of : Plan → ℕ → StreamRef → Port → Channel
line_of plan x s q = record { sender = nth 0 (senders_of plan s) q.chosen; reader = x; sess = q.inlet.sess }

-- ---- the batches taken

-- an envelope is the batch of this index in a session
pub record IsBatchAt (l : Channel) (es : List Envelope) (k index : ℕ) : Type 0 where
  pub envelope : Envelope
  pub there : slice_get es k ≡ Some envelope
  pub is_batch : index_of l envelope ≡ Some index

-- the batches that a port took in its session are of the replica that it reads, and numbered from 0 on
abbrev pub TakenInOrder : Plan → List Event → Type 0
TakenInOrder plan events =
    (x p : ℕ) (s : StreamRef) (q : Port) → slice_get (inputs_of plan (role_of plan x)) p ≡ Some s → port_of (run plan events) x p ≡ Some q →
    (j k : ℕ) → slice_get (taken_in plan events x p) j ≡ Some k → IsBatchAt (line_of plan x s q) (run plan events).envelopes k j

-- ---- one answer

-- a subscription to a session comes to its sender
abbrev pub subscribes_packet : Sess → Packet → Bool
subscribes_packet s (Plain (message.Subscribe asked)) = same_sess asked.sess s
subscribes_packet s (Plain m) = false
subscribes_packet s (SnapFor i try snap) = false

abbrev pub envelope_subscribes : Channel → World → Option Envelope → Bool
envelope_subscribes l w None = false
envelope_subscribes l w (Some e) = e.sender == l.reader && e.to == l.sender && subscribes_packet l.sess e.packet && can_come w e

abbrev pub subscribes : Channel → World → Event → Bool
subscribes l w (Deliver k) = envelope_subscribes l w (slice_get w.envelopes k)
subscribes l w (Phase p) = false
subscribes l w (Emit a t) = false
subscribes l w (Release a t) = false
subscribes l w (Cut a b) = false
subscribes l w (Heal a b) = false
subscribes l w (Crash a) = false
subscribes l w (Restart a i) = false
subscribes l w (Tick a now) = false
subscribes l w (Mill a r) = false

-- a sender's incarnation: that of a source is 1
abbrev pub node_inc : Option PlainNode → ℕ
node_inc None = 0
node_inc (Some n) = n.grants.inc

abbrev pub role_inc : World → ℕ → Role → ℕ
role_inc w a (IsSource s) = 1
role_inc w a (IsNode f r) = node_inc (slot_of w a).node
role_inc w a (IsClient c) = 0
role_inc w a Nobody = 0

-- every subscription to the session came to the sender in this incarnation; the session (1,1) was opened in the first one
pub record IsAnsweredIn (plan : Plan) (events : List Event) (l : Channel) (i : ℕ) : Type 0 where
  pub opening : same_sess (sess_of 1 1) l.sess ≡ true → i ≡ 1
  pub subscribed : EachStep (λ w e. subscribes l w e ≡ true → role_inc w l.sender (role_of w.plan l.sender) ≡ i) (new_world plan) events

-- the batches that a reader took in its session are the first ones that the replica which it reads sent in it, in order,
-- each once
abbrev pub PrefixTaken : Plan → List Event → Type 0
PrefixTaken plan events =
    (x p i : ℕ) (s : StreamRef) (q : Port) → slice_get (inputs_of plan (role_of plan x)) p ≡ Some s → port_of (run plan events) x p ≡ Some q →
    IsAnsweredIn plan events (line_of plan x s q) i → IsPrefixOf (taken_in plan events x p) (batches_in (line_of plan x s q) 0 (run plan events).envelopes)
