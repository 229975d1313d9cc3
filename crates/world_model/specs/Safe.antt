-- What holds of every run: what is sent is true, what readers hold is a beginning of the failure-free output, and buckets don't wait too long.
use Rattle.std.specs.Prelude.{◌≡◌, ◌≢◌, ⊤, ℕ, ◌+◌, ◌*◌, ◌≤◌, Bool, true, false, IsTrue, nat_lt, List, [], ◌∷◌, map, length, drop, take, Contains, Some, None, IfSome, IsSomeAnd, slice_get}
use Rattle.dpc_model.specs.Actors.{nodes_of}
use Rattle.dpc_lists.specs.Lists.{nth, IsPrefixOf}
use Rattle.dpc_model.specs.Fragments.{ideal, ideal_upto}
use Rattle.dpc_model.specs.Reading.{Reader, empty_reader, is_sure, Folded, fold_items}
use Rattle.dpc_model.specs.Actors.{role_of}
use Rattle.dpc_model.specs.declared.actors.Role.{Role}
use Rattle.dpc_model.specs.declared.actors.Role.TheVariants.{Source as IsSource, Node as IsNode, Client as IsClient, Nobody}
use Rattle.dpc_model.specs.declared.tuples.Tuple.{Tuple}
use Rattle.dpc_model.specs.declared.tuples.Item.{Item}
use Rattle.dpc_model.specs.declared.tuples.Item.TheVariants.{Stable, Tentative, Passed, Boundary, Undo, RecDone}
use Rattle.dpc_model.specs.declared.messages.Event.{Event}
use Rattle.dpc_model.specs.declared.messages.Event.TheVariants.{Phase, Emit, Release, Cut, Heal, Crash, Restart, Deliver, Tick, Mill}
use Rattle.dpc_model.specs.declared.messages.Message.{Message}
use Rattle.dpc_model.specs.declared.messages.Sess.{Sess}
use Rattle.dpc_model.specs.declared.messages.Message.TheVariants as message
use Rattle.dpc_model.specs.declared.plans.Plan.{Plan}
use Rattle.dpc_model.specs.declared.plans.StreamRef.{StreamRef}
use Rattle.dpc_model.specs.declared.plans.StreamRef.TheVariants.{Source, Frag}
use Rattle.dpc_model.specs.Sessions.{tally_of, given_items}
use Rattle.dpc_model.specs.declared.sessions.Sub.{Sub}
use Rattle.node_model.specs.Mails.{Snap, Packet, Plain, SnapFor, Mail, mail, Stepped}
use Rattle.dpc_model.specs.NodeStates.{is_stable, is_stabilization}
use Rattle.node_model.specs.Nodes.{Home, PlainNode, streams_of, own_readers, held_by, out_stable, out_tentative, due_at}
use Rattle.node_model.specs.NodeSteps.{given_by, tick_step}
use Rattle.node_model.specs.Clients.{ClientState, client_stream, reader_of}
use Rattle.world_model.specs.Worlds.{World, Envelope, Slot, home_of, slot_of, new_world, happens, run, is_clock}

-- ---- what is true

-- an item of a stream agrees with the failure-free output
abbrev pub IsTrueItem : Plan → StreamRef → Item → Type 0
IsTrueItem plan s (Stable k t) = slice_get (ideal plan s) k ≡ Some t
IsTrueItem plan s (Boundary b m) = (b ≤ plan.end) × (m ≡ length (ideal_upto plan s b))
IsTrueItem plan s (Tentative t) = ⊤
IsTrueItem plan s (Passed b) = ⊤
IsTrueItem plan s (Undo n) = ⊤
IsTrueItem plan s RecDone = ⊤

abbrev pub AreTrueItems : Plan → StreamRef → List Item → Type 0
AreTrueItems plan s [] = ⊤
AreTrueItems plan s (i ∷ items) = IsTrueItem plan s i × AreTrueItems plan s items

-- a message of the sender of a stream
abbrev pub IsTrueMessage : Plan → StreamRef → Message → Type 0
IsTrueMessage plan s (message.Batch u index items) = AreTrueItems plan s items
IsTrueMessage plan s (message.Subscribe asked) = ⊤
IsTrueMessage plan s (message.Truncated u base) = ⊤
IsTrueMessage plan s (message.Beat b) = ⊤
IsTrueMessage plan s (message.Ack i n) = ⊤
IsTrueMessage plan s (message.Ask i n) = ⊤
IsTrueMessage plan s (message.Grant i n) = ⊤
IsTrueMessage plan s (message.SnapAsk i n) = ⊤

-- the failure-free inputs of a fragment up to a time, by port
abbrev pub ideal_inputs : Plan → ℕ → ℕ → List (List Tuple)
ideal_inputs plan f b = map (λ s. ideal_upto plan s b) (streams_of (home_of plan (f, 0)))

-- a snapshot of a fragment agrees with the failure-free run
pub record IsTrueSnap (plan : Plan) (f : ℕ) (s : Snap) : Type 0 where
  pub within : s.cursor * plan.width ≤ plan.end
  pub inputs : s.inputs ≡ ideal_inputs plan f (s.cursor * plan.width)
  pub base : s.base ≤ length (ideal_upto plan (Frag f) (s.cursor * plan.width))

-- a packet that an actor sent
abbrev pub IsTruePacket : Plan → Role → Packet → Type 0
IsTruePacket plan (IsSource s) (Plain m) = IsTrueMessage plan (Source s) m
IsTruePacket plan (IsNode f r) (Plain m) = IsTrueMessage plan (Frag f) m
IsTruePacket plan (IsNode f r) (SnapFor i try s) = IsTrueSnap plan f s
IsTruePacket plan (IsSource s) (SnapFor i try snap) = ⊥
IsTruePacket plan (IsClient c) (Plain (message.Batch u index items)) = ⊥
IsTruePacket plan (IsClient c) (Plain m) = ⊤
IsTruePacket plan (IsClient c) (SnapFor i try s) = ⊥
IsTruePacket plan Nobody packet = ⊥

abbrev pub IsTrueEnvelope : Plan → Envelope → Type 0
IsTrueEnvelope plan e = IsTruePacket plan (role_of plan e.sender) e.packet

abbrev pub AreTrue : Plan → List Envelope → Type 0
AreTrue plan [] = ⊤
AreTrue plan (e ∷ es) = IsTrueEnvelope plan e × AreTrue plan es

-- ---- the invariant

-- what a reader holds of a stream: its stable tuples are a beginning of the failure-free output, and are all up to the bound
pub record HoldsOf (plan : Plan) (s : StreamRef) (r : Reader) : Type 0 where
  pub stable : IsPrefixOf r.stable (ideal plan s)
  pub within : r.bound ≤ plan.end
  pub bound : length (ideal_upto plan s r.bound) ≤ length r.stable

-- the readers of the ports hold of their streams
abbrev pub EachHolds : Plan → List StreamRef → List Reader → Type 0
EachHolds plan [] [] = ⊤
EachHolds plan (s ∷ streams) (r ∷ readers) = HoldsOf plan s r × EachHolds plan streams readers
EachHolds plan [] (r ∷ readers) = ⊥
EachHolds plan (s ∷ streams) [] = ⊥

-- every port's bound is at or past a time
abbrev pub EachReaches : ℕ → List Reader → Type 0
EachReaches b [] = ⊤
EachReaches b (r ∷ readers) = (b ≤ r.bound) × EachReaches b readers

-- a node that is not recovering has processed what its inputs bound, and its stable output is the failure-free one
pub record IsSafeOutput (home : Home) (n : PlainNode) : Type 0 where
  pub reaches : EachReaches (n.cursor * home.plan.width) (held_by n)
  pub base : n.base ≤ length (out_stable home n)
  pub output : out_stable home n ≡ ideal_upto home.plan (Frag home.frag) (n.cursor * home.plan.width)

pub record IsSafeNode (home : Home) (n : PlainNode) : Type 0 where
  pub inputs : EachHolds home.plan (streams_of home) (held_by n)
  pub output : n.recovering ≡ false → IsSafeOutput home n

abbrev pub IsSafeSlot : Home → Slot → Type 0
IsSafeSlot home slot = IfSome slot.node (λ n. IsSafeNode home n)

abbrev pub AreSafeSlots : Plan → List (ℕ × ℕ) → List Slot → Type 0
AreSafeSlots plan [] [] = ⊤
AreSafeSlots plan (n ∷ ns) (slot ∷ slots) = IsSafeSlot (home_of plan n) slot × AreSafeSlots plan ns slots
AreSafeSlots plan [] (slot ∷ slots) = ⊥
AreSafeSlots plan (n ∷ ns) [] = ⊥

-- a client took RecDone only where nothing was tentative
abbrev pub TookDoneSurely : List Item → Type 0
TookDoneSurely items =
    (i : ℕ) (f : Folded) → slice_get items i ≡ Some RecDone → fold_items empty_reader (take i items) ≡ Some f → IsTrue (is_sure f.after)

-- a client holds of its stream, and what it holds is what it took, folded
pub record IsSafeClient (plan : Plan) (s : StreamRef) (x : ClientState) : Type 0 where
  pub holds : HoldsOf plan s (reader_of x)
  pub folded : fold_items empty_reader x.taken ≡ Some (record { after = reader_of x; taken = x.taken })
  pub done : TookDoneSurely x.taken

abbrev pub AreSafeClients : Plan → ℕ → List ClientState → Type 0
AreSafeClients plan c [] = ⊤
AreSafeClients plan c (x ∷ xs) = IsSafeClient plan (client_stream plan c) x × AreSafeClients plan (c + 1) xs

-- what each event keeps
pub record IsSafeWorld (w : World) (nodes : List (ℕ × ℕ)) : Type 0 where
  pub sent : AreTrue w.plan w.envelopes
  pub nodes_hold : AreSafeSlots w.plan nodes w.nodes
  pub clients_hold : AreSafeClients w.plan 0 w.clients

-- ---- what each event does

abbrev pub has_done : List Item → Bool
has_done [] = false
has_done (RecDone ∷ items) = true
has_done (i ∷ items) = has_done items

abbrev pub packet_done : Packet → Bool
packet_done (Plain (message.Batch u index items)) = has_done items
packet_done (Plain m) = false
packet_done (SnapFor i try s) = false

-- the sender has nothing left to correct: a source, or a node that is up and STABLE with no tentative output
abbrev pub IsDone : World → ℕ → Role → Type 0
IsDone w a (IsSource s) = ⊤
IsDone w a (IsNode f r) =
    IsSomeAnd (slot_of w a).node (λ n. IsTrue (is_stable n.state) × (out_tentative (home_of w.plan (f, r)) n ≡ []))
IsDone w a (IsClient c) = ⊥
IsDone w a Nobody = ⊥

-- each RecDone that an event sent comes of a sender that is done after it
abbrev pub SendsDoneSurely : World → List Envelope → Type 0
SendsDoneSurely after [] = ⊤
SendsDoneSurely after (e ∷ es) = (IsTrue (packet_done e.packet) → IsDone after e.sender (role_of after.plan e.sender)) × SendsDoneSurely after es

-- the batch with an open session's last index, and these items, is among the sends
abbrev pub CarriesLast : List Mail → ℕ → List Item → Sess × ℕ → Type 0
CarriesLast sends to items l = (index : ℕ) × (l.1 ≡ index + 1) × Contains sends (mail to (message.Batch l.0 index items))

-- a tick outside STABILIZATION leaves no bucket due, and what it processed stands in the last batch of every open session
pub record Serves (home : Home) (now : ℕ) (n : PlainNode) (s : Stepped PlainNode) : Type 0 where
  pub nothing_due : due_at home s.after now ≡ None
  pub given : (k : ℕ) → let items = given_items (length (out_stable home n)) (given_by home n s.after (nat_lt n.cursor s.after.cursor) (nat_lt (length n.closed) (length s.after.closed)))
      in items ≢ [] → (sub : Sub) → slice_get s.after.subs k ≡ Some sub → IfSome (tally_of sub) (CarriesLast s.sends (nth 0 (own_readers home) k) items)

abbrev pub ServesAt : World → ℕ → ℕ → Role → Type 0
ServesAt w a now (IsNode f r) =
    IfSome (slot_of w a).node (λ n. let home = home_of w.plan (f, r) in let s = tick_step home now n in
    IsTrue (is_clock n.clock now) → is_stabilization s.after.state ≡ false → Serves home now n s)
ServesAt w a now (IsSource s) = ⊤
ServesAt w a now (IsClient c) = ⊤
ServesAt w a now Nobody = ⊤

abbrev pub TicksServe : World → Event → Type 0
TicksServe w (Tick a now) = ServesAt w a now (role_of w.plan a)
TicksServe w (Phase p) = ⊤
TicksServe w (Emit s t) = ⊤
TicksServe w (Release s t) = ⊤
TicksServe w (Cut a b) = ⊤
TicksServe w (Heal a b) = ⊤
TicksServe w (Crash a) = ⊤
TicksServe w (Restart a i) = ⊤
TicksServe w (Deliver k) = ⊤
TicksServe w (Mill a r) = ⊤

pub record IsSafeStep (w : World) (e : Event) : Type 0 where
  pub done : SendsDoneSurely (happens w e) (drop (length w.envelopes) (happens w e).envelopes)
  pub serves : TicksServe w e

-- a fact of each event of a list and the world before it
abbrev pub EachStep : (World → Event → Type 0) → World → List Event → Type 0
EachStep P w [] = ⊤
EachStep P w (e ∷ events) = P w e × EachStep P (happens w e) events

-- a run is safe: the world after it, and each event of it
pub record IsSafe (plan : Plan) (events : List Event) : Type 0 where
  pub world : IsSafeWorld (run plan events) (nodes_of plan)
  pub steps : EachStep IsSafeStep (new_world plan) events
