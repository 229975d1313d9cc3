-- What a port holds: what it held when it asked for its session, read on with the first batches of the session.
use Rattle.std.specs.Prelude.{◌≡◌, ℕ, true, false, not, if◌then◌else◌, List, [], ◌∷◌, ◌++◌, length, Option, Some, None, slice_get}
use Rattle.dpc_lists.specs.Lists.{nth}
use Rattle.dpc_model.specs.Reading.{Reader, empty_reader, is_sure, Folded, fold_items}
use Rattle.dpc_model.specs.Inlets.{same_sess, sess_of}
use Rattle.dpc_model.specs.Actors.{role_of, sends_stream, senders_of, readers_of}
use Rattle.dpc_model.specs.declared.actors.Role.{Role}
use Rattle.dpc_model.specs.declared.actors.Role.TheVariants.{Source as IsSource, Node as IsNode, Client as IsClient, Nobody}
use Rattle.dpc_model.specs.Ports.{Port}
use Rattle.dpc_model.specs.Sessions.{Shown}
use Rattle.dpc_model.specs.declared.sessions.Sub.{Sub}
use Rattle.dpc_model.specs.declared.tuples.Item.{Item}
use Rattle.dpc_model.specs.declared.messages.Event.{Event}
use Rattle.dpc_model.specs.declared.messages.Subscribe.{Subscribe}
use Rattle.dpc_model.specs.declared.messages.Message.TheVariants as message
use Rattle.dpc_model.specs.declared.plans.Plan.{Plan}
use Rattle.dpc_model.specs.declared.plans.StreamRef.{StreamRef}
use Rattle.node_model.specs.Mails.{Plain}
use Rattle.node_model.specs.Nodes.{PlainNode, shown}
use Rattle.node_model.specs.Sources.{source_shown}
use Rattle.world_model.specs.Worlds.{World, Envelope, home_of, slot_of, source_at, run, new_world}
use Rattle.world_model.specs.Safe.{HoldsOf}
use Rattle.world_model.specs.Orderly.{items_carried}
use Rattle.world_model.specs.SessionLaw.{Channel, Fits, taken_whole}
use Rattle.law_sessions.specs.Openings.{first_subscription, opened_by}
use Rattle.law_granting.specs.Taken.{index_of, port_of, line_of, IsAnsweredIn}
use Rattle.law_readers.specs.Newest.{subs_of, IsPortOf}

-- these items are the batch of this number in a session
pub record IsBatchOf (l : Channel) (es : List Envelope) (j : ℕ) (items : List Item) : Type 0 where
  pub place : ℕ
  pub envelope : Envelope
  pub there : slice_get es place ≡ Some envelope
  pub index : index_of l envelope ≡ Some j
  pub carried : items_carried envelope.packet ≡ items

abbrev pub joined : List (List Item) → List Item
joined [] = []
joined (items ∷ rest) = items ++ joined rest

-- a port read the first batches of its session, as many as its next index tells, from what it held when it asked for the session
pub record HasRead (plan : Plan) (x : ℕ) (s : StreamRef) (es : List Envelope) (q : Port) : Type 0 where
  pub start : Reader
  pub batches : List (List Item)
  pub many : length batches ≡ q.inlet.next
  pub each : (j : ℕ) (items : List Item) → slice_get batches j ≡ Some items → IsBatchOf (line_of plan x s q) es j items
  pub folded : Folded
  pub read : fold_items start (joined batches) ≡ Some folded
  pub held : q.inlet.held ≡ folded.after
  -- the start is a beginning of the stream, and is what was told to the senders of the stream when the session was asked for
  pub holds : HoldsOf plan s start
  pub asks : (k : ℕ) (e : Envelope) (asked : Subscribe) → slice_get es k ≡ Some e → e.sender ≡ x → sends_stream s (role_of plan e.to) ≡ true → e.packet ≡ Plain (message.Subscribe asked) → same_sess asked.sess q.inlet.sess ≡ true →
      (asked.n ≡ length start.stable) × (asked.tentative ≡ not (is_sure start))
  -- at the opening nothing was held
  pub opening : same_sess (sess_of 1 1) q.inlet.sess ≡ true → start ≡ empty_reader

abbrev pub PortsHaveRead : Plan → List Event → Type 0
PortsHaveRead plan events = (x p : ℕ) (s : StreamRef) (q : Port) → IsPortOf plan x p s → port_of (run plan events) x p ≡ Some q → q.inlet.broken ≡ false → HasRead plan x s (run plan events).envelopes q

-- ---- all batches taken

abbrev pub node_shown : Plan → ℕ → ℕ → Option PlainNode → Option Shown
node_shown plan f r None = None
node_shown plan f r (Some n) = Some (shown (home_of plan (f, r)) n)

-- what a sender that is up shows its readers
abbrev pub shown_by : Plan → World → ℕ → Role → Option Shown
shown_by plan w a (IsSource s) = Some (source_shown plan s (source_at w s))
shown_by plan w a (IsNode f r) = node_shown plan f r (slot_of w a).node
shown_by plan w a (IsClient c) = None
shown_by plan w a Nobody = None

-- a port that is whole took as many batches of its session as the sender that it reads sent in it, and there the session is open
pub record TookAll (plan : Plan) (w : World) (x p : ℕ) (s : StreamRef) (q : Port) (a : ℕ) : Type 0 where
  pub port : port_of w x p ≡ Some q
  pub whole : q.inlet.broken ≡ false
  pub sender : nth 0 (senders_of plan s) q.chosen ≡ a
  pub place : ℕ
  pub sub : Sub
  pub reader : nth 0 (readers_of plan s) place ≡ x
  pub there : slice_get (subs_of w a (role_of plan a)) place ≡ Some sub
  pub kept : sub.kept ≡ Some q.inlet.sess
  pub is_open : sub.is_open ≡ true
  pub all : q.inlet.next ≡ sub.batches

-- what a reader told that held this when it asked for a session; nothing at the opening
abbrev pub told_by : Reader → Channel → Subscribe
told_by start l = if same_sess (sess_of 1 1) l.sess then first_subscription l else record { sess = l.sess; n = length start.stable; tentative = not (is_sure start) }

-- the subscription that a session was opened by, whose reader held this when it asked for it
abbrev pub opening_of : Plan → List Event → Reader → Channel → Subscribe
opening_of plan events start l = opened_by l (told_by start l) (new_world plan) events

-- the port holds the sender's view, from what it held when it asked for its session, which fits the subscription that opened the session
pub record HoldsView (plan : Plan) (events : List Event) (x : ℕ) (s : StreamRef) (q : Port) (shows : Shown) : Type 0 where
  pub read : HasRead plan x s (run plan events).envelopes q
  pub fits : Fits plan s (opening_of plan events read.start (line_of plan x s q)) read.start
  pub view : q.inlet.held ≡ taken_whole plan s (opening_of plan events read.start (line_of plan x s q)) shows read.start

-- where the session was answered in one incarnation of the sender
abbrev pub ViewsAreHeld : Plan → List Event → Type 0
ViewsAreHeld plan events =
    (x p a i : ℕ) (s : StreamRef) (q : Port) (shows : Shown) → IsPortOf plan x p s → TookAll plan (run plan events) x p s q a → IsAnsweredIn plan events (line_of plan x s q) i →
    shown_by plan (run plan events) a (role_of plan a) ≡ Some shows → HoldsView plan events x s q shows
