-- Which subscription opened a session.
use Rattle.std.specs.Prelude.{Bool, false, ◌&&◌, ◌||◌, ◌==◌, if◌then◌else◌, List, [], ◌∷◌, length, drop, Option, Some, None, slice_get, unwrap_or}
use Rattle.dpc_model.specs.Inlets.{same_sess}
use Rattle.dpc_model.specs.declared.messages.Event.{Event}
use Rattle.dpc_model.specs.declared.messages.Event.TheVariants.{Phase, Emit, Release, Cut, Heal, Crash, Restart, Deliver, Tick, Mill}
use Rattle.dpc_model.specs.declared.messages.Message.{Message}
use Rattle.dpc_model.specs.declared.messages.Message.TheVariants as message
use Rattle.dpc_model.specs.declared.messages.Subscribe.{Subscribe}
use Rattle.node_model.specs.Mails.{Packet, Plain, SnapFor}
use Rattle.world_model.specs.Worlds.{World, Envelope, happens}
use Rattle.world_model.specs.SessionLaw.{Channel}

-- at the opening a reader holds nothing
abbrev pub first_subscription : Channel → Subscribe
first_subscription l = record { sess = l.sess; n = 0; tentative = false }

abbrev pub message_asks : Channel → Message → Option Subscribe
message_asks l (message.Subscribe asked) = if same_sess asked.sess l.sess then Some asked else None
message_asks l (message.Batch s index items) = None
message_asks l (message.Truncated s base) = None
message_asks l (message.Beat b) = None
message_asks l (message.Ack i n) = None
message_asks l (message.Ask i n) = None
message_asks l (message.Grant i n) = None
message_asks l (message.SnapAsk i n) = None

abbrev pub packet_asks : Channel → Packet → Option Subscribe
packet_asks l (Plain m) = message_asks l m
packet_asks l (SnapFor i try s) = None

-- the subscription by which an envelope from a session's reader to its sender asks for the session
abbrev pub asks_for : Channel → Envelope → Option Subscribe
asks_for l e = if e.sender == l.reader && e.to == l.sender then packet_asks l e.packet else None

-- the subscription that an event brings
abbrev pub brings : Channel → World → Event → Option Subscribe
brings l w (Deliver k) = elim (slice_get w.envelopes k) [ None ↦ None | Some e ↦ asks_for l e ]
brings l w (Phase p) = None
brings l w (Emit s t) = None
brings l w (Release s t) = None
brings l w (Cut a b) = None
brings l w (Heal a b) = None
brings l w (Crash a) = None
brings l w (Restart a i) = None
brings l w (Tick a now) = None
brings l w (Mill a r) = None

abbrev pub is_first_message : Channel → Message → Bool
is_first_message l (message.Batch s index items) = same_sess s l.sess && index == 0
is_first_message l (message.Subscribe asked) = false
is_first_message l (message.Truncated s base) = false
is_first_message l (message.Beat b) = false
is_first_message l (message.Ack i n) = false
is_first_message l (message.Ask i n) = false
is_first_message l (message.Grant i n) = false
is_first_message l (message.SnapAsk i n) = false

abbrev pub is_first_packet : Channel → Packet → Bool
is_first_packet l (Plain m) = is_first_message l m
is_first_packet l (SnapFor i try s) = false

-- the first batch of a session is among these envelopes
abbrev pub has_first : Channel → List Envelope → Bool
has_first l [] = false
has_first l (e ∷ es) = (e.sender == l.sender && (e.to == l.reader && is_first_packet l e.packet)) || has_first l es

-- the subscription that a session was opened by, after one event more
abbrev pub asked_next : Channel → Subscribe → World → Event → Subscribe
asked_next l asked w e = if has_first l (drop (length w.envelopes) (happens w e).envelopes) then unwrap_or (brings l w e) asked else asked

-- the subscription that a session was opened by: the last one that came to the sender and was answered with the session's
-- first batch, or else the one before these events
abbrev pub opened_by : Channel → Subscribe → World → List Event → Subscribe
opened_by l asked w [] = asked
opened_by l asked w (e ∷ events) = opened_by l (asked_next l asked w e) (happens w e) events
