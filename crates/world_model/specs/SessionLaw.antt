-- What the items of one session leave at its reader.
use Rattle.std.specs.Prelude.{◌≡◌, ℕ, ◌≤◌, Bool, not, ◌&&◌, ◌==◌, nat_lt, max, if◌then◌else◌, List, [], ◌∷◌, ◌++◌, length, take, drop, Option, Some, None, IfSome, IsSome}
use Rattle.dpc_model.specs.Engines.{from_time}
use Rattle.dpc_model.specs.Fragments.{ideal, ideal_upto}
use Rattle.dpc_model.specs.Reading.{Reader, is_sure, Folded, fold_items}
use Rattle.dpc_model.specs.Inlets.{same_sess}
use Rattle.dpc_model.specs.declared.tuples.Item.{Item}
use Rattle.dpc_model.specs.declared.messages.Event.{Event}
use Rattle.dpc_model.specs.declared.messages.Sess.{Sess}
use Rattle.dpc_model.specs.declared.messages.Subscribe.{Subscribe}
use Rattle.dpc_model.specs.declared.messages.Message.{Message}
use Rattle.dpc_model.specs.declared.messages.Message.TheVariants as message
use Rattle.dpc_model.specs.declared.plans.Plan.{Plan}
use Rattle.dpc_model.specs.declared.plans.StreamRef.{StreamRef}
use Rattle.node_model.specs.Mails.{Packet, Plain, SnapFor}
use Rattle.world_model.specs.Worlds.{World, Envelope, happens, is_up}
use Rattle.dpc_model.specs.Sessions.{Shown}

-- a session between a sender and a reader
pub record Channel : Type 0 where
  pub sender : ℕ
  pub reader : ℕ
  pub sess : Sess

abbrev pub items_for : Channel → Message → List Item
items_for l (message.Batch s index items) = if same_sess s l.sess then items else []
items_for l (message.Subscribe asked) = []
items_for l (message.Truncated s base) = []
items_for l (message.Beat b) = []
items_for l (message.Ack i n) = []
items_for l (message.Ask i n) = []
items_for l (message.Grant i n) = []
items_for l (message.SnapAsk i n) = []

abbrev pub packet_items : Channel → Packet → List Item
packet_items l (Plain m) = items_for l m
packet_items l (SnapFor i try s) = []

-- the items that these envelopes carry in a session
abbrev pub carried : Channel → List Envelope → List Item
carried l [] = []
carried l (e ∷ es) = (if e.sender == l.sender && e.to == l.reader then packet_items l e.packet else []) ++ carried l es

-- the sender was up and is down
abbrev pub goes_down : Channel → World → World → Bool
goes_down l old new = is_up old l.sender && not (is_up new l.sender)

-- all items that the sender sent in a session since it last went down, behind those that it sent before these events
abbrev pub sent_after : Channel → List Item → World → List Event → List Item
sent_after l items w [] = items
sent_after l items w (e ∷ events) =
    let next = happens w e in
    sent_after l ((if goes_down l w next then [] else items) ++ carried l (drop (length w.envelopes) next.envelopes)) next events

-- a reader that may have opened a session with this subscription
pub record Fits (plan : Plan) (s : StreamRef) (asked : Subscribe) (r : Reader) : Type 0 where
  pub stable : r.stable ≡ take asked.n (ideal plan s)
  pub count : length r.stable ≡ asked.n
  pub bound : length (ideal_upto plan s r.bound) ≤ asked.n
  pub tentative : is_sure r ≡ not asked.tentative

abbrev pub bound_of : Option (ℕ × ℕ) → ℕ
bound_of None = 0
bound_of (Some b) = b.0

-- how far tentative output is known to go at a reader with this bound
abbrev pub passed_of : ℕ → Option ℕ → ℕ
passed_of b None = 0
passed_of b (Some v) = if nat_lt b v then v else 0

-- what a reader holds that takes the whole of a session
abbrev pub taken_whole : Plan → StreamRef → Subscribe → Shown → Reader → Reader
taken_whole plan s asked x start =
    let b = max start.bound (bound_of x.bound) in
    record {
      stable = take (max asked.n (length x.stable)) (ideal plan s);
      bound = b;
      tentative = from_time b x.tentative;
      passed = passed_of b x.passed;
    }

-- the items sent in a session have a reading from every start that fits, and leave the sender's view
abbrev pub LeavesView : Plan → StreamRef → Subscribe → Shown → List Item → Type 0
LeavesView plan s asked x items =
    (start : Reader) → Fits plan s asked start → IfSome (fold_items start items) (λ (f : Folded). f.after ≡ taken_whole plan s asked x start)
    × IsSome (fold_items start items)
