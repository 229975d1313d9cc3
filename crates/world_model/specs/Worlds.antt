-- The world: all actors, the links, and every envelope that was sent; and what each event makes of it.
use Rattle.std.specs.Prelude.{◌≡◌, ℕ, ◌+◌, ◌-◌, ◌^◌, Bool, true, false, not, ◌&&◌, ◌||◌, ◌==◌, nat_lt, nat_le, if◌then◌else◌, List, [], ◌∷◌, ◌++◌, map, length, filter, drop, Option, Some, None, slice_get, is_some}
use Rattle.dpc_lists.specs.Lists.{nth, changed, range_with_len, list_any, push}
use Rattle.dpc_model.specs.Limits.{most_envelopes, most_items, may_be_milled}
use Rattle.dpc_model.specs.Actors.{role_of, nodes_of, are_linked}
use Rattle.dpc_model.specs.declared.actors.Role.{Role}
use Rattle.dpc_model.specs.declared.actors.Role.TheVariants.{Source as IsSource, Node as IsNode, Client as IsClient, Nobody}
use Rattle.dpc_model.specs.declared.messages.Event.{Event}
use Rattle.dpc_model.specs.declared.messages.Event.TheVariants.{Phase, Emit, Release, Cut, Heal, Crash, Restart, Deliver, Tick, Mill}
use Rattle.dpc_model.specs.declared.messages.Message.{Message}
use Rattle.dpc_model.specs.declared.messages.Message.TheVariants as message
use Rattle.dpc_model.specs.declared.plans.Plan.{Plan}
use Rattle.node_model.specs.Mails.{Snap, Packet, Plain, SnapFor, Mail, Stepped}
use Rattle.node_model.specs.Stands.{snap_output}
use Rattle.node_model.specs.Nodes.{Home, PlainNode, new_node, restarted_node, ready}
use Rattle.node_model.specs.NodeSteps.{packet_step, mill_step, tick_step}
use Rattle.node_model.specs.Sources.{SourceState, new_source, source_emits, source_releases, source_packet_step, source_tick_step}
use Rattle.node_model.specs.Clients.{ClientState, new_client, client_after_packet, client_tick_step, client_settled}

-- ---- the world

-- a packet with its sender and its addressee
pub record Envelope : Type 0 where
  pub sender : ℕ
  pub to : ℕ
  pub packet : Packet

-- a node's last incarnation, and the node where it is up
pub record Slot : Type 0 where
  pub last_inc : ℕ
  pub node : Option PlainNode

-- the actors by sort, the pairs of actors whose link is cut, and every envelope in order of its number
pub record World : Type 0 where
  pub plan : Plan
  pub sources : List SourceState
  pub nodes : List Slot
  pub clients : List ClientState
  pub cuts : List (ℕ × ℕ)
  pub envelopes : List Envelope

-- the place of a node among all nodes, from its actor number
abbrev pub node_place : Plan → ℕ → ℕ
node_place plan a = a - length plan.sources

abbrev pub home_of : Plan → ℕ × ℕ → Home
home_of plan n = record { plan = plan; frag = n.0; replica = n.1 }

-- the world at the opening
unfoldable pub new_world : Plan → World
new_world plan =
    record {
      plan = plan;
      sources = map (new_source plan) (range_with_len 0 (length plan.sources));
      nodes = map (λ n. record { last_inc = 1; node = Some (new_node (home_of plan n)) }) (nodes_of plan);
      clients = map (new_client plan) (range_with_len 0 (length plan.clients));
      cuts = [];
      envelopes = [];
    }

-- ---- links and actors

-- the same two actors, in either order
abbrev pub same_pair : ℕ → ℕ → ℕ × ℕ → Bool
same_pair a b p = (p.0 == a && p.1 == b) || (p.0 == b && p.1 == a)

abbrev pub is_cut : World → ℕ → ℕ → Bool
is_cut w a b = list_any (same_pair a b) w.cuts

-- the two actors have a link, and it is up
abbrev pub link_up : World → ℕ → ℕ → Bool
link_up w a b = are_linked w.plan a b && not (is_cut w a b)

abbrev pub slot_of : World → ℕ → Slot
slot_of w a = nth (record { last_inc = 0; node = None }) w.nodes (node_place w.plan a)

-- the node that an actor is, where it is one and is up
abbrev pub node_role : World → ℕ → Role → Option PlainNode
node_role w a (IsNode f r) = (slot_of w a).node
node_role w a (IsSource s) = None
node_role w a (IsClient c) = None
node_role w a Nobody = None

abbrev pub node_at : World → ℕ → Option PlainNode
node_at w a = node_role w a (role_of w.plan a)

-- an actor is there and is up
abbrev pub role_up : World → ℕ → Role → Bool
role_up w a (IsSource s) = true
role_up w a (IsNode f r) = is_some (slot_of w a).node
role_up w a (IsClient c) = true
role_up w a Nobody = false

abbrev pub is_up : World → ℕ → Bool
is_up w a = role_up w a (role_of w.plan a)

-- ---- what an event leaves

abbrev pub from : ℕ → Mail → Envelope
from a m = record { sender = a; to = m.to; packet = m.packet }

-- an actor's sends become envelopes
abbrev pub sent : ℕ → List Mail → World → World
sent a ms w = record w { envelopes = w.envelopes ++ map (from a) ms }

abbrev pub node_stepped : ℕ → Stepped PlainNode → World → World
node_stepped a s w =
    sent a s.sends (record w { nodes = changed (node_place w.plan a) (λ slot. record slot { node = Some s.after }) w.nodes })

abbrev pub source_stepped : ℕ → Stepped SourceState → World → World
source_stepped a s w = sent a s.sends (record w { sources = changed a (λ _. s.after) w.sources })

abbrev pub client_stepped : ℕ → ℕ → Stepped ClientState → World → World
client_stepped a c s w = sent a s.sends (record w { clients = changed c (λ _. s.after) w.clients })

abbrev pub no_source : SourceState
no_source = record { emitted = 0; bound = 0; subs = []; clock = 0 }

abbrev pub source_at : World → ℕ → SourceState
source_at w s = nth no_source w.sources s

abbrev pub client_at : World → ℕ → ClientState
client_at w c = nth (new_client w.plan c) w.clients c

-- ---- events, each with the cases in which it is void

-- a time of a source's event is from 1 to end
abbrev pub is_release_time : Plan → ℕ → Bool
is_release_time plan t = nat_le 1 t && nat_le t plan.end

abbrev pub emits : World → ℕ → ℕ → Role → World
emits w a t (IsSource s) = if is_release_time w.plan t then source_stepped a (source_emits w.plan s t (source_at w s)) w else w
emits w a t (IsNode f r) = w
emits w a t (IsClient c) = w
emits w a t Nobody = w

abbrev pub releases : World → ℕ → ℕ → Role → World
releases w a t (IsSource s) = if is_release_time w.plan t then source_stepped a (source_releases w.plan s t (source_at w s)) w else w
releases w a t (IsNode f r) = w
releases w a t (IsClient c) = w
releases w a t Nobody = w

abbrev pub cuts_link : World → ℕ → ℕ → World
cuts_link w a b = if link_up w a b then record w { cuts = push w.cuts (a, b) } else w

abbrev pub heals_link : World → ℕ → ℕ → World
heals_link w a b = record w { cuts = filter (λ p. not (same_pair a b p)) w.cuts }

abbrev pub crashes : World → ℕ → Role → World
crashes w a (IsNode f r) = record w { nodes = changed (node_place w.plan a) (λ slot. record slot { node = None }) w.nodes }
crashes w a (IsSource s) = w
crashes w a (IsClient c) = w
crashes w a Nobody = w

abbrev pub restart_slot : Home → ℕ → Slot → Slot
restart_slot home i slot =
    elim slot.node [ Some n ↦ slot | None ↦ (if nat_lt slot.last_inc i then record { last_inc = i; node = Some (restarted_node home i) } else slot) ]

abbrev pub restarts : World → ℕ → ℕ → Role → World
restarts w a i (IsNode f r) = record w { nodes = changed (node_place w.plan a) (restart_slot (home_of w.plan (f, r)) i) w.nodes }
restarts w a i (IsSource s) = w
restarts w a i (IsClient c) = w
restarts w a i Nobody = w

-- the addressee takes an envelope that comes to it
abbrev pub node_takes : World → Envelope → Home → Option PlainNode → World
node_takes w e home None = w
node_takes w e home (Some n) = node_stepped e.to (packet_step home e.sender e.packet n) w

abbrev pub taken_by : World → Envelope → Role → World
taken_by w e (IsSource s) = source_stepped e.to (source_packet_step w.plan s e.sender e.packet (source_at w s)) w
taken_by w e (IsNode f r) = node_takes w e (home_of w.plan (f, r)) (slot_of w e.to).node
taken_by w e (IsClient c) = record w { clients = changed c (client_after_packet w.plan c e.sender e.packet) w.clients }
taken_by w e Nobody = w

-- an envelope comes only over a link that is up, to an actor that is up
abbrev pub can_come : World → Envelope → Bool
can_come w e = link_up w e.sender e.to && is_up w e.to

abbrev pub comes : World → Option Envelope → World
comes w None = w
comes w (Some e) = if can_come w e then taken_by w e (role_of w.plan e.to) else w

-- a clock in an event is at most 2^40, and does not fall
abbrev pub is_clock : ℕ → ℕ → Bool
is_clock old now = nat_le old now && nat_le now (2 ^ 40)

abbrev pub node_ticks : World → ℕ → ℕ → Home → Option PlainNode → World
node_ticks w a now home None = w
node_ticks w a now home (Some n) = if is_clock n.clock now then node_stepped a (tick_step home now n) w else w

abbrev pub ticks : World → ℕ → ℕ → Role → World
ticks w a now (IsSource s) = if is_clock (source_at w s).clock now then source_stepped a (source_tick_step w.plan s now (source_at w s)) w else w
ticks w a now (IsNode f r) = node_ticks w a now (home_of w.plan (f, r)) (slot_of w a).node
ticks w a now (IsClient c) = if is_clock (client_at w c).clock now then client_stepped a c (client_tick_step w.plan c now (client_at w c)) w else w
ticks w a now Nobody = w

abbrev pub can_mill : Home → ℕ → PlainNode → Bool
can_mill home r n = may_be_milled r (ready home n)

abbrev pub node_mills : World → ℕ → ℕ → Home → Option PlainNode → World
node_mills w a r home None = w
node_mills w a r home (Some n) = if can_mill home r n then node_stepped a (mill_step home r n) w else w

abbrev pub mills : World → ℕ → ℕ → Role → World
mills w a r (IsNode f q) = node_mills w a r (home_of w.plan (f, q)) (slot_of w a).node
mills w a r (IsSource s) = w
mills w a r (IsClient c) = w
mills w a r Nobody = w

-- what an event makes of the world. One that may not happen changes nothing
abbrev pub happens : World → Event → World
happens w (Phase p) = w
happens w (Emit a t) = emits w a t (role_of w.plan a)
happens w (Release a t) = releases w a t (role_of w.plan a)
happens w (Cut a b) = cuts_link w a b
happens w (Heal a b) = heals_link w a b
happens w (Crash a) = crashes w a (role_of w.plan a)
happens w (Restart a i) = restarts w a i (role_of w.plan a)
happens w (Deliver k) = comes w (slice_get w.envelopes k)
happens w (Tick a now) = ticks w a now (role_of w.plan a)
happens w (Mill a r) = mills w a r (role_of w.plan a)

-- the world after a list of events, one after another
abbrev pub run_from : World → List Event → World
run_from w [] = w
run_from w (e ∷ events) = run_from (happens w e) events

unfoldable pub run : Plan → List Event → World
run plan events = run_from (new_world plan) events

-- ---- what is told of a world

-- the ready buckets of a node, 0 where it is down
abbrev pub ready_in : Home → Option PlainNode → ℕ
ready_in home None = 0
ready_in home (Some n) = ready home n

abbrev pub ready_role : World → ℕ → Role → ℕ
ready_role w a (IsNode f r) = ready_in (home_of w.plan (f, r)) (slot_of w a).node
ready_role w a (IsSource s) = 0
ready_role w a (IsClient c) = 0
ready_role w a Nobody = 0

abbrev pub ready_at : World → ℕ → ℕ
ready_at w a = ready_role w a (role_of w.plan a)

abbrev pub all_settled : World → Bool
all_settled w = not (list_any (λ x. not (client_settled w.plan x)) w.clients)

-- the tuples that a snapshot of a fragment keeps
abbrev pub kept_tuples : Home → Snap → ℕ
kept_tuples home s = length (drop s.base (snap_output home s))

-- the items of a packet that goes to an actor: those of a batch, or a snapshot's tuples
abbrev pub items_in_message : Message → ℕ
items_in_message (message.Batch s index items) = length items
items_in_message (message.Subscribe asked) = 0
items_in_message (message.Truncated s base) = 0
items_in_message (message.Beat b) = 0
items_in_message (message.Ack i n) = 0
items_in_message (message.Ask i n) = 0
items_in_message (message.Grant i n) = 0
items_in_message (message.SnapAsk i n) = 0

abbrev pub snap_items : Plan → Snap → Role → ℕ
snap_items plan s (IsNode f r) = kept_tuples (home_of plan (f, r)) s
snap_items plan s (IsSource u) = 0
snap_items plan s (IsClient c) = 0
snap_items plan s Nobody = 0

abbrev pub items_in : Plan → ℕ → Packet → ℕ
items_in plan to (Plain m) = items_in_message m
items_in plan to (SnapFor i try s) = snap_items plan s (role_of plan to)

abbrev pub item_count : World → List Envelope → ℕ
item_count w [] = 0
item_count w (e ∷ rest) = items_in w.plan e.to e.packet + item_count w rest

-- ---- the limits of a run

-- how many envelopes were sent, and how many items they carry
pub record Sums : Type 0 where
  pub envelopes : ℕ
  pub items : ℕ

abbrev pub sums_of : World → Sums
sums_of w = record { envelopes = length w.envelopes; items = item_count w w.envelopes }

-- the numbers that an event would reach
abbrev pub sums_after : World → Event → Sums
sums_after w e = sums_of (happens w e)

-- the event would pass a limit
abbrev pub passes_limit : World → Event → Bool
passes_limit w e = let s = sums_after w e in nat_lt most_envelopes s.envelopes || nat_lt most_items s.items

-- an event would pass a limit, and reach these numbers
pub record WouldReach (w : World) (e : Event) (envelopes items : ℕ) : Type 0 where
  pub passes : passes_limit w e ≡ true
  pub sums : sums_after w e ≡ record { envelopes = envelopes; items = items }

-- the numbers that the first event would reach which would pass a limit, where there is one
abbrev pub excess_from : World → List Event → Option Sums
excess_from w [] = None
excess_from w (e ∷ events) = if passes_limit w e then Some (sums_after w e) else excess_from (happens w e) events

abbrev pub excess : Plan → List Event → Option Sums
excess plan events = excess_from (new_world plan) events
