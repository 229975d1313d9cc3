-- What every event keeps beside what is safe: without it a step could break what is safe.
use Rattle.std.specs.Prelude.{◌≡◌, ℕ, ◌+◌, Bool, true, false, not, ◌&&◌, ◌||◌, ◌==◌, nat_lt, nat_le, min, if◌then◌else◌, List, [], ◌∷◌, length, map, IfSome}
use Rattle.dpc_lists.specs.Lists.{nth, is_nil, least, list_all, numbered}
use Rattle.dpc_model.specs.Streams.{count_below}
use Rattle.dpc_model.specs.Fragments.{log_of}
use Rattle.dpc_model.specs.Columns.{stream_columns}
use Rattle.dpc_model.specs.Engines.{lies_in, is_serial}
use Rattle.dpc_model.specs.Reading.{Reader, is_sure}
use Rattle.dpc_model.specs.Inlets.{InletState}
use Rattle.dpc_model.specs.Actors.{role_of, reads_from, are_peers, senders_of}
use Rattle.dpc_model.specs.declared.actors.Role.{Role}
use Rattle.dpc_model.specs.declared.actors.Role.TheVariants.{Source as IsSource, Node as IsNode, Client as IsClient, Nobody}
use Rattle.dpc_model.specs.Ports.{Port}
use Rattle.dpc_model.specs.Sessions.{Acked}
use Rattle.dpc_model.specs.declared.sessions.Sub.{Sub}
use Rattle.dpc_model.specs.declared.tuples.Tuple.{Tuple}
use Rattle.dpc_model.specs.declared.tuples.Tagged.{Tagged}
use Rattle.dpc_model.specs.declared.tuples.Item.{Item}
use Rattle.dpc_model.specs.declared.tuples.Item.TheVariants.{Stable, Tentative, Passed, Boundary, Undo, RecDone}
use Rattle.dpc_model.specs.declared.messages.Message.{Message}
use Rattle.dpc_model.specs.declared.messages.Message.TheVariants as message
use Rattle.dpc_model.specs.declared.plans.Plan.{Plan}
use Rattle.dpc_model.specs.declared.plans.StreamRef.{StreamRef}
use Rattle.dpc_model.specs.declared.plans.StreamRef.TheVariants.{Source, Frag}
use Rattle.node_model.specs.Mails.{Packet, Plain, SnapFor}
use Rattle.dpc_model.specs.NodeStates.{is_up_failure, is_stabilization}
use Rattle.node_model.specs.Nodes.{Home, spec_of, streams_of, own_readers, buckets_of, PlainNode, node_frontier, out_stable}
use Rattle.node_model.specs.Sources.{SourceState, source_readers}
use Rattle.node_model.specs.Clients.{ClientState, client_stream}
use Rattle.world_model.specs.Worlds.{World, Envelope, Slot, home_of}

-- ---- envelopes

-- items go from a sender to a reader of its stream, subscriptions and acknowledgements the other way, and what concerns
-- asking and snapshots between replicas of one fragment
abbrev pub message_way : Plan → Role → Role → Message → Bool
message_way plan from to (message.Batch s index items) = reads_from plan to from
message_way plan from to (message.Truncated s base) = reads_from plan to from
message_way plan from to (message.Subscribe asked) = reads_from plan from to
message_way plan from to (message.Ack i n) = reads_from plan from to
message_way plan from to (message.Beat b) = reads_from plan to from || are_peers from to
message_way plan from to (message.Ask i n) = are_peers from to
message_way plan from to (message.Grant i n) = are_peers from to
message_way plan from to (message.SnapAsk i n) = are_peers from to

abbrev pub packet_way : Plan → Role → Role → Packet → Bool
packet_way plan from to (Plain m) = message_way plan from to m
packet_way plan from to (SnapFor i try s) = are_peers from to

-- a tuple of a stream lies below end, and has the stream's columns
abbrev pub fits_stream : Plan → StreamRef → Tuple → Bool
fits_stream plan s t = nat_lt t.stime plan.end && length t.vals == stream_columns plan s

-- tuples fit, times lie within the run, and a passed mark is told only where the plan is passing
abbrev pub item_fits : Plan → StreamRef → Item → Bool
item_fits plan s (Stable k t) = fits_stream plan s t
item_fits plan s (Tentative t) = fits_stream plan s t
item_fits plan s (Passed b) = plan.passing && nat_le b plan.end
item_fits plan s (Boundary b m) = nat_le b plan.end
item_fits plan s (Undo n) = true
item_fits plan s RecDone = true

abbrev pub items_carried : Packet → List Item
items_carried (Plain (message.Batch s index items)) = items
items_carried (Plain m) = []
items_carried (SnapFor i try s) = []

abbrev pub carries_fitting : Plan → Role → Packet → Bool
carries_fitting plan (IsSource s) p = list_all (item_fits plan (Source s)) (items_carried p)
carries_fitting plan (IsNode f r) p = list_all (item_fits plan (Frag f)) (items_carried p)
carries_fitting plan (IsClient c) p = is_nil (items_carried p)
carries_fitting plan Nobody p = false

abbrev pub is_fitting : Plan → Envelope → Bool
is_fitting plan e =
    let from = role_of plan e.sender in packet_way plan from (role_of plan e.to) e.packet && carries_fitting plan from e.packet

-- ---- readers

-- a passed mark is 0; where the plan is passing, it may also lie above the bound
abbrev pub is_passed_mark : Plan → ℕ → ℕ → Bool
is_passed_mark plan bound passed = passed == 0 || (plan.passing && nat_lt bound passed)

-- tentative tuples lie at or past the bound, and so does the passed mark; the tuples need not be in order of time
abbrev pub is_tentative_past : Plan → Reader → Bool
is_tentative_past plan r = list_all (λ (t : Tuple). nat_le r.bound t.stime) r.tentative && is_passed_mark plan r.bound r.passed

-- a port's session is of the reader's incarnation, with a number within a limit, it reads one of the stream's senders,
-- and its tentative tuples fit the stream
abbrev pub is_port_sound : Plan → StreamRef → ℕ → ℕ → Port → Bool
is_port_sound plan s i most p =
    is_tentative_past plan p.inlet.held && p.inlet.sess.inc == i && nat_le p.inlet.sess.number most
    && length p.watches == length (senders_of plan s) && nat_lt p.chosen (length p.watches) && list_all (fits_stream plan s) p.inlet.held.tentative

abbrev pub are_ports_sound : Plan → ℕ → ℕ → List StreamRef → List Port → Bool
are_ports_sound plan i most [] [] = true
are_ports_sound plan i most (s ∷ streams) (p ∷ ports) = is_port_sound plan s i most p && are_ports_sound plan i most streams ports
are_ports_sound plan i most [] (p ∷ ports) = false
are_ports_sound plan i most (s ∷ streams) [] = false

-- ---- nodes

-- outside a recovery a node is UP_FAILURE exactly where a bucket is closed, and closes none while it reconciles
abbrev pub has_state_of_closed : PlainNode → Bool
has_state_of_closed n = n.recovering || (if is_nil n.closed then not (is_up_failure n.state) else is_up_failure n.state)

-- an inlet that waits to ask for its first session
abbrev pub waits_to_ask : InletState → Bool
waits_to_ask inlet = inlet.broken && not inlet.answered && inlet.next == 0

abbrev pub holds_nothing : Reader → Bool
holds_nothing r = is_nil r.stable && r.bound == 0 && is_sure r

-- a node that recovers is in STABILIZATION and holds nothing
abbrev pub recovers_empty : PlainNode → Bool
recovers_empty n =
    not n.recovering
    || (is_stabilization n.state && list_all (λ (p : Port). waits_to_ask p.inlet && holds_nothing p.inlet.held) n.ports
    && is_nil n.stamps && is_nil n.closed && n.cursor == 0 && n.base == 0 && list_all (λ (a : Acked). a.0 == 0 && a.1 == 0) n.acks
    && list_all (λ (sub : Sub). not sub.is_open) n.subs && not n.grants.running)

abbrev pub has_columns : ℕ → Tuple → Bool
has_columns c t = length t.vals == c

-- the columns of the streams that a node reads, by port
abbrev pub port_columns : Home → List ℕ
port_columns home = map (stream_columns home.plan) (streams_of home)

-- a tagged tuple has the columns of its port
abbrev pub fits_port : List ℕ → Tagged → Bool
fits_port columns x = has_columns (nth 0 columns x.port) x.tuple

-- the closed buckets are those from the cursor on, each in serial order with the columns of the ports, and none lies past end
abbrev pub closed_in_place : Home → PlainNode → Bool
closed_in_place home n =
    list_all (λ (b : ℕ × List Tagged). list_all (lies_in home.plan.width (n.cursor + b.0)) b.1 && is_serial b.1 && list_all (fits_port (port_columns home)) b.1) (numbered n.closed)
    && nat_le (node_frontier n) (buckets_of home.plan)

-- stamps are of buckets that are still to be processed stably
abbrev pub stamps_in_place : Home → PlainNode → Bool
stamps_in_place home n = list_all (λ (s : ℕ × ℕ). nat_le n.cursor s.0 && nat_lt s.0 (buckets_of home.plan)) n.stamps

-- what every reader acknowledged is not kept any more
abbrev pub base_follows : Home → PlainNode → Bool
base_follows home n = nat_le (min (least 0 (map (λ (a : Acked). a.1) n.acks)) (length (out_stable home n))) n.base

-- one entry for each reader and each replica, and numbers of asks and tries within a limit
abbrev pub has_shape : Home → ℕ → PlainNode → Bool
has_shape home most n =
    length n.subs == length (own_readers home) && length n.acks == length (own_readers home)
    && length n.peers == (spec_of home).replicas && length n.grants.heard == (spec_of home).replicas
    && n.grants.me == home.replica && nat_le n.tries most && nat_le n.grants.over most

pub record IsOrderlyNode (home : Home) (most : ℕ) (n : PlainNode) : Type 0 where
  pub ports : are_ports_sound home.plan n.grants.inc most (streams_of home) n.ports ≡ true
  pub state : has_state_of_closed n ≡ true
  pub recovering : recovers_empty n ≡ true
  pub closed : closed_in_place home n ≡ true
  pub stamps : stamps_in_place home n ≡ true
  pub base : n.recovering ≡ false → base_follows home n ≡ true
  pub shape : has_shape home most n ≡ true

-- ---- sources and clients

-- a source has emitted what lies below its boundary
abbrev pub is_source_orderly : Plan → ℕ → SourceState → Bool
is_source_orderly plan s x =
    nat_le x.bound plan.end && nat_le (count_below (log_of plan s) x.bound) x.emitted && nat_le x.emitted (length (log_of plan s))
    && length x.subs == length (source_readers plan s)

abbrev pub are_sources_orderly : Plan → ℕ → List SourceState → Bool
are_sources_orderly plan s [] = true
are_sources_orderly plan s (x ∷ xs) = is_source_orderly plan s x && are_sources_orderly plan (s + 1) xs

abbrev pub are_clients_orderly : Plan → ℕ → ℕ → List ClientState → Bool
are_clients_orderly plan most c [] = true
are_clients_orderly plan most c (x ∷ xs) = is_port_sound plan (client_stream plan c) 1 most x.port && are_clients_orderly plan most (c + 1) xs

-- ---- the world

abbrev pub AreOrderlySlots : Plan → ℕ → List (ℕ × ℕ) → List Slot → Type 0
AreOrderlySlots plan most [] [] = Unit {0}
AreOrderlySlots plan most (n ∷ ns) (slot ∷ slots) = IfSome slot.node (λ x. IsOrderlyNode (home_of plan n) most x) × AreOrderlySlots plan most ns slots
AreOrderlySlots plan most [] (slot ∷ slots) = ⊥
AreOrderlySlots plan most (n ∷ ns) [] = ⊥

-- what each event keeps; the limit on sessions, asks and tries is the number of events plus 1
pub record IsOrderlyWorld (w : World) (nodes : List (ℕ × ℕ)) (most : ℕ) : Type 0 where
  pub sent : list_all (is_fitting w.plan) w.envelopes ≡ true
  pub sources : are_sources_orderly w.plan 0 w.sources ≡ true
  pub nodes_up : AreOrderlySlots w.plan most nodes w.nodes
  pub clients : are_clients_orderly w.plan most 0 w.clients ≡ true
