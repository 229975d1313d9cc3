-- No clock is ahead of its phase, so a tick that may come next is not void.
use Rattle.std.proofs.Common.{◌≡◌, ℕ, zero, suc, ◌≤◌, Bool, true, false, cond, ◌==◌, nat_lt, List, [], ◌∷◌, map, length, refl, arith, Option, Some, None, slice_get}
use Rattle.dpc_lists.specs.Lists.{nth, changed, range_with_len, push, place_of}
use Rattle.dpc_model.specs.Actors.{role_of, nodes_of}
use Rattle.dpc_model.specs.declared.actors.Role.{Role}
use Rattle.dpc_model.specs.declared.actors.Role.TheVariants.{Source as IsSource, Node as IsNode, Client as IsClient, Nobody}
use Rattle.dpc_model.specs.Ports.{sender_at}
use Rattle.dpc_model.specs.Inlets.{take_batch}
use Rattle.dpc_model.specs.declared.batches.Taken.{Taken}
use Rattle.dpc_model.specs.declared.batches.Taken.TheVariants.{Used, Old, Broken}
use Rattle.dpc_model.specs.declared.messages.Event.{Event}
use Rattle.dpc_model.specs.declared.messages.Event.TheVariants.{Phase, Emit, Release, Cut, Heal, Crash, Restart, Deliver, Tick, Mill}
use Rattle.dpc_model.specs.declared.messages.Message.{Message}
use Rattle.dpc_model.specs.declared.messages.Message.TheVariants as message
use Rattle.dpc_model.specs.declared.messages.Subscribe.{Subscribe}
use Rattle.dpc_model.specs.declared.plans.Plan.{Plan}
use Rattle.node_model.specs.Mails.{Packet, Plain, SnapFor, Stepped}
use Rattle.node_model.specs.Nodes.{Home, PlainNode, new_node, restarted_node}
use Rattle.node_model.specs.NodeSteps.{packet_step, mill_step, tick_step}
use Rattle.node_model.specs.Sources.{SourceState, new_source, source_readers, source_emits, source_releases, source_subscribed, source_message, source_packet_step, source_tick_step}
use Rattle.node_model.specs.Clients.{ClientState, new_client, client_stream, with_taken, client_after_batch, client_message, client_packet, client_marks_ended, client_after_packet, client_tick_step}
use Rattle.world_model.specs.Worlds.{World, Envelope, Slot, home_of, node_place, slot_of, source_at, client_at, no_source, node_stepped, source_stepped, client_stepped, is_release_time, is_clock, emits, releases, link_up, crashes, restart_slot, restarts, node_takes, taken_by, can_come, comes, node_ticks, ticks, can_mill, node_mills, mills, happens, new_world}
use Rattle.dpc_lists.proofs.Each.{Each, each-weaker}
use Rattle.law_schedules.proofs.Nodes.{delivered-clock, ticked-clock, milled-moves}

-- ---- steps of sources and clients

emits-clock : (plan : Plan) (s t : ℕ) (x : SourceState) → (source_emits plan s t x).after.clock ≡ x.clock
unfolding source_emits
emits-clock plan s t x = refl

releases-clock : (plan : Plan) (s t : ℕ) (x : SourceState) → (source_releases plan s t x).after.clock ≡ x.clock
unfolding source_releases
releases-clock plan s t x = refl

subscribed-clock : (plan : Plan) (s : ℕ) (asked : Subscribe) (o : Option ℕ) (x : SourceState) → (source_subscribed plan s asked o x).after.clock ≡ x.clock
subscribed-clock plan s asked None x = refl
subscribed-clock plan s asked (Some k) x = refl

source-message-clock : (plan : Plan) (s a : ℕ) (m : Message) (x : SourceState) → (source_message plan s a m x).after.clock ≡ x.clock
source-message-clock plan s a (message.Subscribe asked) x = subscribed-clock plan s asked (place_of (λ b. a == b) (source_readers plan s)) x
source-message-clock plan s a (message.Batch u index items) x = refl
source-message-clock plan s a (message.Truncated u base) x = refl
source-message-clock plan s a (message.Beat b) x = refl
source-message-clock plan s a (message.Ack i n) x = refl
source-message-clock plan s a (message.Ask i n) x = refl
source-message-clock plan s a (message.Grant i n) x = refl
source-message-clock plan s a (message.SnapAsk i n) x = refl

source-delivered-clock : (plan : Plan) (s a : ℕ) (p : Packet) (x : SourceState) → (source_packet_step plan s a p x).after.clock ≡ x.clock
unfolding source_packet_step
source-delivered-clock plan s a (Plain m) x = source-message-clock plan s a m x
source-delivered-clock plan s a (SnapFor i try snap) x = refl

source-ticked-clock : (plan : Plan) (s now : ℕ) (x : SourceState) → (source_tick_step plan s now x).after.clock ≡ now
unfolding source_tick_step
source-ticked-clock plan s now x = refl

keeping-clock : (t : Taken) (x : ClientState) → (with_taken t x).clock ≡ x.clock
keeping-clock (Used items) x = refl
keeping-clock Old x = refl
keeping-clock Broken x = refl

client-message-clock : (r : ℕ) (m : Message) (x : ClientState) → (client_message r m x).clock ≡ x.clock
client-message-clock r (message.Batch s index items) x =
    elim (x.port.chosen == r) as (λ b. ClientState.clock (cond b (client_after_batch (take_batch x.port.inlet s index items) x) x) ≡ x.clock) [
      | true ↦ keeping-clock (take_batch x.port.inlet s index items).answer (record x { port = record x.port { inlet = (take_batch x.port.inlet s index items).after } })
      | false ↦ refl
    ]
client-message-clock r (message.Truncated s base) x = refl
client-message-clock r (message.Beat b) x = refl
client-message-clock r (message.Subscribe asked) x = refl
client-message-clock r (message.Ack i n) x = refl
client-message-clock r (message.Ask i n) x = refl
client-message-clock r (message.Grant i n) x = refl
client-message-clock r (message.SnapAsk i n) x = refl

client-packet-clock : (o : Option (ℕ × ℕ)) (p : Packet) (x : ClientState) → (client_packet o p x).clock ≡ x.clock
client-packet-clock None p x = refl
client-packet-clock (Some (p, r)) (Plain m) x = client-message-clock r m x
client-packet-clock (Some (p, r)) (SnapFor i try snap) x = refl

client-delivered-clock : (plan : Plan) (c a : ℕ) (p : Packet) (x : ClientState) → (client_after_packet plan c a p x).clock ≡ x.clock
unfolding client_after_packet
client-delivered-clock plan c a p x = client-packet-clock (sender_at plan (client_stream plan c ∷ []) a) p (client_marks_ended x)

client-ticked-clock : (plan : Plan) (c now : ℕ) (x : ClientState) → (client_tick_step plan c now x).after.clock ≡ now
unfolding client_tick_step
client-ticked-clock plan c now x = refl

-- ---- the clocks of a world

each-changed : {X : Type 0} (P : X → Type 0) (k : ℕ) (f : X → X) (xs : List X) → ((x : X) → P x → P (f x)) → Each P xs → Each P (changed k f xs)
each-changed P k f [] h e = tt
each-changed P zero f (x ∷ xs) h e = (h x e.0, e.1)
each-changed P (suc k) f (x ∷ xs) h e = (e.0, each-changed P k f xs h e.1)

each-nth : {X : Type 0} (P : X → Type 0) (d : X) (xs : List X) (i : ℕ) → P d → Each P xs → P (nth d xs i)
each-nth P d [] i k e = k
each-nth P d (x ∷ xs) zero k e = e.0
each-nth P d (x ∷ xs) (suc i) k e = each-nth P d xs i k e.1

each-map : {X Y : Type 0} (P : X → Type 0) (f : Y → X) (ys : List Y) → ((y : Y) → P (f y)) → Each P (map f ys)
each-map P f [] h = tt
each-map P f (y ∷ ys) h = (h y, each-map P f ys h)

abbrev pub ClockWithin : ℕ → Option PlainNode → Type 0
ClockWithin c None = Unit {0}
ClockWithin c (Some n) = n.clock ≤ c

-- no clock is above this one
pub record IsTimely (c : ℕ) (w : World) : Type 0 where
  pub sources : Each (λ (x : SourceState). x.clock ≤ c) w.sources
  pub slots : Each (λ (x : Slot). ClockWithin c x.node) w.nodes
  pub clients : Each (λ (x : ClientState). x.clock ≤ c) w.clients

pub timely-later : (c d : ℕ) (w : World) → c ≤ d → IsTimely c w → IsTimely d w
timely-later c d w h t =
    record {
      sources = each-weaker (λ (x : SourceState). x.clock ≤ c) (λ (x : SourceState). x.clock ≤ d) w.sources (λ x k. omega (arith, k, h)) t.sources;
      slots = each-weaker (λ (x : Slot). ClockWithin c x.node) (λ (x : Slot). ClockWithin d x.node) w.nodes (λ x k. by-node x.node k) t.slots;
      clients = each-weaker (λ (x : ClientState). x.clock ≤ c) (λ (x : ClientState). x.clock ≤ d) w.clients (λ x k. omega (arith, k, h)) t.clients;
    }
  where
    by-node : (o : Option PlainNode) → ClockWithin c o → ClockWithin d o
    by-node None k = tt
    by-node (Some n) k = omega (arith, k, h)

new_source-clock : (plan : Plan) (s : ℕ) → (new_source plan s).clock ≡ 0
unfolding new_source
new_source-clock plan s = refl

new_node-clock : (home : Home) → (new_node home).clock ≡ 0
unfolding new_node
new_node-clock home = refl

restarted-clock : (home : Home) (i : ℕ) → (restarted_node home i).clock ≡ 0
unfolding restarted_node
restarted-clock home i = refl

new_client-clock : (plan : Plan) (c : ℕ) → (new_client plan c).clock ≡ 0
unfolding new_client
new_client-clock plan c = refl

pub new-timely : (plan : Plan) (c : ℕ) → IsTimely c (new_world plan)
unfolding new_world
new-timely plan c =
    record {
      sources = each-map (λ (x : SourceState). x.clock ≤ c) (new_source plan) (range_with_len 0 (length plan.sources)) (λ s. let e = new_source-clock plan s in omega (arith, e));
      slots = each-map (λ (x : Slot). ClockWithin c x.node) (λ (n : ℕ × ℕ). record { last_inc = 1; node = Some (new_node (home_of plan n)) }) (nodes_of plan) (λ n. let e = new_node-clock (home_of plan n) in omega (arith, e));
      clients = each-map (λ (x : ClientState). x.clock ≤ c) (new_client plan) (range_with_len 0 (length plan.clients)) (λ k. let e = new_client-clock plan k in omega (arith, e));
    }

pub source-clock : (c : ℕ) (w : World) (s : ℕ) → IsTimely c w → (source_at w s).clock ≤ c
source-clock c w s t = each-nth (λ (x : SourceState). x.clock ≤ c) no_source w.sources s (omega arith) t.sources

pub client-clock : (c : ℕ) (w : World) (k : ℕ) → IsTimely c w → (client_at w k).clock ≤ c
client-clock c w k t = each-nth (λ (x : ClientState). x.clock ≤ c) (new_client w.plan k) w.clients k (let e = new_client-clock w.plan k in omega (arith, e)) t.clients

pub node-clock : (c : ℕ) (w : World) (a : ℕ) → IsTimely c w → ClockWithin c (slot_of w a).node
node-clock c w a t = each-nth (λ (x : Slot). ClockWithin c x.node) (record { last_inc = 0; node = None }) w.nodes (node_place w.plan a) tt t.slots

-- ---- steps

node-timely : (c : ℕ) (w : World) (a : ℕ) (s : Stepped PlainNode) → s.after.clock ≤ c → IsTimely c w → IsTimely c (node_stepped a s w)
node-timely c w a s h t =
    record { sources = t.sources; slots = each-changed (λ (x : Slot). ClockWithin c x.node) (node_place w.plan a) (λ slot. record slot { node = Some s.after }) w.nodes (λ x k. h) t.slots; clients = t.clients }

source-timely : (c : ℕ) (w : World) (a : ℕ) (s : Stepped SourceState) → s.after.clock ≤ c → IsTimely c w → IsTimely c (source_stepped a s w)
source-timely c w a s h t = record { sources = each-changed (λ (x : SourceState). x.clock ≤ c) a (λ _. s.after) w.sources (λ x k. h) t.sources; slots = t.slots; clients = t.clients }

client-timely : (c : ℕ) (w : World) (a k : ℕ) (s : Stepped ClientState) → s.after.clock ≤ c → IsTimely c w → IsTimely c (client_stepped a k s w)
client-timely c w a k s h t = record { sources = t.sources; slots = t.slots; clients = each-changed (λ (x : ClientState). x.clock ≤ c) k (λ _. s.after) w.clients (λ x e. h) t.clients }

-- ---- events

taken-timely : (c : ℕ) (w : World) (e : Envelope) (role : Role) → IsTimely c w → IsTimely c (taken_by w e role)
taken-timely c w e (IsSource s) t =
    let same = source-delivered-clock w.plan s e.sender e.packet (source_at w s) in
    let old = source-clock c w s t in source-timely c w e.to (source_packet_step w.plan s e.sender e.packet (source_at w s)) (omega (arith, same, old)) t
taken-timely c w e (IsNode f r) t = by-node (slot_of w e.to).node (node-clock c w e.to t)
  where
    by-node : (o : Option PlainNode) → ClockWithin c o → IsTimely c (node_takes w e (home_of w.plan (f, r)) o)
    by-node None k = t
    by-node (Some n) k =
        let same = delivered-clock (home_of w.plan (f, r)) e.sender e.packet n in
        node-timely c w e.to (packet_step (home_of w.plan (f, r)) e.sender e.packet n) (omega (arith, same, k)) t
taken-timely c w e (IsClient k) t =
    record {
      sources = t.sources;
      slots = t.slots;
      clients = each-changed (λ (x : ClientState). x.clock ≤ c) k (client_after_packet w.plan k e.sender e.packet) w.clients (λ x h. let same = client-delivered-clock w.plan k e.sender e.packet x in omega (arith, same, h)) t.clients;
    }
taken-timely c w e Nobody t = t

comes-timely : (c : ℕ) (w : World) (o : Option Envelope) → IsTimely c w → IsTimely c (comes w o)
comes-timely c w None t = t
comes-timely c w (Some e) t = elim (can_come w e) as (λ b. IsTimely c (cond b (taken_by w e (role_of w.plan e.to)) w)) [
  | true ↦ taken-timely c w e (role_of w.plan e.to) t
  | false ↦ t
]

ticks-timely : (c : ℕ) (w : World) (a now : ℕ) (role : Role) → now ≤ c → IsTimely c w → IsTimely c (ticks w a now role)
ticks-timely c w a now (IsSource s) h t =
    elim (is_clock (source_at w s).clock now) as (λ b. IsTimely c (cond b (source_stepped a (source_tick_step w.plan s now (source_at w s)) w) w)) [
      | true ↦ let same = source-ticked-clock w.plan s now (source_at w s) in source-timely c w a (source_tick_step w.plan s now (source_at w s)) (omega (arith, same, h)) t
      | false ↦ t
    ]
ticks-timely c w a now (IsNode f r) h t = by-node (slot_of w a).node
  where
    by-node : (o : Option PlainNode) → IsTimely c (node_ticks w a now (home_of w.plan (f, r)) o)
    by-node None = t
    by-node (Some n) =
        elim (is_clock n.clock now) as (λ b. IsTimely c (cond b (node_stepped a (tick_step (home_of w.plan (f, r)) now n) w) w)) [
          | true ↦ let same = ticked-clock (home_of w.plan (f, r)) now n in node-timely c w a (tick_step (home_of w.plan (f, r)) now n) (omega (arith, same, h)) t
          | false ↦ t
        ]
ticks-timely c w a now (IsClient k) h t =
    elim (is_clock (client_at w k).clock now) as (λ b. IsTimely c (cond b (client_stepped a k (client_tick_step w.plan k now (client_at w k)) w) w)) [
      | true ↦ let same = client-ticked-clock w.plan k now (client_at w k) in client-timely c w a k (client_tick_step w.plan k now (client_at w k)) (omega (arith, same, h)) t
      | false ↦ t
    ]
ticks-timely c w a now Nobody h t = t

mills-timely : (c : ℕ) (w : World) (a r : ℕ) (role : Role) → IsTimely c w → IsTimely c (mills w a r role)
mills-timely c w a r (IsNode f q) t = by-node (slot_of w a).node (node-clock c w a t)
  where
    by-node : (o : Option PlainNode) → ClockWithin c o → IsTimely c (node_mills w a r (home_of w.plan (f, q)) o)
    by-node None k = t
    by-node (Some n) k =
        elim (can_mill (home_of w.plan (f, q)) r n) as (λ b. IsTimely c (cond b (node_stepped a (mill_step (home_of w.plan (f, q)) r n) w) w)) [
          | true ↦ let same = (milled-moves (home_of w.plan (f, q)) r n).clock in node-timely c w a (mill_step (home_of w.plan (f, q)) r n) (omega (arith, same, k)) t
          | false ↦ t
        ]
mills-timely c w a r (IsSource s) t = t
mills-timely c w a r (IsClient s) t = t
mills-timely c w a r Nobody t = t

cond-timely : (c : ℕ) (w v : World) (b : Bool) → IsTimely c v → IsTimely c w → IsTimely c (cond b v w)
cond-timely c w v true h t = h
cond-timely c w v false h t = t

emits-timely : (c : ℕ) (w : World) (a at : ℕ) (role : Role) → IsTimely c w → IsTimely c (emits w a at role)
emits-timely c w a at (IsSource s) t =
    let same = emits-clock w.plan s at (source_at w s) in
    let old = source-clock c w s t in
    cond-timely c w (source_stepped a (source_emits w.plan s at (source_at w s)) w) (is_release_time w.plan at) (source-timely c w a (source_emits w.plan s at (source_at w s)) (omega (arith, same, old)) t) t
emits-timely c w a at (IsNode f r) t = t
emits-timely c w a at (IsClient k) t = t
emits-timely c w a at Nobody t = t

releases-timely : (c : ℕ) (w : World) (a at : ℕ) (role : Role) → IsTimely c w → IsTimely c (releases w a at role)
releases-timely c w a at (IsSource s) t =
    let same = releases-clock w.plan s at (source_at w s) in
    let old = source-clock c w s t in
    cond-timely c w (source_stepped a (source_releases w.plan s at (source_at w s)) w) (is_release_time w.plan at) (source-timely c w a (source_releases w.plan s at (source_at w s)) (omega (arith, same, old)) t) t
releases-timely c w a at (IsNode f r) t = t
releases-timely c w a at (IsClient k) t = t
releases-timely c w a at Nobody t = t

crashes-timely : (c : ℕ) (w : World) (a : ℕ) (role : Role) → IsTimely c w → IsTimely c (crashes w a role)
crashes-timely c w a (IsNode f r) t =
    record { sources = t.sources; slots = each-changed (λ (x : Slot). ClockWithin c x.node) (node_place w.plan a) (λ slot. record slot { node = None }) w.nodes (λ x k. tt) t.slots; clients = t.clients }
crashes-timely c w a (IsSource s) t = t
crashes-timely c w a (IsClient k) t = t
crashes-timely c w a Nobody t = t

restart-within : (c : ℕ) (home : Home) (i : ℕ) (x : Slot) → ClockWithin c x.node → ClockWithin c (restart_slot home i x).node
restart-within c home i x h =
    elim (x.node) as (λ o. ClockWithin c (Slot.node (elim o [ Some n ↦ x | None ↦ cond (nat_lt x.last_inc i) (record { last_inc = i; node = Some (restarted_node home i) }) x ]))) [
      | Some n ↦ h
      | None ↦ elim (nat_lt x.last_inc i) as (λ b. ClockWithin c (Slot.node (cond b (record { last_inc = i; node = Some (restarted_node home i) }) x))) [
        | true ↦ let none = restarted-clock home i in omega (arith, none)
        | false ↦ h
      ]
    ]

restarts-timely : (c : ℕ) (w : World) (a i : ℕ) (role : Role) → IsTimely c w → IsTimely c (restarts w a i role)
restarts-timely c w a i (IsNode f r) t =
    record {
      sources = t.sources;
      slots = each-changed (λ (x : Slot). ClockWithin c x.node) (node_place w.plan a) (restart_slot (home_of w.plan (f, r)) i) w.nodes (λ x k. restart-within c (home_of w.plan (f, r)) i x k) t.slots;
      clients = t.clients;
    }
restarts-timely c w a i (IsSource s) t = t
restarts-timely c w a i (IsClient k) t = t
restarts-timely c w a i Nobody t = t

-- an event other than a tick moves no clock; a tick moves none past its own
pub happens-timely : (c : ℕ) (w : World) (e : Event) → ((a now : ℕ) → e ≡ Tick a now → now ≤ c) → IsTimely c w → IsTimely c (happens w e)
happens-timely c w (Phase p) h t = t
happens-timely c w (Emit a at) h t = emits-timely c w a at (role_of w.plan a) t
happens-timely c w (Release a at) h t = releases-timely c w a at (role_of w.plan a) t
happens-timely c w (Cut a b) h t = cond-timely c w (record w { cuts = push w.cuts (a, b) }) (link_up w a b) (record { sources = t.sources; slots = t.slots; clients = t.clients }) t
happens-timely c w (Heal a b) h t = record { sources = t.sources; slots = t.slots; clients = t.clients }
happens-timely c w (Crash a) h t = crashes-timely c w a (role_of w.plan a) t
happens-timely c w (Restart a i) h t = restarts-timely c w a i (role_of w.plan a) t
happens-timely c w (Deliver k) h t = comes-timely c w (slice_get w.envelopes k) t
happens-timely c w (Tick a now) h t = ticks-timely c w a now (role_of w.plan a) (h a now refl) t
happens-timely c w (Mill a r) h t = mills-timely c w a r (role_of w.plan a) t
