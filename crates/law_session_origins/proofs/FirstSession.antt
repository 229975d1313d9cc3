-- Session (1, 1) is asked for in no run.
use Rattle.std.proofs.Common.{◌≡◌, ℕ, zero, suc, Bool, true, false, cond, ◌&&◌, ◌==◌, nat_lt, List, [], ◌∷◌, ◌++◌, map, length, refl, sym, ap, subst, ◌∙◌, arith, Option, Some, None, slice_get, inl, inr}
use Rattle.std.proofs.lemmas.Grind.{common_steps}
use Rattle.dpc_lists.specs.Lists.{nth, changed, list_all, range_with_len}
use Rattle.dpc_model.specs.Actors.{nodes_of}
use Rattle.dpc_model.specs.Inlets.{same_sess, sess_of, take_batch}
use Rattle.dpc_model.specs.Ports.{Port, sender_at, on_beat, without_ended_marks, port_after_tick, port_after_choice}
use Rattle.dpc_model.specs.declared.messages.Event.{Event}
use Rattle.dpc_model.specs.declared.messages.Message.{Message}
use Rattle.dpc_model.specs.declared.messages.Message.TheVariants as message
use Rattle.dpc_model.specs.declared.messages.Sess.{Sess}
use Rattle.dpc_model.specs.declared.plans.Plan.{Plan}
use Rattle.node_model.specs.Mails.{Packet, Plain, SnapFor, Mail, Stepped}
use Rattle.node_model.specs.Nodes.{Home, PlainNode, new_node, restarted_node}
use Rattle.node_model.specs.NodeSteps.{packet_step, mill_step, tick_step}
use Rattle.node_model.specs.Clients.{ClientState, client_stream, new_client, client_message, client_packet, client_marks_ended, client_after_packet, client_after_batch, client_tick_step}
use Rattle.world_model.specs.Worlds.{World, Envelope, Slot, home_of, node_place, slot_of, client_at, source_at, from, node_stepped, restart_slot, happens, run_from, run, new_world}
use Rattle.dpc_lists.proofs.Truths.{both, both-of}
use Rattle.node_model.proofs.Mailed.{kept-port}
use Rattle.law_safety.proofs.EventCases.{AreCases, by-event}
use Rattle.dpc_lists.proofs.Each.{Each}
use Rattle.law_granting.specs.Taken.{subscribes_packet}
use Rattle.law_granting.proofs.Moves.{chosen-moves, took-moves, beat-moves}
use Rattle.law_granting.proofs.Slots.{got-sent}
use Rattle.law_session_origins.specs.FirstSession.{FirstIsNeverAsked}
use Rattle.law_session_origins.proofs.Pasts.{is_port_past, are_past, moves-past, new-past, restarted-past, delivered-past, milled-past, ticked-past, IsLater, delivered-later, milled-later, ticked-later, emits-later, releases-later, source_took-later, source_ticked-later, client_ticked-later}

-- ---- one port of a client

abbrev AnyTaken : ℕ → Sess → ℕ → Type 0
AnyTaken r s i = Unit {0}

client-message-past : (r : ℕ) (m : Message) (x : ClientState) → is_port_past x.port ≡ true → is_port_past (client_message r m x).port ≡ true
client-message-past r (message.Batch s index items) x h =
    elim (x.port.chosen == r) as (λ b. is_port_past (cond b (client_after_batch (take_batch x.port.inlet s index items) x) x).port ≡ true) [
      | true ↦ subst (λ (p : Port). is_port_past p ≡ true) (sym (kept-port (take_batch x.port.inlet s index items).answer (record x { port = record x.port { inlet = (take_batch x.port.inlet s index items).after } })))
          (moves-past AnyTaken x.port (record x.port { inlet = (take_batch x.port.inlet s index items).after }) (took-moves AnyTaken x.port s index items (λ e i. tt)) h)
      | false ↦ h
    ]
client-message-past r (message.Truncated s base) x h = h
client-message-past r (message.Beat b) x h = moves-past AnyTaken x.port (on_beat r b x.port) (beat-moves AnyTaken x.port r b) h
client-message-past r (message.Subscribe asked) x h = h
client-message-past r (message.Ack i n) x h = h
client-message-past r (message.Ask i n) x h = h
client-message-past r (message.Grant i n) x h = h
client-message-past r (message.SnapAsk i n) x h = h

client-packet-past : (o : Option (ℕ × ℕ)) (packet : Packet) (x : ClientState) → is_port_past x.port ≡ true → is_port_past (client_packet o packet x).port ≡ true
client-packet-past None packet x h = h
client-packet-past (Some pr) (Plain m) x h = client-message-past pr.1 m x h
client-packet-past (Some pr) (SnapFor i try s) x h = h

client-took-past : (plan : Plan) (c a : ℕ) (packet : Packet) (x : ClientState) → is_port_past x.port ≡ true → is_port_past (client_after_packet plan c a packet x).port ≡ true
unfolding client_after_packet
client-took-past plan c a packet x h = client-packet-past (sender_at plan (client_stream plan c ∷ []) a) packet (client_marks_ended x) h

client-ticked-past : (plan : Plan) (c now : ℕ) (x : ClientState) → is_port_past x.port ≡ true → is_port_past (client_tick_step plan c now x).after.port ≡ true
unfolding client_tick_step
client-ticked-past plan c now x h = let p = port_after_tick (without_ended_marks x.port) in moves-past AnyTaken p (port_after_choice p) (chosen-moves AnyTaken p) h

new-client-past : (plan : Plan) (c : ℕ) → is_port_past (new_client plan c).port ≡ true
unfolding new_client
new-client-past plan c = refl

-- ---- lists

changed-all : {X : Type 0} (q : X → Bool) (i : ℕ) (f : X → X) (xs : List X) → ((x : X) → q x ≡ true → q (f x) ≡ true) → list_all q xs ≡ true → list_all q (changed i f xs) ≡ true
changed-all q i f [] h e = refl
changed-all q zero f (x ∷ xs) h e = let k = both (q x) (list_all q xs) e in both-of (q (f x)) (list_all q xs) (h x k.0) k.1
changed-all q (suc i) f (x ∷ xs) h e = let k = both (q x) (list_all q xs) e in both-of (q x) (list_all q (changed i f xs)) k.0 (changed-all q i f xs h k.1)

pub nth-all : {X : Type 0} (q r : X → Bool) (d : X) (xs : List X) (i : ℕ) → ((x : X) → q x ≡ true → r x ≡ true) → r d ≡ true → list_all q xs ≡ true → r (nth d xs i) ≡ true
nth-all q r d [] i f h e = h
nth-all q r d (x ∷ xs) zero f h e = f x (both (q x) (list_all q xs) e).0
nth-all q r d (x ∷ xs) (suc i) f h e = nth-all q r d xs i f h (both (q x) (list_all q xs) e).1

-- ---- a world

abbrev is_node_past : Option PlainNode → Bool
is_node_past None = true
is_node_past (Some n) = are_past n.ports

abbrev is_slot_past : Slot → Bool
is_slot_past slot = nat_lt 0 slot.last_inc && is_node_past slot.node

abbrev is_client_past : ClientState → Bool
is_client_past x = is_port_past x.port

-- nobody is before session (1, 1), and nobody asked for it
pub record IsPastWorld (w : World) : Type 0 where
  pub nodes : list_all is_slot_past w.nodes ≡ true
  pub clients : list_all is_client_past w.clients ≡ true
  pub sent : (k : ℕ) (e : Envelope) → slice_get w.envelopes k ≡ Some e → subscribes_packet (sess_of 1 1) e.packet ≡ false

abbrev IsLaterEnvelope : List Envelope → Type 0
IsLaterEnvelope es = (k : ℕ) (e : Envelope) → slice_get es k ≡ Some e → subscribes_packet (sess_of 1 1) e.packet ≡ false

more-later : (a : ℕ) (es : List Envelope) (ms : List Mail) → Each IsLater ms → IsLaterEnvelope es → IsLaterEnvelope (es ++ map (from a) ms)
more-later a es ms h old k e there =
    elim (got-sent IsLater a es ms k e h there) [
      | inl before ↦ old k e before
      | inr new ↦ ap (λ (x : Envelope). subscribes_packet (sess_of 1 1) x.packet) new.1 ∙ new.2
    ]

node-past : (w : World) (a : ℕ) (n : PlainNode) → IsPastWorld w → (slot_of w a).node ≡ Some n → are_past n.ports ≡ true
node-past w a n h up =
    let k = nth-all is_slot_past (λ (x : Slot). is_node_past x.node) (record { last_inc = 0; node = None }) w.nodes (node_place w.plan a) (λ x e. (both (nat_lt 0 x.last_inc) (is_node_past x.node) e).1) refl h.nodes in
    ap is_node_past (sym up) ∙ k

client-past : (w : World) (c : ℕ) → IsPastWorld w → is_client_past (client_at w c) ≡ true
client-past w c h = nth-all is_client_past is_client_past (new_client w.plan c) w.clients c (λ x e. e) (new-client-past w.plan c) h.clients

stepped-past : (w : World) (a : ℕ) (s : Stepped PlainNode) → are_past s.after.ports ≡ true → Each IsLater s.sends → IsPastWorld w → IsPastWorld (node_stepped a s w)
stepped-past w a s ports mails h =
    record {
      nodes = changed-all is_slot_past (node_place w.plan a) (λ (slot : Slot). record slot { node = Some s.after }) w.nodes (λ x e. both-of (nat_lt 0 x.last_inc) (are_past s.after.ports) (both (nat_lt 0 x.last_inc) (is_node_past x.node) e).0 ports) h.nodes;
      clients = h.clients;
      sent = more-later a w.envelopes s.sends mails h.sent;
    }

restarted-slot : (home : Home) (i : ℕ) (x : Slot) → is_slot_past x ≡ true → is_slot_past (restart_slot home i x) ≡ true
restarted-slot home i x h = by-node x.node refl
  where
    later : (a i : ℕ) → nat_lt 0 a ≡ true → nat_lt a i ≡ true → ((i == 1) ≡ false) × (nat_lt 0 i ≡ true)
    later a i e f = (one a i e f, two a i e f)
      where
        one : (a i : ℕ) → nat_lt 0 a ≡ true → nat_lt a i ≡ true → (i == 1) ≡ false
        one a i e f = grind (arith, common_steps)

        two : (a i : ℕ) → nat_lt 0 a ≡ true → nat_lt a i ≡ true → nat_lt 0 i ≡ true
        two a i e f = grind (arith, common_steps)

    by-node : (o : Option PlainNode) → x.node ≡ o → is_slot_past (elim o [ Some n ↦ x | None ↦ cond (nat_lt x.last_inc i) (record { last_inc = i; node = Some (restarted_node home i) }) x ]) ≡ true
    by-node (Some n) up = h
    by-node None up = (elim (nat_lt x.last_inc i) as (λ b. nat_lt x.last_inc i ≡ b → is_slot_past (cond b (record { last_inc = i; node = Some (restarted_node home i) }) x) ≡ true) [
      | true ↦ λ e. let k = later x.last_inc i (both (nat_lt 0 x.last_inc) (is_node_past x.node) h).0 e in both-of (nat_lt 0 i) (are_past (restarted_node home i).ports) k.1 (restarted-past home i k.0)
      | false ↦ λ e. h
    ]) refl

past-cases : (w : World) → IsPastWorld w → AreCases w (λ e next. IsPastWorld next)
past-cases w h =
    record {
      still = λ e. h;
      wires = λ e cuts. record { nodes = h.nodes; clients = h.clients; sent = h.sent };
      emitted = λ a s t role. record { nodes = h.nodes; clients = h.clients; sent = more-later a w.envelopes _ (emits-later w.plan s t (source_at w s)) h.sent };
      released = λ a s t role. record { nodes = h.nodes; clients = h.clients; sent = more-later a w.envelopes _ (releases-later w.plan s t (source_at w s)) h.sent };
      source_took = λ k s e there can role. record { nodes = h.nodes; clients = h.clients; sent = more-later e.to w.envelopes _ (source_took-later w.plan s e.sender e.packet (source_at w s)) h.sent };
      source_ticks = λ a s now role. record { nodes = h.nodes; clients = h.clients; sent = more-later a w.envelopes _ (source_ticked-later w.plan s now (source_at w s)) h.sent };
      crashed = λ a f r role. record {
        nodes = changed-all is_slot_past (node_place w.plan a) (λ (slot : Slot). record slot { node = None }) w.nodes (λ x e. both-of (nat_lt 0 x.last_inc) true (both (nat_lt 0 x.last_inc) (is_node_past x.node) e).0 refl) h.nodes;
        clients = h.clients;
        sent = h.sent;
      };
      restarted = λ a i f r role. record {
        nodes = changed-all is_slot_past (node_place w.plan a) (restart_slot (home_of w.plan (f, r)) i) w.nodes (λ x e. restarted-slot (home_of w.plan (f, r)) i x e) h.nodes;
        clients = h.clients;
        sent = h.sent;
      };
      node_took = λ k f r e n there can role up.
          let home = home_of w.plan (f, r) in
          stepped-past w e.to (packet_step home e.sender e.packet n) (delivered-past home e.sender e.packet n (node-past w e.to n h up)) (delivered-later home e.sender e.packet n) h;
      node_ticked = λ a now f r n role up clock.
          let home = home_of w.plan (f, r) in
          let p = node-past w a n h up in stepped-past w a (tick_step home now n) (ticked-past home now n p) (ticked-later home now n p) h;
      node_milled = λ a r f q n role up can.
          let home = home_of w.plan (f, q) in stepped-past w a (mill_step home r n) (milled-past home r n (node-past w a n h up)) (milled-later home r n) h;
      client_took = λ k c e there can role. record {
        nodes = h.nodes;
        clients = changed-all is_client_past c (client_after_packet w.plan c e.sender e.packet) w.clients (λ x p. client-took-past w.plan c e.sender e.packet x p) h.clients;
        sent = h.sent;
      };
      client_ticks = λ a c now role.
          let p = client-past w c h in
          record {
            nodes = h.nodes;
            clients = changed-all is_client_past c (λ _. (client_tick_step w.plan c now (client_at w c)).after) w.clients (λ x e. client-ticked-past w.plan c now (client_at w c) p) h.clients;
            sent = more-later a w.envelopes _ (client_ticked-later w.plan c now (client_at w c) p) h.sent;
          };
    }

pub event-past : (w : World) (e : Event) → IsPastWorld w → IsPastWorld (happens w e)
event-past w e h = by-event w (λ e next. IsPastWorld next) (past-cases w h) e

pub new_world-past : (plan : Plan) → IsPastWorld (new_world plan)
unfolding new_world
new_world-past plan = record { nodes = slots (nodes_of plan); clients = readers (range_with_len 0 (length plan.clients)); sent = λ k e there. cc }
  where
    slots : (ns : List (ℕ × ℕ)) → list_all is_slot_past (map (λ (n : ℕ × ℕ). record { last_inc = 1; node = Some (new_node (home_of plan n)) }) ns) ≡ true
    slots [] = refl
    slots (n ∷ ns) = both-of (are_past (new_node (home_of plan n)).ports) (list_all is_slot_past (map (λ (n : ℕ × ℕ). record { last_inc = 1; node = Some (new_node (home_of plan n)) }) ns)) (new-past (home_of plan n)) (slots ns)

    readers : (cs : List ℕ) → list_all is_client_past (map (new_client plan) cs) ≡ true
    readers [] = refl
    readers (c ∷ cs) = both-of (is_client_past (new_client plan c)) (list_all is_client_past (map (new_client plan) cs)) (new-client-past plan c) (readers cs)

pub run-past : (w : World) (events : List Event) → IsPastWorld w → IsPastWorld (run_from w events)
run-past w [] h = h
run-past w (e ∷ events) h = run-past (happens w e) events (event-past w e h)

pub never-asked : (plan : Plan) (events : List Event) → FirstIsNeverAsked plan events
unfolding run
never-asked plan events k e asked there packet same =
    let none = (run-past (new_world plan) events (new_world-past plan)).sent k e there in
    let yes : subscribes_packet (sess_of 1 1) e.packet ≡ true = ap (λ (p : Packet). subscribes_packet (sess_of 1 1) p) packet ∙ ap (λ (u : Sess). same_sess u (sess_of 1 1)) same in
    let clash : true ≡ false = sym yes ∙ none in cc
