-- The batches that a port took in its session are numbered from 0 on, and are of the replica that it reads.
use Rattle.std.proofs.Common.{◌≡◌, ℕ, zero, suc, ◌+◌, Bool, true, false, cond, ◌==◌, nat_lt, List, [], ◌∷◌, ◌++◌, map, length, refl, sym, ap, subst, ◌∙◌, arith, Option, Some, None, slice_get, unwrap_or, ◌⊎◌, inl, inr, length-append}
use Rattle.std.proofs.lemmas.Grind.{common_steps}
use Rattle.dpc_lists.specs.Lists.{nth, changed, range_with_len}
use Rattle.dpc_model.specs.Inlets.{take_batch, same_sess, restarted_inlet, new_inlet, sess_of}
use Rattle.dpc_model.specs.Actors.{role_of, nodes_of, inputs_of, senders_of}
use Rattle.dpc_model.specs.declared.actors.Role.{Role}
use Rattle.dpc_model.specs.declared.actors.Role.TheVariants.{Source as IsSource, Node as IsNode, Client as IsClient, Nobody}
use Rattle.dpc_model.specs.Ports.{Port, port_at, sender_at, without_ended_marks, port_after_tick, port_after_choice}
use Rattle.dpc_model.specs.declared.messages.Event.{Event}
use Rattle.dpc_model.specs.declared.messages.Event.TheVariants.{Emit, Release, Crash, Restart, Deliver, Tick, Mill}
use Rattle.dpc_model.specs.declared.messages.Message.{Message}
use Rattle.dpc_model.specs.declared.messages.Message.TheVariants as message
use Rattle.dpc_model.specs.declared.messages.Sess.{Sess}
use Rattle.dpc_model.specs.declared.plans.Plan.{Plan}
use Rattle.dpc_model.specs.declared.plans.StreamRef.{StreamRef}
use Rattle.dpc_model.specs.declared.plans.StreamRef.TheVariants.{Source}
use Rattle.node_model.specs.Mails.{Packet, Plain, SnapFor, Stepped}
use Rattle.dpc_model.specs.Reading.{stable_reader}
use Rattle.node_model.specs.Nodes.{Home, PlainNode, streams_of, new_node, restarted_node}
use Rattle.node_model.specs.NodeSteps.{packet_step, mill_step, tick_step}
use Rattle.node_model.specs.Clients.{ClientState, client_stream, new_client, client_after_batch, client_message, client_packet, client_marks_ended, client_after_packet, client_tick_step}
use Rattle.world_model.specs.Worlds.{World, Envelope, Slot, home_of, node_place, slot_of, client_at, from, node_stepped, client_stepped, restart_slot, happens, run_from, run, new_world}
use Rattle.world_model.specs.SessionLaw.{Channel}
use Rattle.law_safety.specs.Plans.{IsCheckedPlan}
use Rattle.dpc_lists.proofs.Truths.{eq-of, eq-test}
use Rattle.law_safety.proofs.Numbering.{home-inputs, role-split}
use Rattle.law_safety.proofs.Pointwise.{sender-of}
use Rattle.law_safety.proofs.Happening.{IsFine, happens-next}
use Rattle.law_safety.proofs.Law.{new_world-fine, new_world-plan}
use Rattle.law_granting.specs.Taken.{index_in, node_port, role_port, port_of, delivers, taken_next, taken_from, line_of, IsBatchAt, TakenInOrder}
use Rattle.law_granting.proofs.Keys.{nth-changed}
use Rattle.law_safety.proofs.EventCases.{AreCases, by-event}
use Rattle.law_safety.proofs.Promises.{slot-here}
use Rattle.law_granting.proofs.Slots.{slot-there}
use Rattle.law_granting.proofs.Asked.{same-or}
use Rattle.law_granting.proofs.Running.{new-slot}
use Rattle.law_granting.proofs.Moves.{Moves, stays-same, stays-then, took-moves, beat-moves, truncated-moves, chosen-moves, PortsMove, DeliversNext, NoneTaken, get-mapped, delivered-ports, milled-ports, ticked-ports}
use Rattle.dpc_lists.proofs.Elements.{get-first, get-only}
use Rattle.dpc_lists.proofs.Places.{place-nth}
use Rattle.dpc_model.proofs.Alike.{same_sess-self}
use Rattle.dpc_lists.proofs.Somes.{some-same}
use Rattle.node_model.proofs.Mailed.{kept-port}
use Rattle.law_safety.proofs.Growing.{event-grows, run_from-plan}

-- ---- batches

pub batch-later : (l : Channel) (es more : List Envelope) (k j : ℕ) → IsBatchAt l es k j → IsBatchAt l (es ++ more) k j
batch-later l es more k j h = record { envelope = h.envelope; there = get-first es more k h.envelope h.there; is_batch = h.is_batch }

-- ---- how a port moves in a world

-- the event delivers the batch of this index to a reader, from the replica of this number
pub record TookIt (w : World) (e : Event) (x : ℕ) (u : StreamRef) (r : ℕ) (s : Sess) (i : ℕ) : Type 0 where
  pub number : ℕ
  pub envelope : Envelope
  pub event : e ≡ Deliver number
  pub there : slice_get w.envelopes number ≡ Some envelope
  pub to : envelope.to ≡ x
  pub sender : nth 0 (senders_of w.plan u) r ≡ envelope.sender
  pub index : index_in s envelope.packet ≡ Some i

-- a port is new and takes nothing, or was there before
abbrev pub Came : World → Event → ℕ → ℕ → StreamRef → Port → Type 0
Came w e x p u r = ((port_of w x p ≡ None) × (r.inlet.broken ≡ true)) ⊎ ((q : Port) × (port_of w x p ≡ Some q) × Moves (TookIt w e x u) q r)

moves-weaker : (S T : ℕ → Sess → ℕ → Type 0) (q r : Port) → ((c : ℕ) (s : Sess) (i : ℕ) → S c s i → T c s i) → Moves S q r → Moves T q r
moves-weaker S T q r f (inl k) = inl k
moves-weaker S T q r f (inr (inl k)) = inr (inl k)
moves-weaker S T q r f (inr (inr k)) = inr (inr (record { sess = k.sess; chosen = k.chosen; sound = k.sound; next = k.next; it = f q.chosen q.inlet.sess q.inlet.next k.it }))

came-same : (w : World) (e : Event) (x p : ℕ) (u : StreamRef) (r : Port) → port_of w x p ≡ Some r → Came w e x p u r
came-same w e x p u r there = inr (r, there, inl (stays-same r r refl refl refl refl))

-- a batch of a sender is of the replica of its number
pub sent-by : (plan : Plan) (ss : List StreamRef) (a p r : ℕ) (u : StreamRef) → slice_get ss p ≡ Some u → sender_at plan ss a ≡ Some (p, r) → nth 0 (senders_of plan u) r ≡ a
sent-by plan ss a p r u at e =
    let k = sender-of plan ss a p r e in
    let same : k.stream ≡ u = some-same k.stream u (sym k.at ∙ at) in
    subst (λ (s : StreamRef). nth 0 (senders_of plan s) r ≡ a) same (place-nth a (senders_of plan k.stream) r k.place)

-- ---- a node's port

module _ (w : World) (most x f q p : ℕ) (u : StreamRef) (fine : IsFine w most) (role_x : role_of w.plan x ≡ IsNode f q) (input : slice_get (inputs_of w.plan (IsNode f q)) p ≡ Some u) where
  -- the port in the world before, by the node
  port-was : (o : Option PlainNode) → (slot_of w x).node ≡ o → port_of w x p ≡ node_port p o
  port-was o up = rw (role_x, up) refl

  port-now : (next : World) (slot : Slot) → role_of next.plan x ≡ IsNode f q → slot_of next x ≡ slot → port_of next x p ≡ node_port p slot.node
  port-now next slot role here = rw (role, here) refl

  node-still : (e : Event) (next : World) → role_of next.plan x ≡ IsNode f q → slot_of next x ≡ slot_of w x → (r : Port) → port_of next x p ≡ Some r → Came w e x p u r
  node-still e next role same r there = came-same w e x p u r (port-was (slot_of w x).node refl ∙ sym (port-now next (slot_of w x) role same) ∙ there)

  -- one slot is changed
  node-slot : (e : Event) (y g r0 : ℕ) (h : Slot → Slot) (es : List Envelope) → role_of w.plan y ≡ IsNode g r0 → (x ≡ y → (r : Port) → node_port p (h (slot_of w x)).node ≡ Some r → Came w e x p u r) →
      (r : Port) → port_of (record w { nodes = changed (node_place w.plan y) h w.nodes; envelopes = es }) x p ≡ Some r → Came w e x p u r
  node-slot e y g r0 h es role here r there =
      let next = record w { nodes = changed (node_place w.plan y) h w.nodes; envelopes = es } in
      elim (same-or x y) [
        | inl same ↦
            let now : slot_of next x ≡ h (slot_of w x) = subst (λ (z : ℕ). slot_of next z ≡ h (slot_of w z)) (sym same) (slot-here w most y g r0 h fine role) in
            here same r (sym (port-now next (h (slot_of w x)) role_x now) ∙ there)
        | inr other ↦ node-still e next role_x (slot-there w y x g r0 f q h role role_x other) r there
      ]

  node-step : (e : Event) (n : PlainNode) (s : Stepped PlainNode) (T : ℕ → ℕ → Sess → ℕ → Type 0) → (slot_of w x).node ≡ Some n → PortsMove T n.ports s.after.ports → ((c : ℕ) (z : Sess) (i : ℕ) → T p c z i → TookIt w e x u c z i) →
      (r : Port) → slice_get s.after.ports p ≡ Some r → Came w e x p u r
  node-step e n s T up moves weaker r there =
      let k = moves p r there in inr (k.0, port-was (Some n) up ∙ k.1, moves-weaker (T p) (TookIt w e x u) k.0 r weaker k.2)

  restarted-port : (home : Home) (i : ℕ) (r : Port) → slice_get (restarted_node home i).ports p ≡ Some r → r.inlet.broken ≡ true
  unfolding restarted_node
  restarted-port home i r e =
      let k = get-mapped (port_at home.plan (restarted_inlet (stable_reader [] 0) (sess_of i 0))) (streams_of home) p r e in
      sym (ap (λ (z : Port). z.inlet.broken) k.2)

  node-restart : (e : Event) (home : Home) (i : ℕ) (r : Port) → node_port p (restart_slot home i (slot_of w x)).node ≡ Some r → Came w e x p u r
  node-restart e home i r there = by-node (slot_of w x).node refl there
    where
      by-node : (o : Option PlainNode) → (slot_of w x).node ≡ o →
          node_port p (elim o as (λ _. Slot) [ Some n ↦ slot_of w x | None ↦ cond (nat_lt (slot_of w x).last_inc i) (record { last_inc = i; node = Some (restarted_node home i) }) (slot_of w x) ]).node ≡ Some r → Came w e x p u r
      by-node (Some n) up d = came-same w e x p u r (port-was (slot_of w x).node refl ∙ d)
      by-node None up d = elim (nat_lt (slot_of w x).last_inc i) as (λ b. node_port p (cond {A = Slot} b (record { last_inc = i; node = Some (restarted_node home i) }) (slot_of w x)).node ≡ Some r → Came w e x p u r) [
        | true ↦ λ g. inl (port-was None up, restarted-port home i r g)
        | false ↦ λ g. came-same w e x p u r (port-was (slot_of w x).node refl ∙ g)
      ] d

  pub node-cases : AreCases w (λ e next. (r : Port) → port_of next x p ≡ Some r → Came w e x p u r)
  node-cases =
      record {
        still = λ e r there. node-still e w role_x refl r there;
        wires = λ e cuts r there. node-still e (record w { cuts = cuts }) role_x refl r there;
        emitted = λ a s t role r there. came-same w (Emit a t) x p u r there;
        released = λ a s t role r there. came-same w (Release a t) x p u r there;
        source_took = λ k s e here can role r there. came-same w (Deliver k) x p u r there;
        source_ticks = λ a s now role r there. came-same w (Tick a now) x p u r there;
        crashed = λ y g r0 role r there. node-slot (Crash y) y g r0 (λ (slot : Slot). record slot { node = None }) w.envelopes role (λ same r d. cc) r there;
        restarted = λ y i g r0 role r there. node-slot (Restart y i) y g r0 (restart_slot (home_of w.plan (g, r0)) i) w.envelopes role (λ same r d. node-restart (Restart y i) (home_of w.plan (g, r0)) i r d) r there;
        node_took = λ k g r0 e n here can role up r there.
            let home = home_of w.plan (g, r0) in
            let s = packet_step home e.sender e.packet n in
            node-slot (Deliver k) e.to g r0 (λ (slot : Slot). record slot { node = Some s.after }) (w.envelopes ++ map (from e.to) s.sends) role
            (λ same r d. node-step (Deliver k) n s (DeliversNext home e.sender e.packet) (ap (λ (y : ℕ). (slot_of w y).node) same ∙ up) (delivered-ports home e.sender e.packet n)
            (λ c z i t. took k g r0 e c z i here role same t) r d) r there;
        node_ticked = λ y now g r0 n role up clock r there.
            let s = tick_step (home_of w.plan (g, r0)) now n in
            node-slot (Tick y now) y g r0 (λ (slot : Slot). record slot { node = Some s.after }) (w.envelopes ++ map (from y) s.sends) role
            (λ same r d. node-step (Tick y now) n s NoneTaken (ap (λ (y : ℕ). (slot_of w y).node) same ∙ up) (ticked-ports (home_of w.plan (g, r0)) now n) (λ c z i t. absurd t) r d) r there;
        node_milled = λ y m g r0 n role up can r there.
            let s = mill_step (home_of w.plan (g, r0)) m n in
            node-slot (Mill y m) y g r0 (λ (slot : Slot). record slot { node = Some s.after }) (w.envelopes ++ map (from y) s.sends) role
            (λ same r d. node-step (Mill y m) n s NoneTaken (ap (λ (y : ℕ). (slot_of w y).node) same ∙ up) (milled-ports (home_of w.plan (g, r0)) m n) (λ c z i t. absurd t) r d) r there;
        client_took = λ k c e here can role r there. node-still (Deliver k) (record w { clients = _ }) role_x refl r there;
        client_ticks = λ a c now role r there. node-still (Tick a now) (client_stepped a c (client_tick_step w.plan c now (client_at w c)) w) role_x refl r there;
      }
    where
      took : (k g r0 : ℕ) (e : Envelope) (c : ℕ) (z : Sess) (i : ℕ) → slice_get w.envelopes k ≡ Some e → role_of w.plan e.to ≡ IsNode g r0 → x ≡ e.to → DeliversNext (home_of w.plan (g, r0)) e.sender e.packet p c z i → TookIt w (Deliver k) x u c z i
      took k g r0 e c z i here role same t =
          let whole : IsNode f q ≡ IsNode g r0 = sym role_x ∙ ap (λ (y : ℕ). role_of w.plan y) same ∙ role in
          let one : f ≡ g = cc in
          let ports : slice_get (streams_of (home_of w.plan (g, r0))) p ≡ Some u = subst (λ (y : ℕ). slice_get (streams_of (home_of w.plan (y, r0))) p ≡ Some u) one (subst (λ (ss : List StreamRef). slice_get ss p ≡ Some u) (home-inputs (home_of w.plan (f, r0)) q) input) in
          record { number = k; envelope = e; event = refl; there = here; to = sym same; sender = sent-by w.plan (streams_of (home_of w.plan (g, r0))) e.sender p c u ports t.0; index = t.1 }

-- ---- a client has one actor

clients-place : (from count i c : ℕ) → nth Nobody (map IsClient (range_with_len from count)) i ≡ IsClient c → c ≡ from + i
clients-place from zero i c e = cc
clients-place from (suc count) zero c e = let same : from ≡ c = cc in omega (arith, same)
clients-place from (suc count) (suc i) c e = let far = clients-place (from + 1) count i c e in omega (arith, far)

past-nodes : (ns : List (ℕ × ℕ)) (rest : List Role) (i c : ℕ) → nth Nobody (map (λ (n : ℕ × ℕ). IsNode n.0 n.1) ns ++ rest) i ≡ IsClient c → (j : ℕ) × (nth Nobody rest j ≡ IsClient c) × (i ≡ length ns + j)
past-nodes [] rest i c e = (i, e, omega arith)
past-nodes (n ∷ ns) rest zero c e = cc
past-nodes (n ∷ ns) rest (suc i) c e = let k = past-nodes ns rest i c e in let far = k.2 in (k.0, k.1, omega (arith, far))

past-sources : (ss : List ℕ) (rest : List Role) (i c : ℕ) → nth Nobody (map IsSource ss ++ rest) i ≡ IsClient c → (j : ℕ) × (nth Nobody rest j ≡ IsClient c) × (i ≡ length ss + j)
past-sources [] rest i c e = (i, e, omega arith)
past-sources (s ∷ ss) rest zero c e = cc
past-sources (s ∷ ss) rest (suc i) c e = let k = past-sources ss rest i c e in let far = k.2 in (k.0, k.1, omega (arith, far))

client-place : (plan : Plan) (a c : ℕ) → role_of plan a ≡ IsClient c → a ≡ length (range_with_len 0 (length plan.sources)) + (length (nodes_of plan) + c)
client-place plan a c e =
    let p = past-sources (range_with_len 0 (length plan.sources)) (map (λ (n : ℕ × ℕ). IsNode n.0 n.1) (nodes_of plan) ++ map IsClient (range_with_len 0 (length plan.clients))) a c (sym (role-split plan a) ∙ e) in
    let q = past-nodes (nodes_of plan) (map IsClient (range_with_len 0 (length plan.clients))) p.0 c p.1 in
    let r = clients-place 0 (length plan.clients) q.0 c q.1 in
    let one = p.2 in
    let two = q.2 in omega (arith, one, two, r)

pub client-actor : (plan : Plan) (a b c : ℕ) → role_of plan a ≡ IsClient c → role_of plan b ≡ IsClient c → a ≡ b
client-actor plan a b c e k = client-place plan a c e ∙ sym (client-place plan b c k)

-- ---- a client's port

module _ (w : World) (x c : ℕ) (u : StreamRef) (role_x : role_of w.plan x ≡ IsClient c) (input : slice_get (inputs_of w.plan (IsClient c)) 0 ≡ Some u) where
  client-port : (next : World) → role_of next.plan x ≡ IsClient c → port_of next x 0 ≡ Some (client_at next c).port
  client-port next role = rw role refl

  client-still : (e : Event) (next : World) → role_of next.plan x ≡ IsClient c → (client_at next c).port ≡ (client_at w c).port → (r : Port) → port_of next x 0 ≡ Some r → Came w e x 0 u r
  client-still e next role same r there = came-same w e x 0 u r (client-port w role_x ∙ ap {B = Option Port} Some (sym same) ∙ sym (client-port next role) ∙ there)

  client-move : (e : Event) (next : World) → role_of next.plan x ≡ IsClient c → Moves (TookIt w e x u) (client_at w c).port (client_at next c).port → (r : Port) → port_of next x 0 ≡ Some r → Came w e x 0 u r
  client-move e next role moves r there =
      inr ((client_at w c).port, client-port w role_x, subst (λ (z : Port). Moves (TookIt w e x u) (client_at w c).port z) (some-same (client_at next c).port r (sym (client-port next role) ∙ there)) moves)

  stream-is : client_stream w.plan c ≡ u
  stream-is = ap (λ (o : Option StreamRef). unwrap_or o (Source 0)) input

  message-moves : (k r : ℕ) (e : Envelope) (m : Message) (z : ClientState) → slice_get w.envelopes k ≡ Some e → e.to ≡ x → e.packet ≡ Plain m → sender_at w.plan (client_stream w.plan c ∷ []) e.sender ≡ Some (0, r) →
      Moves (TookIt w (Deliver k) x u) z.port (client_message r m z).port
  message-moves k r e (message.Batch v index items) z here to packet sender =
      (elim (z.port.chosen == r) as (λ b. (z.port.chosen == r) ≡ b → Moves (TookIt w (Deliver k) x u) z.port (cond b (client_after_batch (take_batch z.port.inlet v index items) z) z).port) [
        | false ↦ λ f. inl (stays-same z.port z.port refl refl refl refl)
        | true ↦ λ f.
            subst (λ (y : Port). Moves (TookIt w (Deliver k) x u) z.port y) (sym (kept-port (take_batch z.port.inlet v index items).answer (record z { port = record z.port { inlet = (take_batch z.port.inlet v index items).after } })))
            (took-moves (TookIt w (Deliver k) x u) z.port v index items (λ s i. record {
              number = k;
              envelope = e;
              event = refl;
              there = here;
              to = to;
              sender = sent-by w.plan (client_stream w.plan c ∷ []) e.sender 0 z.port.chosen u (ap {B = Option StreamRef} Some stream-is) (subst (λ (y : ℕ). sender_at w.plan (client_stream w.plan c ∷ []) e.sender ≡ Some (0, y)) (sym (eq-of z.port.chosen r f)) sender);
              index = rw (packet, s, i) refl;
            }))
      ]) refl
  message-moves k r e (message.Truncated v base) z here to packet sender = truncated-moves (TookIt w (Deliver k) x u) z.port r v base
  message-moves k r e (message.Beat b) z here to packet sender = beat-moves (TookIt w (Deliver k) x u) z.port r b
  message-moves k r e (message.Subscribe asked) z here to packet sender = inl (stays-same z.port z.port refl refl refl refl)
  message-moves k r e (message.Ack i n) z here to packet sender = inl (stays-same z.port z.port refl refl refl refl)
  message-moves k r e (message.Ask i n) z here to packet sender = inl (stays-same z.port z.port refl refl refl refl)
  message-moves k r e (message.Grant i n) z here to packet sender = inl (stays-same z.port z.port refl refl refl refl)
  message-moves k r e (message.SnapAsk i n) z here to packet sender = inl (stays-same z.port z.port refl refl refl refl)

  packet-moves : (k : ℕ) (e : Envelope) (o : Option (ℕ × ℕ)) (packet : Packet) (z : ClientState) → slice_get w.envelopes k ≡ Some e → e.to ≡ x → e.packet ≡ packet → sender_at w.plan (client_stream w.plan c ∷ []) e.sender ≡ o →
      Moves (TookIt w (Deliver k) x u) z.port (client_packet o packet z).port
  packet-moves k e None packet z here to same sender = inl (stays-same z.port z.port refl refl refl refl)
  packet-moves k e (Some pr) (SnapFor i try snap) z here to same sender = inl (stays-same z.port z.port refl refl refl refl)
  packet-moves k e (Some pr) (Plain m) z here to same sender =
      let found = sender-of w.plan (client_stream w.plan c ∷ []) e.sender pr.0 pr.1 sender in
      let first : pr.0 ≡ 0 = get-only (client_stream w.plan c) found.stream pr.0 found.at in
      message-moves k pr.1 e m z here to same (subst (λ (y : ℕ). sender_at w.plan (client_stream w.plan c ∷ []) e.sender ≡ Some (y, pr.1)) first sender)

  took-port : (k : ℕ) (e : Envelope) (z : ClientState) → slice_get w.envelopes k ≡ Some e → e.to ≡ x → Moves (TookIt w (Deliver k) x u) z.port (client_after_packet w.plan c e.sender e.packet z).port
  unfolding client_after_packet
  took-port k e z here to =
      stays-then (TookIt w (Deliver k) x u) z.port (without_ended_marks z.port) (client_after_packet w.plan c e.sender e.packet z).port refl refl refl refl
      (packet-moves k e (sender_at w.plan (client_stream w.plan c ∷ []) e.sender) e.packet (client_marks_ended z) here to refl refl)

  ticked-port : (e : Event) (now : ℕ) (z : ClientState) → Moves (TookIt w e x u) z.port (client_tick_step w.plan c now z).after.port
  unfolding client_tick_step
  ticked-port e now z = stays-then (TookIt w e x u) z.port (port_after_tick (without_ended_marks z.port)) (port_after_choice (port_after_tick (without_ended_marks z.port))) refl refl refl refl (chosen-moves (TookIt w e x u) (port_after_tick (without_ended_marks z.port)))

  -- a client's state is changed
  changed-port : (e : Event) (next : World) (d : ℕ) (f : ClientState → ClientState) → role_of next.plan x ≡ IsClient c → next.plan ≡ w.plan → next.clients ≡ changed d f w.clients →
      (c ≡ d → Moves (TookIt w e x u) (client_at w c).port (f (client_at w c)).port) → (r : Port) → port_of next x 0 ≡ Some r → Came w e x 0 u r
  changed-port e next d f role plan clients moves r there =
      let now : client_at next c ≡ nth (new_client w.plan c) (changed d f w.clients) c = rw (plan, clients) refl in
      elim (nth-changed (new_client w.plan c) d f w.clients c) [
        | inl same ↦ client-still e next role (ap (λ (z : ClientState). z.port) (now ∙ same)) r there
        | inr it ↦ client-move e next role (subst (λ (z : ClientState). Moves (TookIt w e x u) (client_at w c).port z.port) (sym (now ∙ it.1)) (moves it.0)) r there
      ]

  pub client-cases : AreCases w (λ e next. (r : Port) → port_of next x 0 ≡ Some r → Came w e x 0 u r)
  client-cases =
      record {
        still = λ e r there. client-still e w role_x refl r there;
        wires = λ e cuts r there. client-still e (record w { cuts = cuts }) role_x refl r there;
        emitted = λ a s t role r there. came-same w (Emit a t) x 0 u r there;
        released = λ a s t role r there. came-same w (Release a t) x 0 u r there;
        source_took = λ k s e here can role r there. came-same w (Deliver k) x 0 u r there;
        source_ticks = λ a s now role r there. came-same w (Tick a now) x 0 u r there;
        crashed = λ y g r0 role r there. client-still (Crash y) (record w { nodes = changed (node_place w.plan y) (λ (slot : Slot). record slot { node = None }) w.nodes }) role_x refl r there;
        restarted = λ y i g r0 role r there. client-still (Restart y i) (record w { nodes = changed (node_place w.plan y) (restart_slot (home_of w.plan (g, r0)) i) w.nodes }) role_x refl r there;
        node_took = λ k g r0 e n here can role up r there. client-still (Deliver k) (node_stepped e.to (packet_step (home_of w.plan (g, r0)) e.sender e.packet n) w) role_x refl r there;
        node_ticked = λ y now g r0 n role up clock r there. client-still (Tick y now) (node_stepped y (tick_step (home_of w.plan (g, r0)) now n) w) role_x refl r there;
        node_milled = λ y m g r0 n role up can r there. client-still (Mill y m) (node_stepped y (mill_step (home_of w.plan (g, r0)) m n) w) role_x refl r there;
        client_took = λ k d e here can role r there.
            let f = client_after_packet w.plan d e.sender e.packet in
            changed-port (Deliver k) (record w { clients = changed d f w.clients }) d f role_x refl refl (λ same. same-client k d e here role same) r there;
        client_ticks = λ a d now role r there.
            let t = client_tick_step w.plan d now (client_at w d) in
            changed-port (Tick a now) (client_stepped a d t w) d (λ _. t.after) role_x refl refl
            (λ same. subst (λ (y : ℕ). Moves (TookIt w (Tick a now) x u) (client_at w c).port (client_tick_step w.plan y now (client_at w y)).after.port) same (ticked-port (Tick a now) now (client_at w c))) r there;
      }
    where
      -- a client has one actor
      same-client : (k d : ℕ) (e : Envelope) → slice_get w.envelopes k ≡ Some e → role_of w.plan e.to ≡ IsClient d → c ≡ d → Moves (TookIt w (Deliver k) x u) (client_at w c).port (client_after_packet w.plan d e.sender e.packet (client_at w c)).port
      same-client k d e here role same =
          let whole : role_of w.plan e.to ≡ IsClient c = subst (λ (y : ℕ). role_of w.plan e.to ≡ IsClient y) (sym same) role in
          subst (λ (y : ℕ). Moves (TookIt w (Deliver k) x u) (client_at w c).port (client_after_packet w.plan y e.sender e.packet (client_at w c)).port) same
          (took-port k e (client_at w c) here (client-actor w.plan e.to x c whole role_x))

-- ---- any port

module _ (w : World) (most x p : ℕ) (u : StreamRef) (fine : IsFine w most) (input : slice_get (inputs_of w.plan (role_of w.plan x)) p ≡ Some u) where
  by-role : (role : Role) → role_of w.plan x ≡ role → (e : Event) (r : Port) → port_of (happens w e) x p ≡ Some r → Came w e x p u r
  by-role (IsNode f q) is e r there = by-event w (λ e next. (r : Port) → port_of next x p ≡ Some r → Came w e x p u r) (node-cases w most x f q p u fine is (rw is at input)) e r there
  by-role (IsClient c) is e r there = at-first p refl (rw is at input) r there
    where
      at-first : (i : ℕ) → p ≡ i → slice_get (inputs_of w.plan (IsClient c)) p ≡ Some u → (r : Port) → port_of (happens w e) x p ≡ Some r → Came w e x p u r
      at-first zero same at r there =
          subst (λ (i : ℕ). Came w e x i u r) (sym same)
          (by-event w (λ e next. (r : Port) → port_of next x 0 ≡ Some r → Came w e x 0 u r) (client-cases w x c u is (rw same at at)) e r (subst (λ (i : ℕ). port_of (happens w e) x i ≡ Some r) same there))
      at-first (suc i) same at r there =
          let role : role_of (happens w e).plan x ≡ IsClient c = ap (λ (z : Plan). role_of z x) (event-grows w e).plan ∙ is in
          let far : (suc i == 0) ≡ false = grind (arith, common_steps) in
          let off : role_port (happens w e) x (suc i) (IsClient c) ≡ None = rw far refl in
          let none : port_of (happens w e) x (suc i) ≡ None = ap (λ (z : Role). role_port (happens w e) x (suc i) z) role ∙ off in
          let clash : ◌≡◌ {A = Option Port} None (Some r) = sym none ∙ subst (λ (j : ℕ). port_of (happens w e) x j ≡ Some r) same there in cc
  by-role (IsSource s) is e r there =
      let role : role_of (happens w e).plan x ≡ IsSource s = ap (λ (z : Plan). role_of z x) (event-grows w e).plan ∙ is in
      let none : port_of (happens w e) x p ≡ None = ap (λ (z : Role). role_port (happens w e) x p z) role in
      let clash : ◌≡◌ {A = Option Port} None (Some r) = sym none ∙ there in cc
  by-role Nobody is e r there =
      let role : role_of (happens w e).plan x ≡ Nobody = ap (λ (z : Plan). role_of z x) (event-grows w e).plan ∙ is in
      let none : port_of (happens w e) x p ≡ None = ap (λ (z : Role). role_port (happens w e) x p z) role in
      let clash : ◌≡◌ {A = Option Port} None (Some r) = sym none ∙ there in cc

  pub event-came : (e : Event) (r : Port) → port_of (happens w e) x p ≡ Some r → Came w e x p u r
  event-came e r there = by-role (role_of w.plan x) refl e r there

-- ---- what was taken

-- the batches taken in a port's session, and the next one
pub record HasTaken (w : World) (x : ℕ) (u : StreamRef) (ks : List ℕ) (q : Port) : Type 0 where
  pub each : (j k : ℕ) → slice_get ks j ≡ Some k → IsBatchAt (line_of w.plan x u q) w.envelopes k j
  pub next : q.inlet.broken ≡ false → q.inlet.next ≡ length ks

pub line-same : (plan : Plan) (x : ℕ) (u : StreamRef) (q r : Port) → r.inlet.sess ≡ q.inlet.sess → r.chosen ≡ q.chosen → line_of plan x u r ≡ line_of plan x u q
line-same plan x u q r s c = rw (s, c) refl

none-taken : (w : World) (x : ℕ) (u : StreamRef) (ks : List ℕ) (q : Port) → ks ≡ [] → (q.inlet.broken ≡ false → q.inlet.next ≡ 0) → HasTaken w x u ks q
none-taken w x u ks q e next = subst (λ (l : List ℕ). HasTaken w x u l q) (sym e) (record { each = λ j k d. cc; next = next })

-- an event later
taken-step : (w : World) (e : Event) (x p : ℕ) (u : StreamRef) (ks : List ℕ) (r : Port) → port_of (happens w e) x p ≡ Some r → Came w e x p u r → ((q : Port) → port_of w x p ≡ Some q → HasTaken w x u ks q) →
    HasTaken (happens w e) x u (taken_next ks e (port_of w x p) (port_of (happens w e) x p)) r
taken-step w e x p u ks r now (inl fresh) h = none-taken (happens w e) x u (taken_next ks e (port_of w x p) (port_of (happens w e) x p)) r (rw (fresh.0) refl) (λ b. let broken = fresh.1 in cc)
taken-step w e x p u ks r now (inr (q, was, inl k)) h =
    let old = h q was in
    let grows = event-grows w e in
    let kept : same_sess q.inlet.sess r.inlet.sess ≡ true = subst (λ (z : Sess). same_sess q.inlet.sess z ≡ true) (sym k.sess) (same_sess-self q.inlet.sess) in
    let not_one : (r.inlet.next == q.inlet.next + 1) ≡ false = differ (r.inlet.next == q.inlet.next + 1) refl in
    let all : taken_next ks e (port_of w x p) (port_of (happens w e) x p) ≡ ks = rw (was, now, kept, not_one) refl in
    subst (λ (l : List ℕ). HasTaken (happens w e) x u l r) (sym all)
    (record {
      each = λ j n d. at-later (old.each j n d);
      next = λ b. let c = k.next b in c.1 ∙ old.next c.0;
    })
  where
    differ : (b : Bool) → (r.inlet.next == q.inlet.next + 1) ≡ b → (r.inlet.next == q.inlet.next + 1) ≡ false
    differ false d = d
    differ true d = absurd (k.none (eq-of r.inlet.next (q.inlet.next + 1) d))

    at-later : {n j : ℕ} → IsBatchAt (line_of w.plan x u q) w.envelopes n j → IsBatchAt (line_of (happens w e).plan x u r) (happens w e).envelopes n j
    at-later {n} {j} b =
        let grows = event-grows w e in
        subst (λ (pl : Plan). IsBatchAt (line_of pl x u r) (happens w e).envelopes n j) (sym grows.plan)
        (subst (λ (l : Channel). IsBatchAt l (happens w e).envelopes n j) (sym (line-same w.plan x u q r k.sess k.chosen))
        (subst (λ (es : List Envelope). IsBatchAt (line_of w.plan x u q) es n j) (sym grows.envelopes) (batch-later (line_of w.plan x u q) w.envelopes grows.more n j b)))
taken-step w e x p u ks r now (inr (q, was, inr (inl k))) h =
    none-taken (happens w e) x u (taken_next ks e (port_of w x p) (port_of (happens w e) x p)) r (let other = k.sess in rw (was, now, other) refl) (λ b. k.next)
taken-step w e x p u ks r now (inr (q, was, inr (inr k))) h =
    let old = h q was in
    let kept : same_sess q.inlet.sess r.inlet.sess ≡ true = subst (λ (z : Sess). same_sess q.inlet.sess z ≡ true) (sym k.sess) (same_sess-self q.inlet.sess) in
    let one : (r.inlet.next == q.inlet.next + 1) ≡ true = eq-test r.inlet.next (q.inlet.next + 1) k.next in
    let it = k.it in
    let it_is = it.event in
    let all : taken_next ks e (port_of w x p) (port_of (happens w e) x p) ≡ ks ++ (it.number ∷ []) = rw (was, now, kept, one) (ap (λ (z : Event). ks ++ delivers z) it_is) in
    let last = old.next k.sound in
    subst (λ (l : List ℕ). HasTaken (happens w e) x u l r) (sym all)
    (record {
      each = λ j n d. at-later n j (elim (got-last ks it.number j n d) [
        | inl before ↦ old.each j n before
        | inr end ↦ subst (λ (z : ℕ). IsBatchAt (line_of w.plan x u q) w.envelopes z j) (sym end.1)
            (subst (λ (z : ℕ). IsBatchAt (line_of w.plan x u q) w.envelopes it.number z) (last ∙ sym end.0) newest)
      ]);
      next = λ b. let many = length-append ks (it.number ∷ []) in let n = k.next in omega (arith, many, n, last);
    })
  where
    newest : IsBatchAt (line_of w.plan x u q) w.envelopes k.it.number q.inlet.next
    newest =
        let mine : (k.it.envelope.sender == nth 0 (senders_of w.plan u) q.chosen) ≡ true = eq-test k.it.envelope.sender (nth 0 (senders_of w.plan u) q.chosen) (sym k.it.sender) in
        let to : (k.it.envelope.to == x) ≡ true = eq-test k.it.envelope.to x k.it.to in
        record { envelope = k.it.envelope; there = k.it.there; is_batch = rw (mine, to) k.it.index }

    at-later : (n j : ℕ) → IsBatchAt (line_of w.plan x u q) w.envelopes n j → IsBatchAt (line_of (happens w e).plan x u r) (happens w e).envelopes n j
    at-later n j b =
        let grows = event-grows w e in
        subst (λ (pl : Plan). IsBatchAt (line_of pl x u r) (happens w e).envelopes n j) (sym grows.plan)
        (subst (λ (l : Channel). IsBatchAt l (happens w e).envelopes n j) (sym (line-same w.plan x u q r k.sess k.chosen))
        (subst (λ (es : List Envelope). IsBatchAt (line_of w.plan x u q) es n j) (sym grows.envelopes) (batch-later (line_of w.plan x u q) w.envelopes grows.more n j b)))

    got-last : (ks : List ℕ) (v j n : ℕ) → slice_get (ks ++ (v ∷ [])) j ≡ Some n → (slice_get ks j ≡ Some n) ⊎ ((j ≡ length ks) × (n ≡ v))
    got-last [] v zero n d = inr (refl, cc)
    got-last [] v (suc j) n d = cc
    got-last (y ∷ ks) v zero n d = inl d
    got-last (y ∷ ks) v (suc j) n d = elim (got-last ks v j n d) [ inl before ↦ inl before | inr end ↦ inr (ap suc end.0, end.1) ]

-- ---- a run

taken-run : (w : World) (most : ℕ) (events : List Event) (x p : ℕ) (u : StreamRef) (ks : List ℕ) → IsFine w most → slice_get (inputs_of w.plan (role_of w.plan x)) p ≡ Some u →
    ((q : Port) → port_of w x p ≡ Some q → HasTaken w x u ks q) → (q : Port) → port_of (run_from w events) x p ≡ Some q → HasTaken (run_from w events) x u (taken_from x p ks w events) q
taken-run w most [] x p u ks fine input h = h
taken-run w most (e ∷ events) x p u ks fine input h =
    taken-run (happens w e) (most + 1) events x p u (taken_next ks e (port_of w x p) (port_of (happens w e) x p)) (happens-next w most e fine).fine
    (subst (λ (pl : Plan). slice_get (inputs_of pl (role_of pl x)) p ≡ Some u) (sym (event-grows w e).plan) input)
    (λ r now. taken-step w e x p u ks r now (event-came w most x p u fine input e r now) h)

-- at the opening no port has taken a batch
new-node-port : (home : Home) (p : ℕ) (q : Port) → slice_get (new_node home).ports p ≡ Some q → q.inlet.next ≡ 0
unfolding new_node
new-node-port home p q e = let k = get-mapped (port_at home.plan (new_inlet 1)) (streams_of home) p q e in sym (ap (λ (z : Port). z.inlet.next) k.2)

new-clients-port : (plan : Plan) (c : ℕ) (xs : List ℕ) (i : ℕ) → (nth (new_client plan c) (map (new_client plan) xs) i).port.inlet.next ≡ 0
unfolding new_client
new-clients-port plan c [] i = refl
new-clients-port plan c (x ∷ xs) zero = refl
new-clients-port plan c (x ∷ xs) (suc i) = new-clients-port plan c xs i

new-client-port : (plan : Plan) (c : ℕ) → (client_at (new_world plan) c).port.inlet.next ≡ 0
unfolding new_world
new-client-port plan c = new-clients-port plan c (range_with_len 0 (length plan.clients)) c

new-port : (plan : Plan) (x p : ℕ) (q : Port) → port_of (new_world plan) x p ≡ Some q → q.inlet.next ≡ 0
new-port plan x p q there = by-role-of (role_of plan x) refl (subst (λ (pl : Plan). role_port (new_world plan) x p (role_of pl x) ≡ Some q) (new_world-plan plan) there)
  where
    by-role-of : (role : Role) → role_of plan x ≡ role → role_port (new_world plan) x p (role_of plan x) ≡ Some q → q.inlet.next ≡ 0
    by-role-of (IsNode f r) is d =
        let slot = new-slot plan x f r is in
        let node : (slot_of (new_world plan) x).node ≡ Some (new_node (home_of plan (f, r))) = ap (λ (z : Slot). z.node) slot in
        let here : node_port p (slot_of (new_world plan) x).node ≡ Some q = rw is at d in
        new-node-port (home_of plan (f, r)) p q (subst (λ (o : Option PlainNode). node_port p o ≡ Some q) node here)
    by-role-of (IsClient c) is d =
        let here : cond (p == 0) (Some (client_at (new_world plan) c).port) None ≡ Some q = rw is at d in
        (elim (p == 0) as (λ b. cond {A = Option Port} b (Some (client_at (new_world plan) c).port) None ≡ Some q → q.inlet.next ≡ 0) [
          | true ↦ λ g. let same : (client_at (new_world plan) c).port ≡ q = some-same (client_at (new_world plan) c).port q g in sym (ap (λ (z : Port). z.inlet.next) same) ∙ new-client-port plan c
          | false ↦ λ g. cc
        ]) here
    by-role-of (IsSource s) is d = let clash : ◌≡◌ {A = Option Port} None (Some q) = rw is at d in cc
    by-role-of Nobody is d = let clash : ◌≡◌ {A = Option Port} None (Some q) = rw is at d in cc

pub run-taken : (plan : Plan) (events : List Event) → IsCheckedPlan plan → TakenInOrder plan events
unfolding run
run-taken plan events checked x p u q input there j k d =
    let start = new_world plan in
    let same = new_world-plan plan in
    let in_start : slice_get (inputs_of start.plan (role_of start.plan x)) p ≡ Some u = subst (λ (pl : Plan). slice_get (inputs_of pl (role_of pl x)) p ≡ Some u) (sym same) input in
    let h = taken-run start 1 events x p u [] (new_world-fine plan checked) in_start (λ r first. none-taken start x u [] r refl (λ b. new-port plan x p r first)) q there in
    subst (λ (pl : Plan). IsBatchAt (line_of pl x u q) (run_from start events).envelopes k j) (run_from-plan start events ∙ same) (h.each j k d)
