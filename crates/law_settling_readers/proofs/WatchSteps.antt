-- What is said of the incarnation of each replica that a port knows of holds after every step, where each beat that comes has it.
use Rattle.std.proofs.Common.{◌≡◌, ℕ, zero, suc, ◌*◌, Bool, true, false, cond, not, ◌&&◌, ◌==◌, nat_lt, List, [], ◌∷◌, map, refl, sym, ap, subst, ◌∙◌, Option, Some, None, slice_get, unwrap_or, ◌⊎◌, inl, inr}
use Rattle.dpc_lists.specs.Lists.{nth, changed}
use Rattle.dpc_model.specs.Inlets.{same_sess, take_batch}
use Rattle.dpc_model.specs.Replicas.{Watch, new_watch, after_beat, after_tick, after_count, with_mark}
use Rattle.dpc_model.specs.Granting.{may_enter_by, grants, with_promise}
use Rattle.dpc_model.specs.Actors.{replicas_of, senders_of}
use Rattle.dpc_model.specs.Ports.{Port, no_port, sender_at, without_ended_marks, on_beat, on_truncated, all_truncated, port_after_tick, port_after_choice}
use Rattle.dpc_model.specs.declared.tuples.Item.{Item}
use Rattle.dpc_model.specs.declared.tuples.Tuple.{Tuple}
use Rattle.dpc_model.specs.declared.messages.NodeState.{NodeState}
use Rattle.dpc_model.specs.declared.messages.Sess.{Sess}
use Rattle.dpc_model.specs.declared.messages.Subscribe.{Subscribe}
use Rattle.dpc_model.specs.declared.messages.Beat.{Beat}
use Rattle.dpc_model.specs.declared.messages.Message.{Message}
use Rattle.dpc_model.specs.declared.messages.Message.TheVariants as message
use Rattle.dpc_model.specs.declared.plans.Plan.{Plan}
use Rattle.dpc_model.specs.declared.plans.StreamRef.{StreamRef}
use Rattle.dpc_model.specs.declared.plans.StreamRef.TheVariants.{Source}
use Rattle.node_model.specs.Mails.{Snap, Packet, Plain, SnapFor, mail, Stepped}
use Rattle.dpc_model.specs.NodeStates.{is_up_failure}
use Rattle.dpc_lists.proofs.Elements.{get-only}
use Rattle.dpc_lists.proofs.Places.{place-nth}
use Rattle.dpc_model.proofs.Subs.{nth-there}
use Rattle.dpc_lists.proofs.Somes.{some-same}
use Rattle.node_model.specs.Nodes.{Home, PlainNode, streams_of}
use Rattle.node_model.specs.NodeSteps.{idle_step, then_do, replica_number, reader_place, with_port, emptied_port, adopted_ports, enter_step, after_loss, after_adoption, after_taking, on_batch, on_subscribe, on_truncation, on_upstream_beat, on_peer_beat, on_ack, on_ask, on_grant, on_snap_ask, on_snap, on_message, on_packet, with_marks_ended, packet_step, mill_step, after_clock, may_start_afresh, choice_step, ask_step, announcing_step, serving_step, snapshot_ask_step, rest_of_tick, with_fresh_start, tick_step}
use Rattle.node_model.specs.Clients.{ClientState, client_stream, client_after_batch, client_message, client_packet, client_marks_ended, client_after_packet, client_tick_step}
use Rattle.node_model.proofs.Mailed.{kept-port}
use Rattle.law_safety.proofs.Pointwise.{sender-of}
use Rattle.law_granting.proofs.Moves.{get-mapped, get-was, stamped-ports, reconciling-ports, processing-ports}

-- the actor that has a place at a reader of these streams
abbrev pub placed_at : Plan → List StreamRef → ℕ → ℕ → ℕ
placed_at plan ss p r = nth 0 (senders_of plan (nth (Source 0) ss p)) r

pub placed-is : (plan : Plan) (ss : List StreamRef) (a p r : ℕ) → sender_at plan ss a ≡ Some (p, r) → placed_at plan ss p r ≡ a
placed-is plan ss a p r e =
    let k = sender-of plan ss a p r e in
    subst (λ (s : StreamRef). nth 0 (senders_of plan s) r ≡ a) (sym (ap (λ (o : Option StreamRef). unwrap_or o (Source 0)) k.at)) (place-nth a (senders_of plan k.stream) r k.place)

-- ---- watches

-- this holds of each replica and of the incarnation that is known of it
abbrev pub AreTold : (ℕ → ℕ → Type 0) → List Watch → Type 0
AreTold L ws = (i : ℕ) (v : Watch) → slice_get ws i ≡ Some v → L i v.inc

told-map : (L : ℕ → ℕ → Type 0) (f : Watch → Watch) (ws : List Watch) → ((w : Watch) → (f w).inc ≡ w.inc) → AreTold L ws → AreTold L (map f ws)
told-map L f ws same h i v e = let k = get-mapped f ws i v e in subst (λ (n : ℕ). L i n) (sym (same k.0) ∙ ap (λ (w : Watch). w.inc) k.2) (h i k.0 k.1)

told-changed : (L : ℕ → ℕ → Type 0) (j : ℕ) (f : Watch → Watch) (ws : List Watch) → ((w : Watch) → ((f w).inc ≡ w.inc) ⊎ L j (f w).inc) → AreTold L ws → AreTold L (changed j f ws)
told-changed L j f ws one h i v e =
    let k = get-was j f ws i v e in
    elim k.2 [
      | inl same ↦ subst (λ (w : Watch). L i w.inc) same (h i k.0 k.1)
      | inr here ↦ elim (one k.0) [
        | inl still ↦ subst (λ (n : ℕ). L i n) (sym still ∙ ap (λ (w : Watch). w.inc) here.1) (h i k.0 k.1)
        | inr new ↦ subst (λ (w : Watch). L i w.inc) here.1 (subst (λ (x : ℕ). L x (f k.0).inc) (sym here.0) new)
      ]
    ]

pub told-new : (L : ℕ → ℕ → Type 0) (xs : List ℕ) → ((i : ℕ) → L i 0) → AreTold L (map (λ _. new_watch) xs)
told-new L xs first i v e = let k = get-mapped (λ (_ : ℕ). new_watch) xs i v e in subst (λ (w : Watch). L i w.inc) k.2 (first i)

beaten : (L : ℕ → ℕ → Type 0) (j n : ℕ) (s : NodeState) (recovering : Bool) (w : Watch) → L j n → ((after_beat n s recovering w).inc ≡ w.inc) ⊎ L j (after_beat n s recovering w).inc
beaten L j n s recovering w h =
    elim (nat_lt n w.inc) as (λ b. ((cond {A = Watch} b w (record w { inc = n; ticks = 0; said = Some (s, recovering) })).inc ≡ w.inc) ⊎ L j (cond {A = Watch} b w (record w { inc = n; ticks = 0; said = Some (s, recovering) })).inc) [
      | true ↦ inl refl
      | false ↦ inr h
    ]

-- ---- one port

beat-told : (L : ℕ → ℕ → Type 0) (r : ℕ) (b : Beat) (q : Port) → L r b.inc → AreTold L q.watches → AreTold L (on_beat r b q).watches
beat-told L r b q new h = told-changed L r (after_beat b.inc b.state b.recovering) q.watches (λ w. beaten L r b.inc b.state b.recovering w new) h

truncated-told : (L : ℕ → ℕ → Type 0) (r base : ℕ) (u : Sess) (q : Port) → AreTold L q.watches → AreTold L (on_truncated r u base q).watches
truncated-told L r base u q h = elim (same_sess u q.inlet.sess) as (λ b. AreTold L (cond b (changed r (with_mark base) q.watches) q.watches)) [
  | true ↦ told-changed L r (with_mark base) q.watches (λ w. inl refl) h
  | false ↦ h
]

marked-told : (L : ℕ → ℕ → Type 0) (q : Port) → AreTold L q.watches → AreTold L (without_ended_marks q).watches
marked-told L q h = told-map L (after_count _) q.watches (λ w. refl) h

ticked-told : (L : ℕ → ℕ → Type 0) (q : Port) → AreTold L q.watches → AreTold L (port_after_tick q).watches
ticked-told L q h = told-map L after_tick q.watches (λ w. refl) h

-- ---- all ports of a node

abbrev pub PortsTold : (ℕ → ℕ → ℕ → Type 0) → List Port → Type 0
PortsTold L ps = (p : ℕ) (q : Port) → slice_get ps p ≡ Some q → AreTold (L p) q.watches

module _ (L : ℕ → ℕ → ℕ → Type 0) where
  ports-mapped : (f : Port → Port) (ps : List Port) → ((p : ℕ) (q : Port) → AreTold (L p) q.watches → AreTold (L p) (f q).watches) → PortsTold L ps → PortsTold L (map f ps)
  ports-mapped f ps one h p q e = let k = get-mapped f ps p q e in subst (λ (x : Port). AreTold (L p) x.watches) k.2 (one p k.0 (h p k.0 k.1))

  ports-changed : (i : ℕ) (f : Port → Port) (ps : List Port) → ((q : Port) → slice_get ps i ≡ Some q → AreTold (L i) q.watches → AreTold (L i) (f q).watches) → PortsTold L ps → PortsTold L (changed i f ps)
  ports-changed i f ps one h p q e =
      let k = get-was i f ps p q e in
      elim k.2 [
        | inl same ↦ subst (λ (x : Port). AreTold (L p) x.watches) same (h p k.0 k.1)
        | inr here ↦
            let there = subst (λ (x : ℕ). slice_get ps x ≡ Some k.0) here.0 k.1 in
            subst (λ (x : Port). AreTold (L p) x.watches) here.1 (subst (λ (x : ℕ). AreTold (L x) (f k.0).watches) (sym here.0) (one k.0 there (h i k.0 there)))
      ]

  adopted-told : (b : ℕ) (tss : List (List Tuple)) (ps : List Port) → PortsTold L ps → PortsTold L (adopted_ports b tss ps)
  adopted-told b tss ps h p r e = let k = among tss ps p r e in subst (λ (ws : List Watch). AreTold (L p) ws) (sym k.2) (h p k.0 k.1)
    where
      among : (tss : List (List Tuple)) (ps : List Port) (p : ℕ) (r : Port) → slice_get (adopted_ports b tss ps) p ≡ Some r → (q : Port) × (slice_get ps p ≡ Some q) × (r.watches ≡ q.watches)
      among [] ps p r e = cc
      among (ts ∷ tss) [] p r e = cc
      among (ts ∷ tss) (q ∷ ps) zero r e = (q, refl, ap (λ (x : Port). x.watches) (some-same r (emptied_port ts b q) (sym e)))
      among (ts ∷ tss) (q ∷ ps) (suc p) r e = among tss ps p r e

  -- ---- a packet

  abbrev At : PlainNode → Type 0
  At n = PortsTold L n.ports

  abbrev Ok : Stepped PlainNode → Type 0
  Ok t = PortsTold L t.after.ports

  module _ (home : Home) (a : ℕ) where
    -- a beat of the sender has it
    abbrev BeatTold : Packet → Type 0
    BeatTold packet = (b : Beat) (p r : ℕ) → packet ≡ Plain (message.Beat b) → placed_at home.plan (streams_of home) p r ≡ a → L p r b.inc

    batch-told : (u : Sess) (index : ℕ) (items : List Item) (o : Option (ℕ × ℕ)) (n : PlainNode) → At n → At (on_batch home u index items o n)
    batch-told u index items None n h = h
    batch-told u index items (Some pr) n h =
        let port = nth no_port n.ports pr.0 in
        let t = take_batch port.inlet u index items in
        let f : Port → Port = λ q. record q { inlet = t.after } in
        elim (port.chosen == pr.1) as (λ b. At (cond b (after_taking home pr.0 t n) n)) [
          | true ↦ subst (λ (ps : List Port). PortsTold L ps) (sym (stamped-ports home t.answer (with_port pr.0 f n))) (ports-changed pr.0 f n.ports (λ q there k. k) h)
          | false ↦ h
        ]

    truncation-told : (u : Sess) (base : ℕ) (o : Option (ℕ × ℕ)) (n : PlainNode) → At n → At (on_truncation home u base o n)
    unfolding after_loss
    truncation-told u base None n h = h
    truncation-told u base (Some pr) n h =
        let old = nth no_port n.ports pr.0 in
        let port = on_truncated pr.1 u base old in
        let m = with_port pr.0 (λ _. port) n in
        let k = ports-changed pr.0 (λ _. port) n.ports
        (λ q there k. truncated-told (L pr.0) pr.1 base u old (subst (λ (x : Port). AreTold (L pr.0) x.watches) (sym (nth-there n.ports pr.0 q there)) k)) h in
        elim (same_sess u old.inlet.sess && all_truncated port) as (λ b. At (cond b (after_loss home m) m)) [
          | true ↦ ports-mapped (emptied_port [] 0) m.ports (λ p q z. z) k
          | false ↦ k
        ]

    upstream-told : (b : Beat) (o : Option (ℕ × ℕ)) (n : PlainNode) → sender_at home.plan (streams_of home) a ≡ o → BeatTold (Plain (message.Beat b)) → At n → At (on_upstream_beat b o n)
    upstream-told b None n place beat h = h
    upstream-told b (Some pr) n place beat h =
        ports-changed pr.0 (on_beat pr.1 b) n.ports (λ q there k. beat-told (L pr.0) pr.1 b q (beat b pr.0 pr.1 refl (placed-is home.plan (streams_of home) a pr.0 pr.1 place)) k) h

    peer-told : (b : Beat) (o : Option ℕ) (n : PlainNode) → At n → At (on_peer_beat b o n)
    peer-told b None n h = h
    peer-told b (Some r) n h = h

    ack-told : (i count : ℕ) (o : Option ℕ) (n : PlainNode) → At n → At (on_ack home i count o n)
    ack-told i count None n h = h
    ack-told i count (Some k) n h = h

    subscribe-told : (asked : Subscribe) (o : Option ℕ) (n : PlainNode) → At n → Ok (on_subscribe home asked o n)
    subscribe-told asked None n h = h
    subscribe-told asked (Some k) n h = h

    entered-told : (n : PlainNode) → At n → Ok (enter_step home n)
    unfolding enter_step
    entered-told n h = h

    ask-told : (i ask : ℕ) (o : Option ℕ) (n : PlainNode) → At n → Ok (on_ask home i ask o n)
    ask-told i ask None n h = h
    ask-told i ask (Some r) n h =
        elim (grants n.grants n.state r (i, ask)) as (λ b. Ok (cond b (record { after = record n { grants = with_promise n.grants r (i, ask) }; sends = mail (nth 0 (replicas_of home.plan home.frag) r) (message.Grant i ask) ∷ [] }) (idle_step n))) [
          | true ↦ h
          | false ↦ h
        ]

    grant-told : (i ask : ℕ) (n : PlainNode) → At n → Ok (on_grant home i ask n)
    grant-told i ask n h = elim (is_up_failure n.state && may_enter_by n.grants (i, ask)) as (λ b. Ok (cond b (enter_step home n) (idle_step n))) [ true ↦ entered-told n h | false ↦ h ]

    unless-told : (n : PlainNode) (t : Stepped PlainNode) → At n → Ok t → Ok (cond n.recovering (idle_step n) t)
    unless-told n t h k = elim n.recovering as (λ b. Ok (cond b (idle_step n) t)) [ true ↦ h | false ↦ k ]

    message-told : (m : Message) (n : PlainNode) → BeatTold (Plain m) → At n → Ok (on_message home a m n)
    message-told (message.Batch u index items) n beat h = batch-told u index items (sender_at home.plan (streams_of home) a) n h
    message-told (message.Subscribe asked) n beat h = unless-told n (on_subscribe home asked (reader_place home a) n) h (subscribe-told asked (reader_place home a) n h)
    message-told (message.Truncated u base) n beat h = truncation-told u base (sender_at home.plan (streams_of home) a) n h
    message-told (message.Beat b) n beat h =
        let o = sender_at home.plan (streams_of home) a in
        peer-told b (replica_number home a) (on_upstream_beat b o n) (upstream-told b o n refl beat h)
    message-told (message.Ack i count) n beat h =
        elim n.recovering as (λ b. At (cond b n (on_ack home i count (reader_place home a) n))) [ true ↦ h | false ↦ ack-told i count (reader_place home a) n h ]
    message-told (message.Ask i ask) n beat h = ask-told i ask (replica_number home a) n h
    message-told (message.Grant i ask) n beat h = grant-told i ask n h
    message-told (message.SnapAsk i try) n beat h = unless-told n (on_snap_ask home a i try n) h h

    snap-told : (i try : ℕ) (s : Snap) (n : PlainNode) → At n → At (on_snap home i try s n)
    unfolding after_adoption
    snap-told i try s n h =
        elim (n.recovering && i == n.grants.inc && try == n.tries) as (λ b. At (cond b (after_adoption home s n) n)) [ true ↦ adopted-told (s.cursor * home.plan.width) s.inputs n.ports h | false ↦ h ]

    any-told : (packet : Packet) (n : PlainNode) → BeatTold packet → At n → Ok (on_packet home a packet n)
    any-told (Plain m) n beat h = message-told m n beat h
    any-told (SnapFor i try s) n beat h = snap-told i try s n h

    pub delivered-told : (packet : Packet) (n : PlainNode) → ((b : Beat) (p r : ℕ) → packet ≡ Plain (message.Beat b) → placed_at home.plan (streams_of home) p r ≡ a → L p r b.inc) → PortsTold L n.ports → PortsTold L (packet_step home a packet n).after.ports
    unfolding packet_step
    delivered-told packet n beat h = any-told packet (with_marks_ended n) beat (ports-mapped without_ended_marks n.ports (λ p q k. marked-told (L p) q k) h)

  -- ---- milling, and a tick

  pub milled-told : (home : Home) (r : ℕ) (n : PlainNode) → PortsTold L n.ports → PortsTold L (mill_step home r n).after.ports
  unfolding mill_step
  milled-told home r n h = h

  serving-told : (home : Home) (n : PlainNode) → At n → Ok (serving_step home n)
  serving-told home n h =
      let x = choice_step home n in
      let y = ask_step home x.after in
      subst (λ (ps : List Port). PortsTold L ps) (sym (processing-ports home y.after ∙ reconciling-ports home x.after)) (ports-mapped port_after_choice n.ports (λ p q k. k) h)

  going_on-told : (home : Home) (n : PlainNode) → At n → Ok (rest_of_tick home n)
  going_on-told home n h =
      elim n.recovering as (λ b. Ok (cond {A = Stepped PlainNode} (not b) (serving_step home n) (cond (may_start_afresh home n) (serving_step home (with_fresh_start n)) (then_do (snapshot_ask_step home n) (announcing_step home))))) [
        | false ↦ serving-told home n h
        | true ↦ elim (may_start_afresh home n) as (λ b. Ok (cond {A = Stepped PlainNode} b (serving_step home (with_fresh_start n)) (then_do (snapshot_ask_step home n) (announcing_step home)))) [
          | true ↦ serving-told home (with_fresh_start n) h
          | false ↦ h
        ]
      ]

  pub ticked-node-told : (home : Home) (now : ℕ) (n : PlainNode) → PortsTold L n.ports → PortsTold L (tick_step home now n).after.ports
  unfolding tick_step
  ticked-node-told home now n h =
      let marked = ports-mapped without_ended_marks n.ports (λ p q k. marked-told (L p) q k) h in
      going_on-told home (after_clock now (with_marks_ended n)) (ports-mapped port_after_tick (map without_ended_marks n.ports) (λ p q k. ticked-told (L p) q k) marked)

-- ---- a client

module _ (L : ℕ → ℕ → Type 0) (plan : Plan) (c : ℕ) where
  client-message-told : (r : ℕ) (m : Message) (x : ClientState) → ((b : Beat) → m ≡ message.Beat b → L r b.inc) → AreTold L x.port.watches → AreTold L (client_message r m x).port.watches
  client-message-told r (message.Batch u index items) x beat h =
      let t = take_batch x.port.inlet u index items in
      elim (x.port.chosen == r) as (λ b. AreTold L (cond b (client_after_batch t x) x).port.watches) [
        | true ↦ subst (λ (z : Port). AreTold L z.watches) (sym (kept-port t.answer (record x { port = record x.port { inlet = t.after } }))) h
        | false ↦ h
      ]
  client-message-told r (message.Truncated u base) x beat h = truncated-told L r base u x.port h
  client-message-told r (message.Beat b) x beat h = beat-told L r b x.port (beat b refl) h
  client-message-told r (message.Subscribe asked) x beat h = h
  client-message-told r (message.Ack i n) x beat h = h
  client-message-told r (message.Ask i n) x beat h = h
  client-message-told r (message.Grant i n) x beat h = h
  client-message-told r (message.SnapAsk i n) x beat h = h

  -- a beat of the replica at this place has it
  abbrev ClientBeatTold : ℕ → Packet → Type 0
  ClientBeatTold a packet = (b : Beat) (r : ℕ) → packet ≡ Plain (message.Beat b) → nth 0 (senders_of plan (client_stream plan c)) r ≡ a → L r b.inc

  client-packet-told : (a : ℕ) (o : Option (ℕ × ℕ)) (packet : Packet) (x : ClientState) → sender_at plan (client_stream plan c ∷ []) a ≡ o → ClientBeatTold a packet → AreTold L x.port.watches → AreTold L (client_packet o packet x).port.watches
  client-packet-told a None packet x place beat h = h
  client-packet-told a (Some pr) (SnapFor i try s) x place beat h = h
  client-packet-told a (Some pr) (Plain m) x place beat h =
      client-message-told pr.1 m x (λ b same. beat b pr.1 (ap (λ (z : Message). Plain z) same) at) h
    where
      at : nth 0 (senders_of plan (client_stream plan c)) pr.1 ≡ a
      at =
          let k = sender-of plan (client_stream plan c ∷ []) a pr.0 pr.1 place in
          subst (λ (i : ℕ). placed_at plan (client_stream plan c ∷ []) i pr.1 ≡ a) (get-only (client_stream plan c) k.stream pr.0 k.at) (placed-is plan (client_stream plan c ∷ []) a pr.0 pr.1 place)

  pub client-took-told : (a : ℕ) (packet : Packet) (x : ClientState) → ((b : Beat) (r : ℕ) → packet ≡ Plain (message.Beat b) → nth 0 (senders_of plan (client_stream plan c)) r ≡ a → L r b.inc) → AreTold L x.port.watches →
      AreTold L (client_after_packet plan c a packet x).port.watches
  unfolding client_after_packet
  client-took-told a packet x beat h = client-packet-told a (sender_at plan (client_stream plan c ∷ []) a) packet (client_marks_ended x) refl beat (marked-told L x.port h)

  pub client-ticked-told : (now : ℕ) (x : ClientState) → AreTold L x.port.watches → AreTold L (client_tick_step plan c now x).after.port.watches
  unfolding client_tick_step
  client-ticked-told now x h = ticked-told L (without_ended_marks x.port) (marked-told L x.port h)
