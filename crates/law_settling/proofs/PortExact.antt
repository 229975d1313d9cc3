-- What a packet makes of a reader's port, exactly: the inlet, and what is known of each replica.
use Rattle.std.proofs.Common.{◌≡◌, ℕ, Bool, true, false, cond, ◌&&◌, ◌==◌, List, [], ◌∷◌, refl, sym, ap, subst, ◌∙◌, Option, Some, None, slice_get, unwrap_or, inl, inr}
use Rattle.dpc_lists.specs.Lists.{nth, changed}
use Rattle.dpc_model.specs.Inlets.{same_sess, take_batch}
use Rattle.dpc_model.specs.Granting.{grants, with_promise, may_enter_by}
use Rattle.dpc_model.specs.Actors.{replicas_of}
use Rattle.dpc_model.specs.NodeStates.{is_up_failure}
use Rattle.dpc_model.specs.Ports.{Port, no_port, sender_at, without_ended_marks, on_beat, on_truncated, all_truncated}
use Rattle.dpc_model.specs.declared.tuples.Item.{Item}
use Rattle.dpc_model.specs.declared.messages.Sess.{Sess}
use Rattle.dpc_model.specs.declared.messages.Beat.{Beat}
use Rattle.dpc_model.specs.declared.messages.Subscribe.{Subscribe}
use Rattle.dpc_model.specs.declared.messages.Message.{Message}
use Rattle.dpc_model.specs.declared.messages.Message.TheVariants as message
use Rattle.dpc_model.specs.declared.plans.Plan.{Plan}
use Rattle.dpc_model.specs.declared.plans.StreamRef.{StreamRef}
use Rattle.dpc_lists.proofs.Truths.{not-second}
use Rattle.dpc_lists.proofs.Elements.{get-map, get-changed, get-only}
use Rattle.dpc_lists.proofs.Somes.{some-pair}
use Rattle.node_model.specs.Mails.{mail, Packet, Plain, SnapFor, Stepped}
use Rattle.node_model.specs.Nodes.{Home, PlainNode, streams_of}
use Rattle.node_model.specs.NodeSteps.{idle_step, with_port, after_loss, after_taking, on_batch, on_subscribe, on_truncation, on_upstream_beat, on_peer_beat, on_ack, on_ask, on_grant, on_message, on_snap, with_marks_ended, packet_step, replica_number, reader_place, enter_step, on_snap_ask}
use Rattle.node_model.specs.Clients.{ClientState, client_stream, client_after_batch, client_message, client_packet, client_marks_ended, client_after_packet}
use Rattle.node_model.proofs.Mailed.{kept-port}
use Rattle.law_safety.proofs.Pointwise.{sender-of}
use Rattle.law_granting.proofs.Moves.{stamped-ports}
use Rattle.law_settling.proofs.Exact.{get-there, same-or}

-- what a packet of the replica of this number makes of a port
abbrev pub port_after : ℕ → Packet → Port → Port
port_after i (Plain (message.Batch u index items)) y = cond (y.chosen == i) (record y { inlet = (take_batch y.inlet u index items).after }) y
port_after i (Plain (message.Truncated u base)) y = on_truncated i u base y
port_after i (Plain (message.Beat b)) y = on_beat i b y
port_after i (Plain (message.Subscribe asked)) y = y
port_after i (Plain (message.Ack j n)) y = y
port_after i (Plain (message.Ask j n)) y = y
port_after i (Plain (message.Grant j n)) y = y
port_after i (Plain (message.SnapAsk j n)) y = y
port_after i (SnapFor j try s) y = y

-- the sender is a replica that the port reads, or another actor
pub data PortTook (plan : Plan) (ss : List StreamRef) (p a : ℕ) (packet : Packet) (y r : Port) : Type 0 where
  Mine : (i : ℕ) → sender_at plan ss a ≡ Some (p, i) → r ≡ port_after i packet y → PortTook plan ss p a packet y r
  Others : ((i : ℕ) → sender_at plan ss a ≡ Some (p, i) → ⊥) → r ≡ y → PortTook plan ss p a packet y r

-- a truncation that makes no node recover leaves a replica that is not truncated
abbrev pub NotLost : Packet → Port → Port → Type 0
NotLost packet y r = (u : Sess) (base : ℕ) → packet ≡ Plain (message.Truncated u base) → same_sess u y.inlet.sess ≡ true → all_truncated r ≡ false

none-mine : (o : Option (ℕ × ℕ)) (p : ℕ) → o ≡ None → (i : ℕ) → o ≡ Some (p, i) → ⊥
none-mine o p e i d = let clash : ◌≡◌ {A = Option (ℕ × ℕ)} None (Some (p, i)) = sym e ∙ d in cc

module _ (home : Home) (a p : ℕ) (y : Port) where
  abbrev Now : Packet → List Port → Type 0
  Now packet rs = (r : Port) × (slice_get rs p ≡ Some r) × PortTook home.plan (streams_of home) p a packet y r

  -- what leaves the port
  plain-now : (packet : Packet) (ps : List Port) → ((i : ℕ) → port_after i packet y ≡ y) → slice_get ps p ≡ Some y → Now packet ps
  plain-now packet ps same there = (y, there, by-sender (sender_at home.plan (streams_of home) a) refl)
    where
      by-sender : (o : Option (ℕ × ℕ)) → sender_at home.plan (streams_of home) a ≡ o → PortTook home.plan (streams_of home) p a packet y y
      by-sender None e = Others (none-mine (sender_at home.plan (streams_of home) a) p e) refl
      by-sender (Some pr) e = elim (same-or pr.0 p) [
        | inl one ↦ Mine pr.1 (e ∙ ap {B = Option (ℕ × ℕ)} (λ (z : ℕ). Some (z, pr.1)) one) (sym (same pr.1))
        | inr other ↦ Others (λ i d. other (some-pair pr.0 p pr.1 i (sym e ∙ d)).0) refl
      ]

  -- a change of one port
  changed-now : (packet : Packet) (pr : ℕ × ℕ) (f : Port → Port) (ps : List Port) → sender_at home.plan (streams_of home) a ≡ Some pr → slice_get ps p ≡ Some y → (pr.0 ≡ p → f y ≡ port_after pr.1 packet y) → Now packet (changed pr.0 f ps)
  changed-now packet pr f ps place there mine =
      elim (same-or pr.0 p) [
        | inl same ↦ (f y, subst (λ (z : ℕ). slice_get (changed z f ps) p ≡ Some (f y)) (sym same) (get-changed p f ps y there), Mine pr.1 (place ∙ ap {B = Option (ℕ × ℕ)} (λ (z : ℕ). Some (z, pr.1)) same) (mine same))
        | inr other ↦ (y, get-there pr.0 p f ps (λ e. other (sym e)) ∙ there, Others (λ i d. other (some-pair pr.0 p pr.1 i (sym place ∙ d)).0) refl)
      ]

  nth-is : (ps : List Port) → slice_get ps p ≡ Some y → nth no_port ps p ≡ y
  nth-is ps e = ap (λ (o : Option Port). unwrap_or o no_port) e

  batch-now : (u : Sess) (index : ℕ) (items : List Item) (o : Option (ℕ × ℕ)) (m : PlainNode) → sender_at home.plan (streams_of home) a ≡ o → slice_get m.ports p ≡ Some y → Now (Plain (message.Batch u index items)) (on_batch home u index items o m).ports
  batch-now u index items None m place there = (y, there, Others (none-mine (sender_at home.plan (streams_of home) a) p place) refl)
  batch-now u index items (Some pr) m place there =
      let port = nth no_port m.ports pr.0 in
      let t = take_batch port.inlet u index items in
      (elim (port.chosen == pr.1) as (λ b. (port.chosen == pr.1) ≡ b → Now (Plain (message.Batch u index items)) (cond b (after_taking home pr.0 t m) m).ports) [
        | false ↦ λ e. (
          y,
          there,
          elim (same-or pr.0 p) [
            | inr other ↦ Others (λ i d. other (some-pair pr.0 p pr.1 i (sym place ∙ d)).0) refl
            | inl same ↦
                let is : port ≡ y = ap (λ (z : ℕ). nth no_port m.ports z) same ∙ nth-is m.ports there in
                let test : (y.chosen == pr.1) ≡ false = ap (λ (z : Port). z.chosen == pr.1) (sym is) ∙ e in
                Mine pr.1 (place ∙ ap {B = Option (ℕ × ℕ)} (λ (z : ℕ). Some (z, pr.1)) same) (sym (ap (λ (b : Bool). cond b (record y { inlet = (take_batch y.inlet u index items).after }) y) test))
          ],
        )
        | true ↦ λ e. subst (λ (ps : List Port). Now (Plain (message.Batch u index items)) ps) (sym (stamped-ports home t.answer (with_port pr.0 (λ z. record z { inlet = t.after }) m)))
            (changed-now (Plain (message.Batch u index items)) pr (λ z. record z { inlet = t.after }) m.ports place there (λ same.
            let is : port ≡ y = ap (λ (z : ℕ). nth no_port m.ports z) same ∙ nth-is m.ports there in
            let test : (y.chosen == pr.1) ≡ true = ap (λ (z : Port). z.chosen == pr.1) (sym is) ∙ e in
            ap (λ (z : Port). record y { inlet = (take_batch z.inlet u index items).after }) is ∙ sym (ap (λ (b : Bool). cond b (record y { inlet = (take_batch y.inlet u index items).after }) y) test)))
      ]) refl

  beat-now : (b : Beat) (o : Option (ℕ × ℕ)) (m : PlainNode) → sender_at home.plan (streams_of home) a ≡ o → slice_get m.ports p ≡ Some y → Now (Plain (message.Beat b)) (on_upstream_beat b o m).ports
  beat-now b None m place there = (y, there, Others (none-mine (sender_at home.plan (streams_of home) a) p place) refl)
  beat-now b (Some pr) m place there = changed-now (Plain (message.Beat b)) pr (on_beat pr.1 b) m.ports place there (λ same. refl)

  peer-now : (b : Beat) (o : Option ℕ) (m : PlainNode) → Now (Plain (message.Beat b)) m.ports → Now (Plain (message.Beat b)) (on_peer_beat b o m).ports
  peer-now b None m h = h
  peer-now b (Some r) m h = h

  lost-recovers : (m : PlainNode) → (after_loss home m).recovering ≡ true
  unfolding after_loss
  lost-recovers m = refl

  abbrev NowWhole : Packet → List Port → Type 0
  NowWhole packet rs = (r : Port) × (slice_get rs p ≡ Some r) × PortTook home.plan (streams_of home) p a packet y r × ((i : ℕ) → sender_at home.plan (streams_of home) a ≡ Some (p, i) → NotLost packet y r)

  -- a truncation that makes no node recover
  truncation-now : (u : Sess) (base : ℕ) (o : Option (ℕ × ℕ)) (m : PlainNode) → sender_at home.plan (streams_of home) a ≡ o → slice_get m.ports p ≡ Some y → (on_truncation home u base o m).recovering ≡ false → NowWhole (Plain (message.Truncated u base)) (on_truncation home u base o m).ports
  truncation-now u base None m place there calm =
      let none = none-mine (sender_at home.plan (streams_of home) a) p place in (y, there, Others none refl, λ i d. absurd (none i d))
  truncation-now u base (Some pr) m place there calm =
      let old = nth no_port m.ports pr.0 in
      let port = on_truncated pr.1 u base old in
      let n = with_port pr.0 (λ _. port) m in
      (elim (same_sess u old.inlet.sess && all_truncated port) as (λ b. (same_sess u old.inlet.sess && all_truncated port) ≡ b → (cond b (after_loss home n) n).recovering ≡ false → NowWhole (Plain (message.Truncated u base)) (cond b (after_loss home n) n).ports) [
        | true ↦ λ e d. let no : true ≡ false = sym (lost-recovers n) ∙ d in cc
        | false ↦ λ e d.
            elim (same-or pr.0 p) [
              | inr other ↦
                  let none = λ (i : ℕ) (at : sender_at home.plan (streams_of home) a ≡ Some (p, i)). other (some-pair pr.0 p pr.1 i (sym place ∙ at)).0 in
                  (y, get-there pr.0 p (λ _. port) m.ports (λ f. other (sym f)) ∙ there, Others none refl, λ i at. absurd (none i at))
              | inl same ↦
                  let is : old ≡ y = ap (λ (z : ℕ). nth no_port m.ports z) same ∙ nth-is m.ports there in (
                    port,
                    subst (λ (z : ℕ). slice_get (changed z (λ _. port) m.ports) p ≡ Some port) (sym same) (get-changed p (λ _. port) m.ports y there),
                    Mine pr.1 (place ∙ ap {B = Option (ℕ × ℕ)} (λ (z : ℕ). Some (z, pr.1)) same) (ap (λ (z : Port). on_truncated pr.1 u base z) is),
                    λ i at v low packet mine. not-all u v base low old y port packet is mine e,
                  )
            ]
      ]) refl calm
    where
      not-all : (u v : Sess) (base low : ℕ) (old y port : Port) → Plain (message.Truncated u base) ≡ Plain (message.Truncated v low) → old ≡ y → same_sess v y.inlet.sess ≡ true → (same_sess u old.inlet.sess && all_truncated port) ≡ false → all_truncated port ≡ false
      not-all u v base low old y port packet is mine e =
          let one : u ≡ v = cc in
          not-second (same_sess u old.inlet.sess) (all_truncated port) (ap (λ (w : Sess). same_sess w old.inlet.sess) one ∙ ap (λ (z : Port). same_sess v z.inlet.sess) is ∙ mine) e

  ack-ports : (i count : ℕ) (k : Option ℕ) (m : PlainNode) → (on_ack home i count k m).ports ≡ m.ports
  ack-ports i count None m = refl
  ack-ports i count (Some k) m = refl

  subscribe-ports : (asked : Subscribe) (k : Option ℕ) (m : PlainNode) → (on_subscribe home asked k m).after.ports ≡ m.ports
  subscribe-ports asked None m = refl
  subscribe-ports asked (Some k) m = refl

  ask-ports : (i ask : ℕ) (r : Option ℕ) (m : PlainNode) → (on_ask home i ask r m).after.ports ≡ m.ports
  ask-ports i ask None m = refl
  ask-ports i ask (Some r) m = elim (grants m.grants m.state r (i, ask)) as (λ b. (cond {A = Stepped PlainNode} b (record { after = record m { grants = with_promise m.grants r (i, ask) }; sends = mail (nth 0 (replicas_of home.plan home.frag) r) (message.Grant i ask) ∷ [] }) (idle_step m)).after.ports ≡ m.ports) [ true ↦ refl | false ↦ refl ]

  grant-ports : (i ask : ℕ) (m : PlainNode) → (on_grant home i ask m).after.ports ≡ m.ports
  unfolding enter_step
  grant-ports i ask m = elim (is_up_failure m.state && may_enter_by m.grants (i, ask)) as (λ b. (cond {A = Stepped PlainNode} b (enter_step home m) (idle_step m)).after.ports ≡ m.ports) [ true ↦ refl | false ↦ refl ]

  told : (packet : Packet) (ps : List Port) → ((u : Sess) (base : ℕ) → packet ≡ Plain (message.Truncated u base) → ⊥) → Now packet ps → NowWhole packet ps
  told packet ps none h = (h.0, h.1, h.2, λ i at u base is. absurd (none u base is))

  message-now : (m : Message) (n : PlainNode) → n.recovering ≡ false → slice_get n.ports p ≡ Some y → (on_message home a m n).after.recovering ≡ false → NowWhole (Plain m) (on_message home a m n).after.ports
  message-now (message.Batch u index items) n whole there calm = told (Plain (message.Batch u index items)) _ (λ v b e. cc) (batch-now u index items (sender_at home.plan (streams_of home) a) n refl there)
  message-now (message.Truncated u base) n whole there calm = truncation-now u base (sender_at home.plan (streams_of home) a) n refl there calm
  message-now (message.Beat b) n whole there calm = told (Plain (message.Beat b)) _ (λ v c e. cc) (peer-now b (replica_number home a) (on_upstream_beat b (sender_at home.plan (streams_of home) a) n) (beat-now b (sender_at home.plan (streams_of home) a) n refl there))
  message-now (message.Subscribe asked) n whole there calm =
      told (Plain (message.Subscribe asked)) _ (λ v b e. cc) (plain-now (Plain (message.Subscribe asked)) _ (λ i. refl) (ap (λ (ps : List Port). slice_get ps p) (by-recovering n.recovering) ∙ there))
    where
      by-recovering : (b : Bool) → (cond {A = Stepped PlainNode} b (idle_step n) (on_subscribe home asked (reader_place home a) n)).after.ports ≡ n.ports
      by-recovering true = refl
      by-recovering false = subscribe-ports asked (reader_place home a) n
  message-now (message.Ack i count) n whole there calm =
      told (Plain (message.Ack i count)) _ (λ v b e. cc) (plain-now (Plain (message.Ack i count)) _ (λ j. refl) (ap (λ (ps : List Port). slice_get ps p) (by-recovering n.recovering) ∙ there))
    where
      by-recovering : (b : Bool) → (cond {A = PlainNode} b n (on_ack home i count (reader_place home a) n)).ports ≡ n.ports
      by-recovering true = refl
      by-recovering false = ack-ports i count (reader_place home a) n
  message-now (message.Ask i ask) n whole there calm = told (Plain (message.Ask i ask)) _ (λ v b e. cc) (plain-now (Plain (message.Ask i ask)) _ (λ j. refl) (ap (λ (ps : List Port). slice_get ps p) (ask-ports i ask (replica_number home a) n) ∙ there))
  message-now (message.Grant i ask) n whole there calm = told (Plain (message.Grant i ask)) _ (λ v b e. cc) (plain-now (Plain (message.Grant i ask)) _ (λ j. refl) (ap (λ (ps : List Port). slice_get ps p) (grant-ports i ask n) ∙ there))
  message-now (message.SnapAsk i try) n whole there calm =
      told (Plain (message.SnapAsk i try)) _ (λ v b e. cc) (plain-now (Plain (message.SnapAsk i try)) _ (λ j. refl) (ap (λ (ps : List Port). slice_get ps p) (by-recovering n.recovering) ∙ there))
    where
      by-recovering : (b : Bool) → (cond {A = Stepped PlainNode} b (idle_step n) (on_snap_ask home a i try n)).after.ports ≡ n.ports
      by-recovering true = refl
      by-recovering false = refl

-- a node that does not recover, before and after
pub node-exact : (home : Home) (a p : ℕ) (packet : Packet) (n : PlainNode) (q : Port) → n.recovering ≡ false → slice_get n.ports p ≡ Some q → (packet_step home a packet n).after.recovering ≡ false →
    NowWhole home a p (without_ended_marks q) packet (packet_step home a packet n).after.ports
unfolding packet_step
node-exact home a p (Plain m) n q whole there calm = message-now home a p (without_ended_marks q) m (with_marks_ended n) whole (get-map without_ended_marks n.ports p q there) calm
node-exact home a p (SnapFor i try s) n q whole there calm =
    let m = with_marks_ended n in
    let same : on_snap home i try s m ≡ m = rw whole refl in
    let at : slice_get (on_snap home i try s m).ports p ≡ Some (without_ended_marks q) = ap (λ (z : PlainNode). slice_get z.ports p) same ∙ get-map without_ended_marks n.ports p q there in
    told home a p (without_ended_marks q) (SnapFor i try s) (on_snap home i try s m).ports (λ v b e. cc) (plain-now home a p (without_ended_marks q) (SnapFor i try s) (on_snap home i try s m).ports (λ j. refl) at)

-- ---- a client

message-took : (r : ℕ) (m : Message) (z : ClientState) → (client_message r m z).port ≡ port_after r (Plain m) z.port
message-took r (message.Batch u index items) z =
    elim (z.port.chosen == r) as (λ b. (cond {A = ClientState} b (client_after_batch (take_batch z.port.inlet u index items) z) z).port ≡ cond b (record z.port { inlet = (take_batch z.port.inlet u index items).after }) z.port) [
      | true ↦ kept-port (take_batch z.port.inlet u index items).answer (record z { port = record z.port { inlet = (take_batch z.port.inlet u index items).after } })
      | false ↦ refl
    ]
message-took r (message.Beat b) z = refl
message-took r (message.Truncated u base) z = refl
message-took r (message.Subscribe asked) z = refl
message-took r (message.Ack i n) z = refl
message-took r (message.Ask i n) z = refl
message-took r (message.Grant i n) z = refl
message-took r (message.SnapAsk i n) z = refl

module _ (plan : Plan) (c a : ℕ) where
  abbrev Stream : List StreamRef
  Stream = client_stream plan c ∷ []

  packet-took : (o : Option (ℕ × ℕ)) (packet : Packet) (z : ClientState) → sender_at plan Stream a ≡ o → PortTook plan Stream 0 a packet z.port (client_packet o packet z).port
  packet-took None packet z place = Others (none-mine (sender_at plan Stream a) 0 place) refl
  packet-took (Some pr) packet z place = Mine pr.1 (place ∙ ap {B = Option (ℕ × ℕ)} (λ (i : ℕ). Some (i, pr.1)) first) (by-packet packet)
    where
      first : pr.0 ≡ 0
      first = let found = sender-of plan (client_stream plan c ∷ []) a pr.0 pr.1 place in get-only (client_stream plan c) found.stream pr.0 found.at

      by-packet : (packet : Packet) → (client_packet (Some pr) packet z).port ≡ port_after pr.1 packet z.port
      by-packet (Plain m) = message-took pr.1 m z
      by-packet (SnapFor i try s) = refl

  pub client-exact : (packet : Packet) (z : ClientState) → PortTook plan Stream 0 a packet (without_ended_marks z.port) (client_after_packet plan c a packet z).port
  unfolding client_after_packet
  client-exact packet z = packet-took (sender_at plan Stream a) packet (client_marks_ended z) refl
