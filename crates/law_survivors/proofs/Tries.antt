-- The tries of a node that recovers: each loss begins the next one; and what its steps send of asks for a snapshot, and of snapshots.
use Rattle.std.proofs.Common.{◌≡◌, ℕ, ◌+◌, ◌-◌, Bool, true, false, cond, not, ◌&&◌, ◌==◌, nat_lt, min, List, [], ◌∷◌, ◌++◌, length, refl, sym, ap, subst, ◌∙◌, arith, Option, Some, None, ◌⊎◌, inl, inr}
use Rattle.dpc_lists.specs.Lists.{nth}
use Rattle.dpc_model.specs.Inlets.{same_sess, take_batch}
use Rattle.dpc_model.specs.Granting.{grants, with_promise, may_enter_by, own_key, with_ask}
use Rattle.dpc_model.specs.Actors.{replicas_of}
use Rattle.dpc_model.specs.Ports.{no_port, sender_at, on_truncated, all_truncated, subscriptions}
use Rattle.dpc_model.specs.Sessions.{no_session, given_items}
use Rattle.dpc_model.specs.declared.batches.Taken.{Taken}
use Rattle.dpc_model.specs.declared.batches.Taken.TheVariants.{Used, Old, Broken}
use Rattle.dpc_model.specs.declared.tuples.Item.{Item}
use Rattle.dpc_model.specs.declared.tuples.Item.TheVariants as item
use Rattle.dpc_model.specs.declared.messages.NodeState.TheVariants.{Stabilization}
use Rattle.dpc_model.specs.declared.messages.Sess.{Sess}
use Rattle.dpc_model.specs.declared.messages.Beat.{Beat}
use Rattle.dpc_model.specs.declared.messages.Subscribe.{Subscribe}
use Rattle.dpc_model.specs.declared.messages.Message.{Message}
use Rattle.dpc_model.specs.declared.messages.Message.TheVariants as message
use Rattle.dpc_model.specs.NodeStates.{is_up_failure, is_stabilization}
use Rattle.node_model.specs.Mails.{Packet, Plain, SnapFor, Mail, mail, mails, in_actor_order, Stepped, Snap}
use Rattle.node_model.specs.Nodes.{Home, PlainNode, streams_of, own_readers, node_frontier, out_stable, complete_buckets, ready, shown}
use Rattle.node_model.specs.NodeSteps.{idle_step, then_do, give, peers_of, replica_number, reader_place, with_port, enter_step, after_loss, snapshot, after_adoption, with_fresh_start, with_stamps_of, after_taking, on_batch, on_subscribe, on_truncation, on_upstream_beat, on_peer_beat, on_ack, on_ask, on_grant, on_snap_ask, on_message, with_marks_ended, packet_step, after_stable_buckets, given_stable, after_last_correction, mill_step, after_clock, may_start_afresh, choice_step, ask_step, with_closed, with_failure, given_by, processing_upto, processing_step, acks_from, beats, announcing_step, serving_step, snapshot_ask_step, tick_step}
use Rattle.dpc_lists.proofs.Truths.{both-of, eq-test}
use Rattle.law_settling.proofs.Exact.{IsIn, in-left}
use Rattle.law_settling.proofs.Knowing.{in-each}
use Rattle.law_safety.proofs.StepCases.{by-asking, by-processing, by-answer}
use Rattle.dpc_lists.proofs.Each.{Each, each-append}
use Rattle.law_granting.proofs.Each.{each-sorted, each-to, each-batches, each-subscription, each-acks, each-beats}

-- ---- the try

abbrev pub status : PlainNode → ℕ × Bool
status n = (n.tries, n.recovering)

-- the try stays, and nobody begins to recover; or there was a loss
abbrev pub TriesGo : PlainNode → PlainNode → Type 0
TriesGo n m = ((m.tries ≡ n.tries) × (m.recovering ≡ true → n.recovering ≡ true)) ⊎ ((m.tries ≡ n.tries + 1) × (m.recovering ≡ true))

-- a message changes neither, or there was a loss
abbrev MessageGo : PlainNode → PlainNode → Type 0
MessageGo n m = (status m ≡ status n) ⊎ ((m.tries ≡ n.tries + 1) × (m.recovering ≡ true))

go-so : (n m : PlainNode) → MessageGo n m → TriesGo n m
go-so n m (inl e) = inl (ap (λ (z : ℕ × Bool). z.0) e, λ r. sym (ap (λ (z : ℕ × Bool). z.1) e) ∙ r)
go-so n m (inr lost) = inr lost

stays-so : (n m : PlainNode) → MessageGo n m → n.recovering ≡ true → m.recovering ≡ true
stays-so n m (inl e) r = ap (λ (z : ℕ × Bool). z.1) e ∙ r
stays-so n m (inr lost) r = lost.1

module _ (home : Home) where
  -- a refusal of a stream that the node reads
  pub record IsRefusal (a : ℕ) (packet : Packet) : Type 0 where
    pub sess : Sess
    pub base : ℕ
    pub port : ℕ
    pub replica : ℕ
    pub packet_is : packet ≡ Plain (message.Truncated sess base)
    pub sender : sender_at home.plan (streams_of home) a ≡ Some (port, replica)

  stamped-status : (t : Taken) (n : PlainNode) → status (with_stamps_of home t n) ≡ status n
  stamped-status (Used items) n = refl
  stamped-status Old n = refl
  stamped-status Broken n = refl

  batch-status : (u : Sess) (index : ℕ) (items : List Item) (o : Option (ℕ × ℕ)) (n : PlainNode) → status (on_batch home u index items o n) ≡ status n
  batch-status u index items None n = refl
  batch-status u index items (Some pr) n =
      let t = take_batch (nth no_port n.ports pr.0).inlet u index items in
      elim ((nth no_port n.ports pr.0).chosen == pr.1) as (λ b. status (cond {A = PlainNode} b (after_taking home pr.0 t n) n) ≡ status n) [
        | true ↦ stamped-status t.answer (with_port pr.0 (λ q. record q { inlet = t.after }) n)
        | false ↦ refl
      ]

  subscribe-status : (asked : Subscribe) (o : Option ℕ) (n : PlainNode) → status (on_subscribe home asked o n).after ≡ status n
  subscribe-status asked None n = refl
  subscribe-status asked (Some k) n = refl

  pub lost-status : (n : PlainNode) → status (after_loss home n) ≡ (n.tries + 1, true)
  unfolding after_loss
  lost-status n = refl

  pub adopted-status : (s : Snap) (n : PlainNode) → status (after_adoption home s n) ≡ (n.tries, false)
  unfolding after_adoption
  adopted-status s n = refl

  truncation-go : (u : Sess) (base : ℕ) (o : Option (ℕ × ℕ)) (n : PlainNode) → MessageGo n (on_truncation home u base o n)
  truncation-go u base None n = inl refl
  truncation-go u base (Some pr) n =
      let old = nth no_port n.ports pr.0 in
      let port = on_truncated pr.1 u base old in
      let m = with_port pr.0 (λ _. port) n in
      elim (same_sess u old.inlet.sess && all_truncated port) as (λ b. MessageGo n (cond {A = PlainNode} b (after_loss home m) m)) [
        | true ↦ inr (ap (λ (z : ℕ × Bool). z.0) (lost-status m), ap (λ (z : ℕ × Bool). z.1) (lost-status m))
        | false ↦ inl refl
      ]

  ack-status : (i count : ℕ) (o : Option ℕ) (n : PlainNode) → status (on_ack home i count o n) ≡ status n
  ack-status i count None n = refl
  ack-status i count (Some k) n = refl

  ask-status : (i ask : ℕ) (o : Option ℕ) (n : PlainNode) → status (on_ask home i ask o n).after ≡ status n
  ask-status i ask None n = refl
  ask-status i ask (Some r) n =
      elim (grants n.grants n.state r (i, ask)) as (λ b. status (cond {A = Stepped PlainNode} b (record { after = record n { grants = with_promise n.grants r (i, ask) }; sends = mail (nth 0 (replicas_of home.plan home.frag) r) (message.Grant i ask) ∷ [] }) (idle_step n)).after ≡ status n) [
        | true ↦ refl
        | false ↦ refl
      ]

  enter-status : (n : PlainNode) → status (enter_step home n).after ≡ status n
  unfolding enter_step
  enter-status n = refl

  grant-status : (i ask : ℕ) (n : PlainNode) → status (on_grant home i ask n).after ≡ status n
  grant-status i ask n =
      elim (is_up_failure n.state && may_enter_by n.grants (i, ask)) as (λ b. status (cond {A = Stepped PlainNode} b (enter_step home n) (idle_step n)).after ≡ status n) [ true ↦ enter-status n | false ↦ refl ]

  unless-status : (b : Bool) (n : PlainNode) (s : Stepped PlainNode) → status s.after ≡ status n → status (cond {A = Stepped PlainNode} b (idle_step n) s).after ≡ status n
  unless-status true n s h = refl
  unless-status false n s h = h

  upstream-status : (b : Beat) (o : Option (ℕ × ℕ)) (n : PlainNode) → status (on_upstream_beat b o n) ≡ status n
  upstream-status b None n = refl
  upstream-status b (Some pr) n = refl

  peer-status : (b : Beat) (o : Option ℕ) (n : PlainNode) → status (on_peer_beat b o n) ≡ status n
  peer-status b None n = refl
  peer-status b (Some r) n = refl

  message-go : (a : ℕ) (m : Message) (n : PlainNode) → MessageGo n (on_message home a m n).after
  message-go a (message.Batch u index items) n = inl (batch-status u index items (sender_at home.plan (streams_of home) a) n)
  message-go a (message.Subscribe asked) n = inl (unless-status n.recovering n (on_subscribe home asked (reader_place home a) n) (subscribe-status asked (reader_place home a) n))
  message-go a (message.Truncated u base) n = truncation-go u base (sender_at home.plan (streams_of home) a) n
  message-go a (message.Beat b) n =
      let m = on_upstream_beat b (sender_at home.plan (streams_of home) a) n in
      inl (peer-status b (replica_number home a) m ∙ upstream-status b (sender_at home.plan (streams_of home) a) n)
  message-go a (message.Ack i count) n =
      inl (elim n.recovering as (λ b. status (cond {A = PlainNode} b n (on_ack home i count (reader_place home a) n)) ≡ status n) [ true ↦ refl | false ↦ ack-status i count (reader_place home a) n ])
  message-go a (message.Ask i ask) n = inl (ask-status i ask (replica_number home a) n)
  message-go a (message.Grant i ask) n = inl (grant-status i ask n)
  message-go a (message.SnapAsk i try) n = inl (unless-status n.recovering n (on_snap_ask home a i try n) refl)

  -- a packet
  pub packet-tries : (a : ℕ) (packet : Packet) (n : PlainNode) → TriesGo n (packet_step home a packet n).after
  unfolding packet_step
  packet-tries a (Plain m) n = go-so (with_marks_ended n) (on_message home a m (with_marks_ended n)).after (message-go a m (with_marks_ended n))
  packet-tries a (SnapFor i try s) n =
      let m = with_marks_ended n in
      elim (m.recovering && i == m.grants.inc && try == m.tries) as (λ b. TriesGo n (cond {A = PlainNode} b (after_adoption home s m) m)) [
        | true ↦ inl (ap (λ (z : ℕ × Bool). z.0) (adopted-status s m), λ r. let clash : false ≡ true = sym (ap (λ (z : ℕ × Bool). z.1) (adopted-status s m)) ∙ r in cc)
        | false ↦ inl (refl, λ r. r)
      ]

  -- a message ends no recovery
  pub plain-stays : (a : ℕ) (m : Message) (n : PlainNode) → n.recovering ≡ true → (packet_step home a (Plain m) n).after.recovering ≡ true
  unfolding packet_step
  plain-stays a m n r = stays-so (with_marks_ended n) (on_message home a m (with_marks_ended n)).after (message-go a m (with_marks_ended n)) r

  same-tries : (n m : PlainNode) → status m ≡ status n → m.tries ≡ n.tries + 1 → ⊥
  same-tries n m e more = let same = ap (λ (z : ℕ × Bool). z.0) e in omega (arith, same, more)

  -- a try that begins was refused
  message-refused : (a : ℕ) (m : Message) (n : PlainNode) → (on_message home a m n).after.tries ≡ n.tries + 1 → IsRefusal a (Plain m)
  message-refused a (message.Batch u index items) n more = absurd (same-tries n (on_message home a (message.Batch u index items) n).after (batch-status u index items (sender_at home.plan (streams_of home) a) n) more)
  message-refused a (message.Subscribe asked) n more = absurd (same-tries n (on_message home a (message.Subscribe asked) n).after (unless-status n.recovering n (on_subscribe home asked (reader_place home a) n) (subscribe-status asked (reader_place home a) n)) more)
  message-refused a (message.Truncated u base) n more = by-place (sender_at home.plan (streams_of home) a) refl more
    where
      by-place : (o : Option (ℕ × ℕ)) → sender_at home.plan (streams_of home) a ≡ o → (on_truncation home u base o n).tries ≡ n.tries + 1 → IsRefusal a (Plain (message.Truncated u base))
      by-place None at more = absurd (same-tries n n refl more)
      by-place (Some pr) at more = record { sess = u; base = base; port = pr.0; replica = pr.1; packet_is = refl; sender = at }
  message-refused a (message.Beat b) n more =
      let m = on_upstream_beat b (sender_at home.plan (streams_of home) a) n in
      absurd (same-tries n (on_peer_beat b (replica_number home a) m) (peer-status b (replica_number home a) m ∙ upstream-status b (sender_at home.plan (streams_of home) a) n) more)
  message-refused a (message.Ack i count) n more =
      absurd (same-tries n (cond {A = PlainNode} n.recovering n (on_ack home i count (reader_place home a) n))
      (elim n.recovering as (λ b. status (cond {A = PlainNode} b n (on_ack home i count (reader_place home a) n)) ≡ status n) [ true ↦ refl | false ↦ ack-status i count (reader_place home a) n ]) more)
  message-refused a (message.Ask i ask) n more = absurd (same-tries n (on_message home a (message.Ask i ask) n).after (ask-status i ask (replica_number home a) n) more)
  message-refused a (message.Grant i ask) n more = absurd (same-tries n (on_message home a (message.Grant i ask) n).after (grant-status i ask n) more)
  message-refused a (message.SnapAsk i try) n more = absurd (same-tries n (on_message home a (message.SnapAsk i try) n).after (unless-status n.recovering n (on_snap_ask home a i try n) refl) more)

  pub packet-refused : (a : ℕ) (packet : Packet) (n : PlainNode) → (packet_step home a packet n).after.tries ≡ n.tries + 1 → IsRefusal a packet
  unfolding packet_step
  packet-refused a (Plain m) n more = message-refused a m (with_marks_ended n) more
  packet-refused a (SnapFor i try s) n more =
      let m = with_marks_ended n in
      (elim (m.recovering && i == m.grants.inc && try == m.tries) as (λ b. (cond {A = PlainNode} b (after_adoption home s m) m).tries ≡ n.tries + 1 → IsRefusal a (SnapFor i try s)) [
        | true ↦ λ e. (let same = ap (λ (z : ℕ × Bool). z.0) (adopted-status s m) in absurd (omega (arith, same, e)))
        | false ↦ λ e. absurd (omega (arith, e))
      ]) more

  -- ---- what is done at once

  -- a snapshot for the present try ends the recovery
  pub ends-now : (a : ℕ) (s : Snap) (n : PlainNode) → n.recovering ≡ true → (packet_step home a (SnapFor n.grants.inc n.tries s) n).after.recovering ≡ false
  unfolding packet_step
  ends-now a s n recovers =
      let m = with_marks_ended n in
      let fits : (n.recovering && n.grants.inc == n.grants.inc && n.tries == n.tries) ≡ true = both-of (n.recovering && n.grants.inc == n.grants.inc) (n.tries == n.tries) (both-of n.recovering (n.grants.inc == n.grants.inc) recovers (eq-test n.grants.inc n.grants.inc refl)) (eq-test n.tries n.tries refl) in
      ap (λ (b : Bool). (cond {A = PlainNode} b (after_adoption home s m) m).recovering) fits ∙ ap (λ (z : ℕ × Bool). z.1) (adopted-status s m)

  -- who does not recover answers an ask for a snapshot
  pub answers-now : (a i try : ℕ) (n : PlainNode) → n.recovering ≡ false → IsIn (record { to = a; packet = SnapFor i try (snapshot home (with_marks_ended n)) }) (packet_step home a (Plain (message.SnapAsk i try)) n).sends
  unfolding packet_step
  answers-now a i try n whole =
      let m = with_marks_ended n in
      subst (λ (b : Bool). IsIn (record { to = a; packet = SnapFor i try (snapshot home m) }) (cond {A = Stepped PlainNode} b (idle_step m) (on_snap_ask home a i try m)).sends) (sym whole) (inl refl)

  -- ---- milling, and a tick

  pub milled-status : (r : ℕ) (n : PlainNode) → status (mill_step home r n).after ≡ status n
  unfolding mill_step
  milled-status r n = refl

  asking-status : (n : PlainNode) → status (ask_step home n).after ≡ status n
  asking-status n = by-asking home n (λ s. status s.after ≡ status n) (enter-status n) refl refl

  processing-status : (n : PlainNode) → status (processing_step home n).after ≡ status n
  processing-status n = by-processing home n (λ s. status s.after ≡ status n) refl (λ last e due. refl)

  serving-status : (n : PlainNode) → status (serving_step home n).after ≡ status n
  serving-status n =
      let b = choice_step home n in
      let c = ask_step home b.after in
      processing-status c.after ∙ asking-status b.after

  -- a tick keeps the try, and may end the recovery
  pub ticked-tries : (now : ℕ) (n : PlainNode) → ((tick_step home now n).after.tries ≡ n.tries) × ((tick_step home now n).after.recovering ≡ true → n.recovering ≡ true)
  unfolding tick_step
  ticked-tries now n =
      let m = after_clock now (with_marks_ended n) in
      let late : Stepped PlainNode = then_do (snapshot_ask_step home m) (announcing_step home) in
      elim m.recovering as (λ c. ((cond {A = Stepped PlainNode} (not c) (serving_step home m) (cond (may_start_afresh home m) (serving_step home (with_fresh_start m)) late)).after.tries ≡ m.tries)
      × ((cond {A = Stepped PlainNode} (not c) (serving_step home m) (cond (may_start_afresh home m) (serving_step home (with_fresh_start m)) late)).after.recovering ≡ true → m.recovering ≡ true)) [
        | false ↦ (let k = serving-status m in (ap (λ (z : ℕ × Bool). z.0) k, λ r. sym (ap (λ (z : ℕ × Bool). z.1) k) ∙ r))
        | true ↦ elim (may_start_afresh home m) as (λ c. ((cond {A = Stepped PlainNode} c (serving_step home (with_fresh_start m)) late).after.tries ≡ m.tries) × ((cond {A = Stepped PlainNode} c (serving_step home (with_fresh_start m)) late).after.recovering ≡ true → m.recovering ≡ true)) [
          | true ↦ (let k = serving-status (with_fresh_start m) in (ap (λ (z : ℕ × Bool). z.0) k, λ r. let clash : false ≡ true = sym (ap (λ (z : ℕ × Bool). z.1) k) ∙ r in cc))
          | false ↦ (refl, λ r. r)
        ]
      ]

  -- a tick behind which the node recovers asks each peer
  pub tick-asks : (now : ℕ) (n : PlainNode) (to : ℕ) → IsIn to (peers_of home) → (tick_step home now n).after.recovering ≡ true → IsIn (mail to (message.SnapAsk n.grants.inc n.tries)) (tick_step home now n).sends
  unfolding tick_step
  tick-asks now n to peer h =
      let m = after_clock now (with_marks_ended n) in
      let late : Stepped PlainNode = then_do (snapshot_ask_step home m) (announcing_step home) in
      (elim n.recovering as (λ c. n.recovering ≡ c → (cond {A = Stepped PlainNode} (not c) (serving_step home m) (cond (may_start_afresh home m) (serving_step home (with_fresh_start m)) late)).after.recovering ≡ true →
      IsIn (mail to (message.SnapAsk n.grants.inc n.tries)) (cond {A = Stepped PlainNode} (not c) (serving_step home m) (cond (may_start_afresh home m) (serving_step home (with_fresh_start m)) late)).sends) [
        | false ↦ λ e r. (let clash : false ≡ true = sym (ap (λ (z : ℕ × Bool). z.1) (serving-status m) ∙ e) ∙ r in cc)
        | true ↦ λ e r. elim (may_start_afresh home m) as (λ c. (cond {A = Stepped PlainNode} c (serving_step home (with_fresh_start m)) late).after.recovering ≡ true → IsIn (mail to (message.SnapAsk n.grants.inc n.tries)) (cond {A = Stepped PlainNode} c (serving_step home (with_fresh_start m)) late).sends) [
          | true ↦ λ k. (let clash : false ≡ true = sym (ap (λ (z : ℕ × Bool). z.1) (serving-status (with_fresh_start m))) ∙ k in cc)
          | false ↦ λ k. in-left _ (snapshot_ask_step home m).sends (announcing_step home m).sends (in-each home (message.SnapAsk n.grants.inc n.tries) to (peers_of home) peer)
        ] r
      ]) refl h

-- ---- what is sent

-- a subscription is so, an ask for a snapshot, and a snapshot
abbrev pub PacketSays : Type 0 → (ℕ → ℕ → Type 0) → (ℕ → ℕ → Snap → Type 0) → Packet → Type 0
PacketSays B A S (Plain (message.SnapAsk i n)) = A i n
PacketSays B A S (Plain (message.Batch u index items)) = Unit {0}
PacketSays B A S (Plain (message.Subscribe asked)) = B
PacketSays B A S (Plain (message.Truncated u base)) = Unit {0}
PacketSays B A S (Plain (message.Beat b)) = Unit {0}
PacketSays B A S (Plain (message.Ack i n)) = Unit {0}
PacketSays B A S (Plain (message.Ask i n)) = Unit {0}
PacketSays B A S (Plain (message.Grant i n)) = Unit {0}
PacketSays B A S (SnapFor i try s) = S i try s

abbrev pub MailSays : Type 0 → (ℕ → ℕ → Type 0) → (ℕ → ℕ → ℕ → Snap → Type 0) → Mail → Type 0
MailSays B A S m = PacketSays B A (S m.to) m.packet

-- a snapshot answers an ask of the packet's sender
pub record IsAnswer (home : Home) (a : ℕ) (packet : Packet) (n : PlainNode) (to i try : ℕ) (s : Snap) : Type 0 where
  pub to_is : to ≡ a
  pub asked : packet ≡ Plain (message.SnapAsk i try)
  pub snap : s ≡ snapshot home (with_marks_ended n)
  pub whole : n.recovering ≡ false

module _ (home : Home) (B : Type 0) (A : ℕ → ℕ → Type 0) (S : ℕ → ℕ → ℕ → Snap → Type 0) where
  abbrev Says : Mail → Type 0
  Says m = MailSays B A S m

  given-says : (items : List Item) (n : PlainNode) → Each Says (give home items n).sends
  given-says items n = each-batches Says (own_readers home) items n.subs (λ to u index. tt)

  entered-says : (n : PlainNode) → Each Says (enter_step home n).sends
  unfolding enter_step
  entered-says n = given-says (item.Undo (length (out_stable home n)) ∷ []) (record n { closed = []; state = Stabilization; grants = with_ask n.grants })

  asked-says : (i ask : ℕ) (o : Option ℕ) (n : PlainNode) → Each Says (on_ask home i ask o n).sends
  asked-says i ask None n = tt
  asked-says i ask (Some r) n =
      elim (grants n.grants n.state r (i, ask)) as (λ b. Each Says (cond {A = Stepped PlainNode} b (record { after = record n { grants = with_promise n.grants r (i, ask) }; sends = mail (nth 0 (replicas_of home.plan home.frag) r) (message.Grant i ask) ∷ [] }) (idle_step n)).sends) [
        | true ↦ (tt, tt)
        | false ↦ tt
      ]

  granted-says : (i ask : ℕ) (n : PlainNode) → Each Says (on_grant home i ask n).sends
  granted-says i ask n = elim (is_up_failure n.state && may_enter_by n.grants (i, ask)) as (λ b. Each Says (cond {A = Stepped PlainNode} b (enter_step home n) (idle_step n)).sends) [ true ↦ entered-says n | false ↦ tt ]

  unless-says : (b : Bool) (n : PlainNode) (s : Stepped PlainNode) → Each Says s.sends → Each Says (cond {A = Stepped PlainNode} b (idle_step n) s).sends
  unless-says true n s h = tt
  unless-says false n s h = h

  subscribed-says : (asked : Subscribe) (o : Option ℕ) (n : PlainNode) → Each Says (on_subscribe home asked o n).sends
  subscribed-says asked None n = tt
  subscribed-says asked (Some k) n = by-answer (shown home n) (nth no_session n.subs k) asked (nth 0 (own_readers home) k) (Each Says) tt (tt, tt) (tt, tt)

  message-says : (a : ℕ) (m : Message) (n : PlainNode) → ((i try : ℕ) → m ≡ message.SnapAsk i try → n.recovering ≡ false → S a i try (snapshot home n)) → Each Says (on_message home a m n).sends
  message-says a (message.Batch u index items) n h = tt
  message-says a (message.Subscribe asked) n h = unless-says n.recovering n (on_subscribe home asked (reader_place home a) n) (subscribed-says asked (reader_place home a) n)
  message-says a (message.Truncated u base) n h = tt
  message-says a (message.Beat b) n h = tt
  message-says a (message.Ack i count) n h = tt
  message-says a (message.Ask i ask) n h = asked-says i ask (replica_number home a) n
  message-says a (message.Grant i ask) n h = granted-says i ask n
  message-says a (message.SnapAsk i try) n h =
      (elim n.recovering as (λ b. n.recovering ≡ b → Each Says (cond {A = Stepped PlainNode} b (idle_step n) (on_snap_ask home a i try n)).sends) [
        | true ↦ λ e. tt
        | false ↦ λ e. (h i try refl e, tt)
      ]) refl

  pub packet-says : (a : ℕ) (packet : Packet) (n : PlainNode) → ((to i try : ℕ) (s : Snap) → IsAnswer home a packet n to i try s → S to i try s) → Each Says (packet_step home a packet n).sends
  unfolding packet_step
  packet-says a (Plain m) n h = message-says a m (with_marks_ended n) (λ i try is whole. h a i try (snapshot home (with_marks_ended n)) (record { to_is = refl; asked = ap Plain is; snap = refl; whole = whole }))
  packet-says a (SnapFor i try s) n h = tt

  announced-says : (z : PlainNode) → Each Says (announcing_step home z).sends
  announced-says z =
      each-append Says (in_actor_order (acks_from home z z.ports (streams_of home))) (in_actor_order (beats home z))
      (each-sorted Says (acks_from home z z.ports (streams_of home)) (each-acks Says home z z.ports (streams_of home) (λ to count. tt)))
      (each-sorted Says (beats home z) (each-beats Says home z (λ to l. tt)))

  asking-says : (n : PlainNode) → Each Says (ask_step home n).sends
  asking-says n = by-asking home n (λ s. Each Says s.sends) (entered-says n) (each-to Says (message.Ask (own_key n.grants).0 (own_key n.grants).1) (peers_of home) (λ to. tt)) tt

  upto-says : (last : ℕ) (n : PlainNode) → Each Says (processing_upto home last n).sends
  upto-says last n =
      let count = last + 1 - node_frontier n in
      let r = min count (complete_buckets home n) in
      let new = with_failure (with_closed home (count - r) (after_stable_buckets home r n)) in
      given-says (given_items (length (out_stable home n)) (given_by home n new (nat_lt 0 r) (nat_lt r count))) new

  processing-says : (n : PlainNode) → Each Says (processing_step home n).sends
  processing-says n = by-processing home n (λ s. Each Says s.sends) tt (λ last e due. upto-says last n)

  pub milled-says : (r : ℕ) (n : PlainNode) → Each Says (mill_step home r n).sends
  unfolding mill_step
  milled-says r n =
      let m = after_stable_buckets home r n in
      let done = is_stabilization n.state && ready home m == 0 in
      given-says (given_items (length (out_stable home n)) (given_stable home n m done)) (after_last_correction done m)

  serving-says : (m : PlainNode) → B → Each Says (serving_step home m).sends
  serving-says m b_is =
      let a = choice_step home m in
      let b = ask_step home a.after in
      let c = processing_step home b.after in
      each-append Says (a.sends ++ b.sends ++ c.sends) (announcing_step home c.after).sends
      (each-append Says (a.sends ++ b.sends) c.sends
      (each-append Says a.sends b.sends (each-sorted Says (mails (subscriptions home.plan m.ports (streams_of home))) (each-subscription Says home.plan m.ports (streams_of home) (λ to asked. b_is))) (asking-says a.after))
      (processing-says b.after)) (announced-says c.after)

  -- a tick asks for a snapshot of the present try, where the node recovers behind it, and else subscribes
  pub ticked-says : (now : ℕ) (n : PlainNode) → ((tick_step home now n).after.recovering ≡ true → A n.grants.inc n.tries) → ((tick_step home now n).after.recovering ≡ false → B) → Each Says (tick_step home now n).sends
  unfolding tick_step
  ticked-says now n asks serves =
      let m = after_clock now (with_marks_ended n) in
      let late : Stepped PlainNode = then_do (snapshot_ask_step home m) (announcing_step home) in
      (elim n.recovering as (λ c. n.recovering ≡ c → ((cond {A = Stepped PlainNode} (not c) (serving_step home m) (cond (may_start_afresh home m) (serving_step home (with_fresh_start m)) late)).after.recovering ≡ true → A n.grants.inc n.tries) →
      ((cond {A = Stepped PlainNode} (not c) (serving_step home m) (cond (may_start_afresh home m) (serving_step home (with_fresh_start m)) late)).after.recovering ≡ false → B) →
      Each Says (cond {A = Stepped PlainNode} (not c) (serving_step home m) (cond (may_start_afresh home m) (serving_step home (with_fresh_start m)) late)).sends) [
        | false ↦ λ e g h. serving-says m (h (ap (λ (z : ℕ × Bool). z.1) (serving-status home m) ∙ e))
        | true ↦ λ e g h. elim (may_start_afresh home m) as (λ c. ((cond {A = Stepped PlainNode} c (serving_step home (with_fresh_start m)) late).after.recovering ≡ true → A n.grants.inc n.tries) → ((cond {A = Stepped PlainNode} c (serving_step home (with_fresh_start m)) late).after.recovering ≡ false → B) →
            Each Says (cond {A = Stepped PlainNode} c (serving_step home (with_fresh_start m)) late).sends) [
              | true ↦ λ k l. serving-says (with_fresh_start m) (l (ap (λ (z : ℕ × Bool). z.1) (serving-status home (with_fresh_start m))))
              | false ↦ λ k l. each-append Says (snapshot_ask_step home m).sends (announcing_step home m).sends (each-to Says (message.SnapAsk n.grants.inc n.tries) (peers_of home) (λ to. k e)) (announced-says m)
            ] g h
      ]) refl asks serves
