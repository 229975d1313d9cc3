-- What a node heard of the asks that are over: it only grows, a beat adds to it, and a tick tells it.
use Rattle.std.proofs.Common.{◌≡◌, ℕ, zero, suc, ◌<◌, Bool, true, false, cond, not, ◌&&◌, ◌==◌, List, [], ◌∷◌, ◌++◌, length, refl, sym, ap, subst, ◌∙◌, arith, Option, Some, None, inl, inr}
use Rattle.std.specs.Prelude.{filter}
use Rattle.dpc_lists.specs.Lists.{nth, changed}
use Rattle.dpc_model.specs.Inlets.{same_sess, take_batch, AfterBatch}
use Rattle.dpc_model.specs.Granting.{Key, key_le, greater_key, Grants, grants, with_promise, may_enter_by, later_key, with_ask_over}
use Rattle.dpc_model.specs.Actors.{replicas_of}
use Rattle.dpc_model.specs.NodeStates.{is_up_failure, is_stabilization}
use Rattle.dpc_model.specs.Ports.{no_port, sender_at, on_truncated, all_truncated}
use Rattle.dpc_model.specs.declared.batches.Taken.{Taken}
use Rattle.dpc_model.specs.declared.batches.Taken.TheVariants.{Used, Old, Broken}
use Rattle.dpc_model.specs.declared.tuples.Item.{Item}
use Rattle.dpc_model.specs.declared.messages.Sess.{Sess}
use Rattle.dpc_model.specs.declared.messages.Beat.{Beat}
use Rattle.dpc_model.specs.declared.messages.Subscribe.{Subscribe}
use Rattle.dpc_model.specs.declared.messages.Message.{Message}
use Rattle.dpc_model.specs.declared.messages.Message.TheVariants as message
use Rattle.node_model.specs.Mails.{mail, Snap, Packet, Plain, SnapFor, in_actor_order, to_each, Stepped}
use Rattle.node_model.specs.Nodes.{Home, PlainNode, streams_of, ready}
use Rattle.node_model.specs.NodeSteps.{idle_step, then_do, peers_of, replica_number, reader_place, with_port, enter_step, after_loss, after_adoption, after_taking, with_stamps_of, on_batch, on_subscribe, on_truncation, on_upstream_beat, on_peer_beat, on_ack, on_ask, on_grant, on_snap_ask, on_message, on_packet, on_snap, with_marks_ended, packet_step, after_stable_buckets, mill_step, after_clock, may_start_afresh, choice_step, ask_step, processing_step, acks_from, beat_of, beats, announcing_step, serving_step, snapshot_ask_step, rest_of_tick, with_fresh_start, tick_step}
use Rattle.law_settling.proofs.Exact.{IsIn, in-left, in-right, in-sorted}
use Rattle.law_granting.proofs.Keys.{key-refl, key-trans, greater-first, greater-second, nth-changed}
use Rattle.law_safety.proofs.StepCases.{by-asking, by-processing}

-- a later ask of the replica is known to be over
abbrev pub Knows : ℕ → Key → Grants → Type 0
Knows q key g = (h : Key) × (nth None g.heard q ≡ Some h) × (key_le key h ≡ true)

abbrev HasHeard : List (Option Key) → PlainNode → Type 0
HasHeard hs n = n.grants.heard ≡ hs

module _ (home : Home) where
  taken-heard : (p : ℕ) (t : AfterBatch) (n : PlainNode) → HasHeard n.grants.heard (after_taking home p t n)
  taken-heard p t n = by-answer t.answer
    where
      by-answer : (a : Taken) → (with_stamps_of home a (with_port p (λ q. record q { inlet = t.after }) n)).grants.heard ≡ n.grants.heard
      by-answer (Used items) = refl
      by-answer Old = refl
      by-answer Broken = refl

  batch-heard : (u : Sess) (index : ℕ) (items : List Item) (o : Option (ℕ × ℕ)) (n : PlainNode) → HasHeard n.grants.heard (on_batch home u index items o n)
  batch-heard u index items None n = refl
  batch-heard u index items (Some pr) n = elim ((nth no_port n.ports pr.0).chosen == pr.1) as (λ b. (cond b (after_taking home pr.0 (take_batch (nth no_port n.ports pr.0).inlet u index items) n) n).grants.heard ≡ n.grants.heard) [
    | true ↦ taken-heard pr.0 (take_batch (nth no_port n.ports pr.0).inlet u index items) n
    | false ↦ refl
  ]

  subscribe-heard : (asked : Subscribe) (k : Option ℕ) (n : PlainNode) → HasHeard n.grants.heard (on_subscribe home asked k n).after
  subscribe-heard asked None n = refl
  subscribe-heard asked (Some k) n = refl

  lost-heard : (n : PlainNode) → HasHeard n.grants.heard (after_loss home n)
  unfolding after_loss
  lost-heard n = refl

  truncation-heard : (u : Sess) (base : ℕ) (o : Option (ℕ × ℕ)) (n : PlainNode) → HasHeard n.grants.heard (on_truncation home u base o n)
  truncation-heard u base None n = refl
  truncation-heard u base (Some pr) n =
      let old = nth no_port n.ports pr.0 in
      let port = on_truncated pr.1 u base old in
      let m = with_port pr.0 (λ _. port) n in
      elim (same_sess u old.inlet.sess && all_truncated port) as (λ b. (cond b (after_loss home m) m).grants.heard ≡ n.grants.heard) [ true ↦ lost-heard m | false ↦ refl ]

  upstream-heard : (b : Beat) (o : Option (ℕ × ℕ)) (n : PlainNode) → HasHeard n.grants.heard (on_upstream_beat b o n)
  upstream-heard b None n = refl
  upstream-heard b (Some pr) n = refl

  ack-heard : (i count : ℕ) (k : Option ℕ) (n : PlainNode) → HasHeard n.grants.heard (on_ack home i count k n)
  ack-heard i count None n = refl
  ack-heard i count (Some k) n = refl

  ask-heard : (i ask : ℕ) (r : Option ℕ) (n : PlainNode) → HasHeard n.grants.heard (on_ask home i ask r n).after
  ask-heard i ask None n = refl
  ask-heard i ask (Some r) n = elim (grants n.grants n.state r (i, ask)) as (λ b. (cond {A = Stepped PlainNode} b (record { after = record n { grants = with_promise n.grants r (i, ask) }; sends = mail (nth 0 (replicas_of home.plan home.frag) r) (message.Grant i ask) ∷ [] }) (idle_step n)).after.grants.heard ≡ n.grants.heard) [ true ↦ refl | false ↦ refl ]

  entered-heard : (n : PlainNode) → HasHeard n.grants.heard (enter_step home n).after
  unfolding enter_step
  entered-heard n = refl

  grant-heard : (i ask : ℕ) (n : PlainNode) → HasHeard n.grants.heard (on_grant home i ask n).after
  grant-heard i ask n = elim (is_up_failure n.state && may_enter_by n.grants (i, ask)) as (λ b. (cond {A = Stepped PlainNode} b (enter_step home n) (idle_step n)).after.grants.heard ≡ n.grants.heard) [ true ↦ entered-heard n | false ↦ refl ]

  snap-heard : (i try : ℕ) (s : Snap) (n : PlainNode) → HasHeard n.grants.heard (on_snap home i try s n)
  unfolding after_adoption
  snap-heard i try s n = elim (n.recovering && i == n.grants.inc && try == n.tries) as (λ b. (cond b (after_adoption home s n) n).grants.heard ≡ n.grants.heard) [ true ↦ refl | false ↦ refl ]

  -- ---- it grows

  same-knows : (q : ℕ) (key : Key) (n m : PlainNode) → m.grants.heard ≡ n.grants.heard → Knows q key n.grants → Knows q key m.grants
  same-knows q key n m same k = (k.0, ap (λ (hs : List (Option Key)). nth None hs q) same ∙ k.1, k.2)

  peer-knows : (q : ℕ) (key : Key) (b : Beat) (o : Option ℕ) (n : PlainNode) → Knows q key n.grants → Knows q key (on_peer_beat b o n).grants
  peer-knows q key b None n k = k
  peer-knows q key b (Some r) n k =
      elim (nth-changed None r (later_key (b.inc, b.over)) n.grants.heard q) [
        | inl same ↦ (k.0, same ∙ k.1, k.2)
        | inr here ↦ (greater_key k.0 (b.inc, b.over), here.1 ∙ ap (λ (o : Option Key). later_key (b.inc, b.over) o) k.1, key-trans key k.0 (greater_key k.0 (b.inc, b.over)) k.2 (greater-first k.0 (b.inc, b.over)))
      ]

  message-knows : (a q : ℕ) (key : Key) (m : Message) (n : PlainNode) → Knows q key n.grants → Knows q key (on_message home a m n).after.grants
  message-knows a q key (message.Batch u index items) n k = same-knows q key n (on_batch home u index items (sender_at home.plan (streams_of home) a) n) (batch-heard u index items (sender_at home.plan (streams_of home) a) n) k
  message-knows a q key (message.Truncated u base) n k = same-knows q key n (on_truncation home u base (sender_at home.plan (streams_of home) a) n) (truncation-heard u base (sender_at home.plan (streams_of home) a) n) k
  message-knows a q key (message.Beat b) n k =
      let m = on_upstream_beat b (sender_at home.plan (streams_of home) a) n in
      peer-knows q key b (replica_number home a) m (same-knows q key n m (upstream-heard b (sender_at home.plan (streams_of home) a) n) k)
  message-knows a q key (message.Subscribe asked) n k =
      same-knows q key n (on_message home a (message.Subscribe asked) n).after
      (elim n.recovering as (λ b. (cond {A = Stepped PlainNode} b (idle_step n) (on_subscribe home asked (reader_place home a) n)).after.grants.heard ≡ n.grants.heard) [ true ↦ refl | false ↦ subscribe-heard asked (reader_place home a) n ]) k
  message-knows a q key (message.Ack i count) n k =
      same-knows q key n (on_message home a (message.Ack i count) n).after
      (elim n.recovering as (λ b. (cond {A = PlainNode} b n (on_ack home i count (reader_place home a) n)).grants.heard ≡ n.grants.heard) [ true ↦ refl | false ↦ ack-heard i count (reader_place home a) n ]) k
  message-knows a q key (message.Ask i ask) n k = same-knows q key n (on_ask home i ask (replica_number home a) n).after (ask-heard i ask (replica_number home a) n) k
  message-knows a q key (message.Grant i ask) n k = same-knows q key n (on_grant home i ask n).after (grant-heard i ask n) k
  message-knows a q key (message.SnapAsk i try) n k =
      same-knows q key n (on_message home a (message.SnapAsk i try) n).after
      (elim n.recovering as (λ b. (cond {A = Stepped PlainNode} b (idle_step n) (on_snap_ask home a i try n)).after.grants.heard ≡ n.grants.heard) [ true ↦ refl | false ↦ refl ]) k

  packet-knows : (a q : ℕ) (key : Key) (packet : Packet) (n : PlainNode) → Knows q key n.grants → Knows q key (on_packet home a packet n).after.grants
  packet-knows a q key (Plain m) n k = message-knows a q key m n k
  packet-knows a q key (SnapFor i try s) n k = same-knows q key n (on_snap home i try s n) (snap-heard i try s n) k

  pub taken-knows : (a q : ℕ) (key : Key) (packet : Packet) (n : PlainNode) → Knows q key n.grants → Knows q key (packet_step home a packet n).after.grants
  unfolding packet_step
  taken-knows a q key packet n k = packet-knows a q key packet (with_marks_ended n) k

  pub milled-knows : (r q : ℕ) (key : Key) (n : PlainNode) → Knows q key n.grants → Knows q key (mill_step home r n).after.grants
  unfolding mill_step
  milled-knows r q key n k =
      let m = after_stable_buckets home r n in
      elim (is_stabilization n.state && ready home m == 0) as (λ b. Knows q key (cond b (with_ask_over m.grants) m.grants)) [ true ↦ k | false ↦ k ]

  -- ---- a tick

  asking-heard : (n : PlainNode) → HasHeard n.grants.heard (ask_step home n).after
  asking-heard n =
      by-asking home n (λ s. s.after.grants.heard ≡ n.grants.heard) (entered-heard n) refl refl

  processing-heard : (n : PlainNode) → HasHeard n.grants.heard (processing_step home n).after
  processing-heard n =
      by-processing home n (λ s. s.after.grants.heard ≡ n.grants.heard) refl (λ last e due. refl)

  serving-heard : (n : PlainNode) → HasHeard n.grants.heard (serving_step home n).after
  serving-heard n =
      let a = choice_step home n in
      let b = ask_step home a.after in
      processing-heard b.after ∙ asking-heard a.after

  rest-heard : (n : PlainNode) → HasHeard n.grants.heard (rest_of_tick home n).after
  rest-heard n =
      elim n.recovering as (λ b. (cond {A = Stepped PlainNode} (not b) (serving_step home n) (cond (may_start_afresh home n) (serving_step home (with_fresh_start n)) (then_do (snapshot_ask_step home n) (announcing_step home)))).after.grants.heard ≡ n.grants.heard) [
        | false ↦ serving-heard n
        | true ↦ elim (may_start_afresh home n) as (λ b. (cond {A = Stepped PlainNode} b (serving_step home (with_fresh_start n)) (then_do (snapshot_ask_step home n) (announcing_step home))).after.grants.heard ≡ n.grants.heard) [
          | true ↦ serving-heard (with_fresh_start n)
          | false ↦ refl
        ]
      ]

  pub ticked-knows : (now q : ℕ) (key : Key) (n : PlainNode) → Knows q key n.grants → Knows q key (tick_step home now n).after.grants
  unfolding tick_step
  ticked-knows now q key n k = same-knows q key n (rest_of_tick home (after_clock now (with_marks_ended n))).after (rest-heard (after_clock now (with_marks_ended n))) k

  -- ---- a beat of a peer

  changed-in : (q : ℕ) (f : Option Key → Option Key) (hs : List (Option Key)) → q < length hs → nth None (changed q f hs) q ≡ f (nth None hs q)
  changed-in q f [] low = absurd (omega (arith, low))
  changed-in zero f (h ∷ hs) low = refl
  changed-in (suc q) f (h ∷ hs) low = changed-in q f hs (omega (arith, low))

  later-knows : (key : Key) (o : Option Key) → (h : Key) × (later_key key o ≡ Some h) × (key_le key h ≡ true)
  later-knows key None = (key, refl, key-refl key)
  later-knows key (Some k) = (greater_key k key, refl, greater-second k key)

  -- what it tells is known
  pub told-knows : (a q : ℕ) (key : Key) (b : Beat) (n : PlainNode) → replica_number home a ≡ Some q → q < length n.grants.heard → key_le key (b.inc, b.over) ≡ true → Knows q key (packet_step home a (Plain (message.Beat b)) n).after.grants
  unfolding packet_step
  told-knows a q key b n number low le =
      let m = on_upstream_beat b (sender_at home.plan (streams_of home) a) (with_marks_ended n) in
      let heard : m.grants.heard ≡ n.grants.heard = upstream-heard b (sender_at home.plan (streams_of home) a) (with_marks_ended n) in
      let later = later-knows (b.inc, b.over) (nth None n.grants.heard q) in
      let now : nth None (changed q (later_key (b.inc, b.over)) m.grants.heard) q ≡ Some later.0 =
      ap (λ (hs : List (Option Key)). nth None (changed q (later_key (b.inc, b.over)) hs) q) heard ∙ changed-in q (later_key (b.inc, b.over)) n.grants.heard low ∙ later.1 in
      subst (λ (o : Option ℕ). Knows q key (on_peer_beat b o m).grants) (sym number) (later.0, now, key-trans key (b.inc, b.over) later.0 le later.2)

  -- ---- a tick tells each peer

  pub in-each : (m : Message) (to : ℕ) (ids : List ℕ) → IsIn to ids → IsIn (mail to m) (to_each m ids)
  in-each m to [] h = absurd h
  in-each m to (a ∷ ids) (inl e) = inl (ap (λ (z : ℕ). mail z m) e)
  in-each m to (a ∷ ids) (inr h) = inr (in-each m to ids h)

  announced : (n : PlainNode) (to : ℕ) → IsIn to (peers_of home) → IsIn (mail to (beat_of n None)) (announcing_step home n).sends
  announced n to peer = in-right _ (in_actor_order (acks_from home n n.ports (streams_of home))) (in_actor_order (beats home n)) (in-sorted _ (beats home n) (in-left _ (to_each (beat_of n None) (peers_of home)) _ (in-each (beat_of n None) to (peers_of home) peer)))

  served : (n : PlainNode) (to : ℕ) → IsIn to (peers_of home) → IsIn (mail to (beat_of (serving_step home n).after None)) (serving_step home n).sends
  served n to peer =
      let a = choice_step home n in
      let b = ask_step home a.after in
      let c = processing_step home b.after in
      in-right _ (a.sends ++ b.sends ++ c.sends) (announcing_step home c.after).sends (announced c.after to peer)

  pub tick-tells : (now : ℕ) (n : PlainNode) (to : ℕ) → IsIn to (peers_of home) → IsIn (mail to (beat_of (tick_step home now n).after None)) (tick_step home now n).sends
  unfolding tick_step
  tick-tells now n to peer = going (after_clock now (with_marks_ended n))
    where
      going : (m : PlainNode) → IsIn (mail to (beat_of (rest_of_tick home m).after None)) (rest_of_tick home m).sends
      going m =
          elim m.recovering as (λ b. let t = cond {A = Stepped PlainNode} (not b) (serving_step home m) (cond (may_start_afresh home m) (serving_step home (with_fresh_start m)) (then_do (snapshot_ask_step home m) (announcing_step home))) in IsIn (mail to (beat_of t.after None)) t.sends) [
            | false ↦ served m to peer
            | true ↦ elim (may_start_afresh home m) as (λ b. let t = cond {A = Stepped PlainNode} b (serving_step home (with_fresh_start m)) (then_do (snapshot_ask_step home m) (announcing_step home)) in IsIn (mail to (beat_of t.after None)) t.sends) [
              | true ↦ served (with_fresh_start m) to peer
              | false ↦ in-right _ (snapshot_ask_step home m).sends (announcing_step home m).sends (announced m to peer)
            ]
          ]

-- a replica is a peer of another
pub is-peer : (home : Home) (to : ℕ) → IsIn to (replicas_of home.plan home.frag) → (to == nth 0 (replicas_of home.plan home.frag) home.replica) ≡ false → IsIn to (peers_of home)
is-peer home to there other = filtered (replicas_of home.plan home.frag) there
  where
    filtered : (ids : List ℕ) → IsIn to ids → IsIn to (filter (λ (a : ℕ). not (a == nth 0 (replicas_of home.plan home.frag) home.replica)) ids)
    filtered [] h = absurd h
    filtered (a ∷ ids) (inl e) =
        let test : not (a == nth 0 (replicas_of home.plan home.frag) home.replica) ≡ true = ap (λ (z : ℕ). not (z == nth 0 (replicas_of home.plan home.frag) home.replica)) e ∙ ap not other in
        subst (λ (b : Bool). IsIn to (cond b (a ∷ filter (λ (z : ℕ). not (z == nth 0 (replicas_of home.plan home.frag) home.replica)) ids) (filter (λ (z : ℕ). not (z == nth 0 (replicas_of home.plan home.frag) home.replica)) ids))) (sym test) (inl e)
    filtered (a ∷ ids) (inr h) =
        elim (not (a == nth 0 (replicas_of home.plan home.frag) home.replica)) as (λ b. IsIn to (cond b (a ∷ filter (λ (z : ℕ). not (z == nth 0 (replicas_of home.plan home.frag) home.replica)) ids) (filter (λ (z : ℕ). not (z == nth 0 (replicas_of home.plan home.frag) home.replica)) ids))) [
          | true ↦ inr (filtered ids h)
          | false ↦ filtered ids h
        ]
