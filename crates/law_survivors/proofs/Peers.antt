-- What each step of a node makes of what it knows of the other replicas; and what a whole node says of itself.
use Rattle.std.proofs.Common.{◌≡◌, ℕ, zero, suc, ◌+◌, ◌-◌, Bool, true, false, cond, not, ◌&&◌, ◌||◌, ◌==◌, nat_lt, min, List, [], ◌∷◌, ◌++◌, map, length, refl, sym, ap, subst, ◌∙◌, arith, Option, Some, None, slice_get}
use Rattle.std.specs.List.{filter, enumerate_from}
use Rattle.dpc_lists.specs.Lists.{nth, changed, list_all}
use Rattle.dpc_model.specs.Inlets.{same_sess, take_batch}
use Rattle.dpc_model.specs.Replicas.{Watch, after_beat, after_tick, is_absent, says_recovering}
use Rattle.dpc_model.specs.Granting.{grants, with_promise, may_enter_by, own_key, with_ask}
use Rattle.dpc_model.specs.Actors.{replicas_of}
use Rattle.dpc_model.specs.Ports.{no_port, sender_at, on_truncated, all_truncated, subscriptions}
use Rattle.dpc_model.specs.Sessions.{no_session, given_items}
use Rattle.dpc_model.specs.declared.batches.Taken.{Taken}
use Rattle.dpc_model.specs.declared.batches.Taken.TheVariants.{Used, Old, Broken}
use Rattle.dpc_model.specs.declared.tuples.Item.{Item}
use Rattle.dpc_model.specs.declared.tuples.Item.TheVariants as item
use Rattle.dpc_model.specs.declared.messages.NodeState.TheVariants.{Stabilization}
use Rattle.dpc_model.specs.declared.messages.Sess.{Sess}
use Rattle.dpc_model.specs.declared.messages.Beat.{Beat}
use Rattle.dpc_model.specs.declared.messages.Subscribe.{Subscribe}
use Rattle.dpc_model.specs.declared.messages.Message.{Message}
use Rattle.dpc_model.specs.declared.messages.Message.TheVariants as message
use Rattle.dpc_model.specs.NodeStates.{is_up_failure, is_stabilization}
use Rattle.node_model.specs.Mails.{Packet, Plain, SnapFor, Mail, mail, mails, in_actor_order, Stepped, Snap}
use Rattle.node_model.specs.Nodes.{Home, PlainNode, streams_of, own_readers, node_frontier, out_stable, complete_buckets, ready, shown}
use Rattle.node_model.specs.NodeSteps.{idle_step, then_do, give, peers_of, replica_number, reader_place, with_port, enter_step, after_loss, after_adoption, with_fresh_start, with_stamps_of, after_taking, on_batch, on_subscribe, on_truncation, on_upstream_beat, on_peer_beat, on_ack, on_ask, on_grant, on_snap_ask, on_message, with_marks_ended, packet_step, after_stable_buckets, given_stable, after_last_correction, mill_step, after_clock, may_start_afresh, choice_step, ask_step, with_closed, with_failure, given_by, processing_upto, processing_step, acks_from, beats, announcing_step, serving_step, snapshot_ask_step, rest_of_tick, tick_step}
use Rattle.dpc_lists.proofs.Truths.{both, eq-of}
use Rattle.dpc_lists.proofs.Somes.{some-same}
use Rattle.law_safety.proofs.StepCases.{by-asking, by-processing, by-answer}
use Rattle.dpc_lists.proofs.Each.{Each, each-append}
use Rattle.law_granting.proofs.Each.{each-sorted, each-to, each-batches, each-subscription, each-acks, each-beats}

-- ---- what is known of the others after a packet

-- nothing changes, or the beat of a replica is noted
pub data Hears (home : Home) (a : ℕ) (packet : Packet) (old new : List Watch) : Type 0 where
  Same : new ≡ old → Hears home a packet old new
  Notes : (b : Beat) (r : ℕ) → packet ≡ Plain (message.Beat b) → replica_number home a ≡ Some r → new ≡ changed r (after_beat b.inc b.state b.recovering) old → Hears home a packet old new

module _ (home : Home) where
  stamped-peers : (t : Taken) (n : PlainNode) → (with_stamps_of home t n).peers ≡ n.peers
  stamped-peers (Used items) n = refl
  stamped-peers Old n = refl
  stamped-peers Broken n = refl

  batch-peers : (u : Sess) (index : ℕ) (items : List Item) (o : Option (ℕ × ℕ)) (n : PlainNode) → (on_batch home u index items o n).peers ≡ n.peers
  batch-peers u index items None n = refl
  batch-peers u index items (Some pr) n =
      let t = take_batch (nth no_port n.ports pr.0).inlet u index items in
      elim ((nth no_port n.ports pr.0).chosen == pr.1) as (λ b. (cond {A = PlainNode} b (after_taking home pr.0 t n) n).peers ≡ n.peers) [
        | true ↦ stamped-peers t.answer (with_port pr.0 (λ q. record q { inlet = t.after }) n)
        | false ↦ refl
      ]

  subscribe-peers : (asked : Subscribe) (o : Option ℕ) (n : PlainNode) → (on_subscribe home asked o n).after.peers ≡ n.peers
  subscribe-peers asked None n = refl
  subscribe-peers asked (Some k) n = refl

  lost-peers : (n : PlainNode) → (after_loss home n).peers ≡ n.peers
  unfolding after_loss
  lost-peers n = refl

  adopted-peers : (s : Snap) (n : PlainNode) → (after_adoption home s n).peers ≡ n.peers
  unfolding after_adoption
  adopted-peers s n = refl

  truncation-peers : (u : Sess) (base : ℕ) (o : Option (ℕ × ℕ)) (n : PlainNode) → (on_truncation home u base o n).peers ≡ n.peers
  truncation-peers u base None n = refl
  truncation-peers u base (Some pr) n =
      let old = nth no_port n.ports pr.0 in
      let port = on_truncated pr.1 u base old in
      let m = with_port pr.0 (λ _. port) n in
      elim (same_sess u old.inlet.sess && all_truncated port) as (λ b. (cond {A = PlainNode} b (after_loss home m) m).peers ≡ n.peers) [ true ↦ lost-peers m | false ↦ refl ]

  ack-peers : (i count : ℕ) (o : Option ℕ) (n : PlainNode) → (on_ack home i count o n).peers ≡ n.peers
  ack-peers i count None n = refl
  ack-peers i count (Some k) n = refl

  ask-peers : (i ask : ℕ) (o : Option ℕ) (n : PlainNode) → (on_ask home i ask o n).after.peers ≡ n.peers
  ask-peers i ask None n = refl
  ask-peers i ask (Some r) n =
      elim (grants n.grants n.state r (i, ask)) as (λ b. (cond {A = Stepped PlainNode} b (record { after = record n { grants = with_promise n.grants r (i, ask) }; sends = mail (nth 0 (replicas_of home.plan home.frag) r) (message.Grant i ask) ∷ [] }) (idle_step n)).after.peers ≡ n.peers) [
        | true ↦ refl
        | false ↦ refl
      ]

  enter-peers : (n : PlainNode) → (enter_step home n).after.peers ≡ n.peers
  unfolding enter_step
  enter-peers n = refl

  grant-peers : (i ask : ℕ) (n : PlainNode) → (on_grant home i ask n).after.peers ≡ n.peers
  grant-peers i ask n =
      elim (is_up_failure n.state && may_enter_by n.grants (i, ask)) as (λ b. (cond {A = Stepped PlainNode} b (enter_step home n) (idle_step n)).after.peers ≡ n.peers) [ true ↦ enter-peers n | false ↦ refl ]

  unless-peers : (b : _) (n : PlainNode) (s : Stepped PlainNode) → s.after.peers ≡ n.peers → (cond {A = Stepped PlainNode} b (idle_step n) s).after.peers ≡ n.peers
  unless-peers true n s h = refl
  unless-peers false n s h = h

  upstream-peers : (b : Beat) (o : Option (ℕ × ℕ)) (n : PlainNode) → (on_upstream_beat b o n).peers ≡ n.peers
  upstream-peers b None n = refl
  upstream-peers b (Some pr) n = refl

  beat-hears : (a : ℕ) (b : Beat) (o : Option ℕ) (n : PlainNode) → replica_number home a ≡ o → Hears home a (Plain (message.Beat b)) n.peers (on_peer_beat b o n).peers
  beat-hears a b None n place = Hears.Same refl
  beat-hears a b (Some r) n place = Hears.Notes b r refl place refl

  message-hears : (a : ℕ) (m : Message) (n : PlainNode) → Hears home a (Plain m) n.peers (on_message home a m n).after.peers
  message-hears a (message.Batch u index items) n = Hears.Same (batch-peers u index items (sender_at home.plan (streams_of home) a) n)
  message-hears a (message.Subscribe asked) n = Hears.Same (unless-peers n.recovering n (on_subscribe home asked (reader_place home a) n) (subscribe-peers asked (reader_place home a) n))
  message-hears a (message.Truncated u base) n = Hears.Same (truncation-peers u base (sender_at home.plan (streams_of home) a) n)
  message-hears a (message.Beat b) n =
      let m = on_upstream_beat b (sender_at home.plan (streams_of home) a) n in
      subst (λ (ws : List Watch). Hears home a (Plain (message.Beat b)) ws (on_peer_beat b (replica_number home a) m).peers) (upstream-peers b (sender_at home.plan (streams_of home) a) n) (beat-hears a b (replica_number home a) m refl)
  message-hears a (message.Ack i count) n =
      Hears.Same (elim n.recovering as (λ b. (cond {A = PlainNode} b n (on_ack home i count (reader_place home a) n)).peers ≡ n.peers) [ true ↦ refl | false ↦ ack-peers i count (reader_place home a) n ])
  message-hears a (message.Ask i ask) n = Hears.Same (ask-peers i ask (replica_number home a) n)
  message-hears a (message.Grant i ask) n = Hears.Same (grant-peers i ask n)
  message-hears a (message.SnapAsk i try) n = Hears.Same (unless-peers n.recovering n (on_snap_ask home a i try n) refl)

  pub packet-hears : (a : ℕ) (packet : Packet) (n : PlainNode) → Hears home a packet n.peers (packet_step home a packet n).after.peers
  unfolding packet_step
  packet-hears a (Plain m) n = message-hears a m (with_marks_ended n)
  packet-hears a (SnapFor i try s) n =
      let m = with_marks_ended n in
      Hears.Same (elim (m.recovering && i == m.grants.inc && try == m.tries) as (λ b. (cond {A = PlainNode} b (after_adoption home s m) m).peers ≡ n.peers) [ true ↦ adopted-peers s m | false ↦ refl ])

  -- the beat of a replica is noted
  pub told-peers : (a r : ℕ) (b : Beat) (n : PlainNode) → replica_number home a ≡ Some r → (packet_step home a (Plain (message.Beat b)) n).after.peers ≡ changed r (after_beat b.inc b.state b.recovering) n.peers
  unfolding packet_step
  told-peers a r b n place =
      let m = on_upstream_beat b (sender_at home.plan (streams_of home) a) (with_marks_ended n) in
      ap (λ (o : Option ℕ). (on_peer_beat b o m).peers) place ∙ ap (λ (ws : List Watch). changed r (after_beat b.inc b.state b.recovering) ws) (upstream-peers b (sender_at home.plan (streams_of home) a) (with_marks_ended n))

  -- ---- after milling, and a tick

  pub milled-peers : (r : ℕ) (n : PlainNode) → (mill_step home r n).after.peers ≡ n.peers
  unfolding mill_step
  milled-peers r n = refl

  asking-peers : (n : PlainNode) → (ask_step home n).after.peers ≡ n.peers
  asking-peers n = by-asking home n (λ s. s.after.peers ≡ n.peers) (enter-peers n) refl refl

  processing-peers : (n : PlainNode) → (processing_step home n).after.peers ≡ n.peers
  processing-peers n = by-processing home n (λ s. s.after.peers ≡ n.peers) refl (λ last e due. refl)

  serving-peers : (n : PlainNode) → (serving_step home n).after.peers ≡ n.peers
  serving-peers n =
      let b = choice_step home n in
      let c = ask_step home b.after in
      processing-peers c.after ∙ asking-peers b.after

  rest-peers : (m : PlainNode) → (rest_of_tick home m).after.peers ≡ m.peers
  rest-peers m =
      elim m.recovering as (λ c. (cond {A = Stepped PlainNode} (not c) (serving_step home m) (cond (may_start_afresh home m) (serving_step home (with_fresh_start m)) (then_do (snapshot_ask_step home m) (announcing_step home)))).after.peers ≡ m.peers) [
        | false ↦ serving-peers m
        | true ↦ elim (may_start_afresh home m) as (λ c. (cond {A = Stepped PlainNode} c (serving_step home (with_fresh_start m)) (then_do (snapshot_ask_step home m) (announcing_step home))).after.peers ≡ m.peers) [
          | true ↦ serving-peers (with_fresh_start m)
          | false ↦ refl
        ]
      ]

  pub ticked-peers : (now : ℕ) (n : PlainNode) → (tick_step home now n).after.peers ≡ map after_tick n.peers
  unfolding tick_step
  ticked-peers now n = rest-peers (after_clock now (with_marks_ended n))

-- ---- a recovering node that knows of another one

get-map : (f : Watch → Watch) (ws : List Watch) (i : ℕ) (u : Watch) → slice_get ws i ≡ Some u → slice_get (map f ws) i ≡ Some (f u)
get-map f [] i u e = cc
get-map f (w ∷ ws) zero u e = ap {B = Option Watch} (λ (z : Watch). Some (f z)) (some-same w u e)
get-map f (w ∷ ws) (suc i) u e = get-map f ws i u e

-- what holds of all others holds of one
other-passes : (q : Watch → Bool) (me k : ℕ) (ws : List Watch) (i : ℕ) (u : Watch) → slice_get ws i ≡ Some u → (k + i ≡ me → ⊥) → list_all q (map (λ (x : ℕ × Watch). x.1) (filter (λ (x : ℕ × Watch). not (x.0 == me)) (enumerate_from k ws))) ≡ true → q u ≡ true
other-passes q me k [] i u at other all = cc
other-passes q me k (w ∷ ws) zero u at other all =
    (elim (k == me) as (λ c. (k == me) ≡ c → list_all q (map (λ (x : ℕ × Watch). x.1) (cond (not c) ((k, w) ∷ filter (λ (x : ℕ × Watch). not (x.0 == me)) (enumerate_from (k + 1) ws)) (filter (λ (x : ℕ × Watch). not (x.0 == me)) (enumerate_from (k + 1) ws)))) ≡ true → q u ≡ true) [
      | true ↦ λ e h. (let none : k + 0 ≡ k = omega arith in absurd (other (none ∙ eq-of k me e)))
      | false ↦ λ e h. subst (λ (z : Watch). q z ≡ true) (some-same w u at) (both (q w) (list_all q (map (λ (x : ℕ × Watch). x.1) (filter (λ (x : ℕ × Watch). not (x.0 == me)) (enumerate_from (k + 1) ws)))) h).0
    ]) refl all
other-passes q me k (w ∷ ws) (suc i) u at other all =
    (elim (k == me) as (λ c. (k == me) ≡ c → list_all q (map (λ (x : ℕ × Watch). x.1) (cond (not c) ((k, w) ∷ filter (λ (x : ℕ × Watch). not (x.0 == me)) (enumerate_from (k + 1) ws)) (filter (λ (x : ℕ × Watch). not (x.0 == me)) (enumerate_from (k + 1) ws)))) ≡ true → q u ≡ true) [
      | true ↦ λ e h. other-passes q me (k + 1) ws i u at later h
      | false ↦ λ e h. other-passes q me (k + 1) ws i u at later (both (q w) (list_all q (map (λ (x : ℕ × Watch). x.1) (filter (λ (x : ℕ × Watch). not (x.0 == me)) (enumerate_from (k + 1) ws)))) h).1
    ]) refl all
  where
    later : k + 1 + i ≡ me → ⊥
    later e = let same : k + suc i ≡ k + 1 + i = omega arith in other (same ∙ e)

module _ (home : Home) (now i : ℕ) (u : Watch) (n : PlainNode) (there : slice_get n.peers i ≡ Some u) (other : i ≡ home.replica → ⊥) (heard : is_absent (after_tick u) ≡ false) (said : says_recovering u ≡ false) where
  -- it does not start afresh
  not-afresh : may_start_afresh home (after_clock now (with_marks_ended n)) ≡ false
  not-afresh = by-value (may_start_afresh home (after_clock now (with_marks_ended n))) refl
    where
      by-value : (c : Bool) → may_start_afresh home (after_clock now (with_marks_ended n)) ≡ c → may_start_afresh home (after_clock now (with_marks_ended n)) ≡ false
      by-value false e = e
      by-value true e =
          let at : slice_get (map after_tick n.peers) i ≡ Some (after_tick u) = get-map after_tick n.peers i u there in
          let start : 0 + i ≡ i = omega arith in
          let pass = other-passes (λ w. is_absent w || says_recovering w) home.replica 0 (map after_tick n.peers) i (after_tick u) at (λ same. other (sym start ∙ same)) e in
          let none : (is_absent (after_tick u) || says_recovering u) ≡ false = ap (λ (c : Bool). c || says_recovering u) heard ∙ said in
          let clash : true ≡ false = sym pass ∙ none in cc

  -- so it goes on recovering at its tick
  pub still-recovers : n.recovering ≡ true → (tick_step home now n).after.recovering ≡ true
  unfolding tick_step
  still-recovers recovers =
      let m = after_clock now (with_marks_ended n) in
      let late : Stepped PlainNode = then_do (snapshot_ask_step home m) (announcing_step home) in
      ap (λ (c : Bool). (cond {A = Stepped PlainNode} (not c) (serving_step home m) (cond (may_start_afresh home m) (serving_step home (with_fresh_start m)) late)).after.recovering) recovers
      ∙ ap (λ (c : Bool). (cond {A = Stepped PlainNode} c (serving_step home (with_fresh_start m)) late).after.recovering) not-afresh ∙ recovers

-- ---- what a node says of itself

-- a beat, and an acknowledgement, is of the node as it is after the step
abbrev pub SaysOf : PlainNode → Packet → Type 0
SaysOf z (Plain (message.Beat b)) = (b.inc ≡ z.grants.inc) × (b.recovering ≡ z.recovering)
SaysOf z (Plain (message.Batch u index items)) = Unit {0}
SaysOf z (Plain (message.Subscribe asked)) = Unit {0}
SaysOf z (Plain (message.Truncated u base)) = Unit {0}
SaysOf z (Plain (message.Ack i n)) = i ≡ z.grants.inc
SaysOf z (Plain (message.Ask i n)) = Unit {0}
SaysOf z (Plain (message.Grant i n)) = Unit {0}
SaysOf z (Plain (message.SnapAsk i n)) = Unit {0}
SaysOf z (SnapFor i try s) = Unit {0}

module _ (home : Home) (z : PlainNode) where
  abbrev pub SaysMail : Mail → Type 0
  SaysMail m = SaysOf z m.packet

  given-says : (items : List Item) (n : PlainNode) → Each SaysMail (give home items n).sends
  given-says items n = each-batches SaysMail (own_readers home) items n.subs (λ to u index. tt)

  entered-says : (n : PlainNode) → Each SaysMail (enter_step home n).sends
  unfolding enter_step
  entered-says n = given-says (item.Undo (length (out_stable home n)) ∷ []) (record n { closed = []; state = Stabilization; grants = with_ask n.grants })

  asked-says : (i ask : ℕ) (o : Option ℕ) (n : PlainNode) → Each SaysMail (on_ask home i ask o n).sends
  asked-says i ask None n = tt
  asked-says i ask (Some r) n =
      elim (grants n.grants n.state r (i, ask)) as (λ b. Each SaysMail (cond {A = Stepped PlainNode} b (record { after = record n { grants = with_promise n.grants r (i, ask) }; sends = mail (nth 0 (replicas_of home.plan home.frag) r) (message.Grant i ask) ∷ [] }) (idle_step n)).sends) [
        | true ↦ (tt, tt)
        | false ↦ tt
      ]

  granted-says : (i ask : ℕ) (n : PlainNode) → Each SaysMail (on_grant home i ask n).sends
  granted-says i ask n = elim (is_up_failure n.state && may_enter_by n.grants (i, ask)) as (λ b. Each SaysMail (cond {A = Stepped PlainNode} b (enter_step home n) (idle_step n)).sends) [ true ↦ entered-says n | false ↦ tt ]

  unless-says : (b : _) (n : PlainNode) (s : Stepped PlainNode) → Each SaysMail s.sends → Each SaysMail (cond {A = Stepped PlainNode} b (idle_step n) s).sends
  unless-says true n s h = tt
  unless-says false n s h = h

  subscribed-says : (asked : Subscribe) (o : Option ℕ) (n : PlainNode) → Each SaysMail (on_subscribe home asked o n).sends
  subscribed-says asked None n = tt
  subscribed-says asked (Some k) n = by-answer (shown home n) (nth no_session n.subs k) asked (nth 0 (own_readers home) k) (Each SaysMail) tt (tt, tt) (tt, tt)

  message-says : (a : ℕ) (m : Message) (n : PlainNode) → Each SaysMail (on_message home a m n).sends
  message-says a (message.Batch u index items) n = tt
  message-says a (message.Subscribe asked) n = unless-says n.recovering n (on_subscribe home asked (reader_place home a) n) (subscribed-says asked (reader_place home a) n)
  message-says a (message.Truncated u base) n = tt
  message-says a (message.Beat b) n = tt
  message-says a (message.Ack i count) n = tt
  message-says a (message.Ask i ask) n = asked-says i ask (replica_number home a) n
  message-says a (message.Grant i ask) n = granted-says i ask n
  message-says a (message.SnapAsk i try) n = unless-says n.recovering n (on_snap_ask home a i try n) (tt, tt)

  pub packet-says : (a : ℕ) (packet : Packet) (n : PlainNode) → Each SaysMail (packet_step home a packet n).sends
  unfolding packet_step
  packet-says a (Plain m) n = message-says a m (with_marks_ended n)
  packet-says a (SnapFor i try s) n = tt

  announced-says : Each SaysMail (announcing_step home z).sends
  announced-says =
      each-append SaysMail (in_actor_order (acks_from home z z.ports (streams_of home))) (in_actor_order (beats home z))
      (each-sorted SaysMail (acks_from home z z.ports (streams_of home)) (each-acks SaysMail home z z.ports (streams_of home) (λ to count. refl)))
      (each-sorted SaysMail (beats home z) (each-beats SaysMail home z (λ to l. (refl, refl))))

  asking-says : (n : PlainNode) → Each SaysMail (ask_step home n).sends
  asking-says n = by-asking home n (λ s. Each SaysMail s.sends) (entered-says n) (each-to SaysMail (message.Ask (own_key n.grants).0 (own_key n.grants).1) (peers_of home) (λ to. tt)) tt

  upto-says : (last : ℕ) (n : PlainNode) → Each SaysMail (processing_upto home last n).sends
  upto-says last n =
      let count = last + 1 - node_frontier n in
      let r = min count (complete_buckets home n) in
      let new = with_failure (with_closed home (count - r) (after_stable_buckets home r n)) in
      given-says (given_items (length (out_stable home n)) (given_by home n new (nat_lt 0 r) (nat_lt r count))) new

  processing-says : (n : PlainNode) → Each SaysMail (processing_step home n).sends
  processing-says n = by-processing home n (λ s. Each SaysMail s.sends) tt (λ last e due. upto-says last n)

  pub milled-says : (r : ℕ) (n : PlainNode) → Each SaysMail (mill_step home r n).sends
  unfolding mill_step
  milled-says r n =
      let m = after_stable_buckets home r n in
      let done = is_stabilization n.state && ready home m == 0 in
      given-says (given_items (length (out_stable home n)) (given_stable home n m done)) (after_last_correction done m)

serving-says : (home : Home) (m : PlainNode) → Each (SaysMail home (serving_step home m).after) (serving_step home m).sends
serving-says home m =
    let a = choice_step home m in
    let b = ask_step home a.after in
    let c = processing_step home b.after in
    let P = SaysMail home c.after in
    each-append P (a.sends ++ b.sends ++ c.sends) (announcing_step home c.after).sends
    (each-append P (a.sends ++ b.sends) c.sends
    (each-append P a.sends b.sends (each-sorted P (mails (subscriptions home.plan m.ports (streams_of home))) (each-subscription P home.plan m.ports (streams_of home) (λ to asked. tt))) (asking-says home c.after a.after))
    (processing-says home c.after b.after)) (announced-says home c.after)

pub ticked-says : (home : Home) (now : ℕ) (n : PlainNode) → Each (SaysMail home (tick_step home now n).after) (tick_step home now n).sends
unfolding tick_step
ticked-says home now n =
    let m = after_clock now (with_marks_ended n) in
    elim n.recovering as (λ c. Each (SaysMail home (cond {A = Stepped PlainNode} (not c) (serving_step home m) (cond (may_start_afresh home m) (serving_step home (with_fresh_start m)) (then_do (snapshot_ask_step home m) (announcing_step home)))).after)
    (cond {A = Stepped PlainNode} (not c) (serving_step home m) (cond (may_start_afresh home m) (serving_step home (with_fresh_start m)) (then_do (snapshot_ask_step home m) (announcing_step home)))).sends) [
      | false ↦ serving-says home m
      | true ↦ elim (may_start_afresh home m) as (λ c. Each (SaysMail home (cond {A = Stepped PlainNode} c (serving_step home (with_fresh_start m)) (then_do (snapshot_ask_step home m) (announcing_step home))).after)
          (cond {A = Stepped PlainNode} c (serving_step home (with_fresh_start m)) (then_do (snapshot_ask_step home m) (announcing_step home))).sends) [
            | true ↦ serving-says home (with_fresh_start m)
            | false ↦ each-append (SaysMail home m) (snapshot_ask_step home m).sends (announcing_step home m).sends (each-to (SaysMail home m) (message.SnapAsk n.grants.inc n.tries) (peers_of home) (λ to. tt)) (announced-says home m)
          ]
    ]
