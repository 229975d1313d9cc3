-- Ports that lost what they held stay broken until the node ticks without recovering; then each opens a new session. And what makes a node recover.
use Rattle.std.proofs.Common.{◌≡◌, ℕ, ◌*◌, Bool, true, false, cond, not, ◌&&◌, ◌||◌, ◌==◌, nat_lt, nat_le, List, [], ◌∷◌, map, refl, sym, ap, subst, ◌∙◌, Option, Some, None, slice_get, ◌⊎◌, inl, inr}
use Rattle.std.proofs.Math.Bool.{or-true}
use Rattle.dpc_lists.specs.Lists.{nth}
use Rattle.dpc_model.specs.Streams.{count_below}
use Rattle.dpc_model.specs.Reading.{fold_items}
use Rattle.dpc_model.specs.Inlets.{InletState, AfterBatch, same_sess, take_batch, is_old, after_missing_batch, after_next_batch, with_next_session}
use Rattle.dpc_model.specs.declared.batches.Taken.TheVariants.{Old}
use Rattle.dpc_model.specs.Actors.{senders_of}
use Rattle.dpc_model.specs.Ports.{Port, no_port, port_at, sender_at, without_ended_marks, on_truncated, all_truncated, port_after_tick, choice_at, must_reopen, port_after_choice}
use Rattle.dpc_model.specs.Sessions.{Acked}
use Rattle.dpc_model.specs.declared.sessions.Sub.{Sub}
use Rattle.dpc_model.specs.declared.tuples.Item.{Item}
use Rattle.dpc_model.specs.declared.messages.Sess.{Sess}
use Rattle.dpc_model.specs.declared.messages.Message.TheVariants as message
use Rattle.dpc_model.specs.declared.plans.StreamRef.{StreamRef}
use Rattle.dpc_lists.proofs.Somes.{some-same}
use Rattle.node_model.specs.Mails.{Packet, Plain, SnapFor, Mail, mails, in_actor_order, Stepped}
use Rattle.node_model.specs.Nodes.{Home, PlainNode, streams_of, restarted_node}
use Rattle.node_model.specs.NodeSteps.{then_do, peers_of, with_port, emptied_port, after_loss, on_truncation, with_marks_ended, packet_step, after_clock, may_start_afresh, done_at, acks_from, beats, announcing_step, serving_step, snapshot_ask_step, with_fresh_start, tick_step}
use Rattle.dpc_lists.proofs.Each.{Each, each-append}
use Rattle.law_granting.proofs.Asked.{each-unit}
use Rattle.law_granting.proofs.Each.{each-sorted, each-to, each-beats}
use Rattle.law_granting.proofs.Moves.{get-mapped, get-was}
use Rattle.law_readers.proofs.Passing.{KeepPorts, Obliges, Takes, packet-passed}
use Rattle.law_readers.proofs.Sessions.{ticked-port}
use Rattle.law_calm.proofs.Whole.{IsHarmless, packet-whole, ticked-whole}
use Rattle.law_calm.proofs.Ticking.{ticked-ports, Acks, ticked-acks}
use Rattle.law_calm.proofs.Steps.{Opens}
use Rattle.dpc_model.proofs.Subs.{nth-there}

session-of : (u v : Sess) (base low : ℕ) → Plain (message.Truncated u base) ≡ Plain (message.Truncated v low) → u ≡ v
session-of u v base low is = cc

-- ---- broken ports

abbrev pub AreBroken : List Port → Type 0
AreBroken ports = (p : ℕ) (q : Port) → slice_get ports p ≡ Some q → q.inlet.broken ≡ true

broken-took : (inlet : InletState) (u : Sess) (index : ℕ) (items : List Item) → inlet.broken ≡ true → (take_batch inlet u index items).after.broken ≡ true
unfolding take_batch
broken-took inlet u index items h =
    elim (is_old inlet u index) as (λ c. (cond {A = AfterBatch} c (record { after = inlet; answer = Old }) (cond (inlet.broken || nat_lt inlet.next index) (after_missing_batch inlet) (after_next_batch inlet (fold_items inlet.held items)))).after.broken ≡ true) [
      | true ↦ h
      | false ↦ subst (λ (b : Bool). (cond {A = AfterBatch} (b || nat_lt inlet.next index) (after_missing_batch inlet) (after_next_batch inlet (fold_items inlet.held items))).after.broken ≡ true) (sym h) refl
    ]

kept-broken : (ps rs : List Port) → KeepPorts ps rs → AreBroken ps → AreBroken rs
kept-broken ps rs keeps h p r e = let k = keeps p r e in by-value r.inlet.broken refl k.2.still (h p k.0 k.1)
  where
    by-value : (b : Bool) → r.inlet.broken ≡ b → (r.inlet.broken ≡ false → r.inlet ≡ (keeps p r e).0.inlet) → (keeps p r e).0.inlet.broken ≡ true → r.inlet.broken ≡ true
    by-value true f still was = f
    by-value false f still was = ap (λ (x : InletState). x.broken) (still f) ∙ was

module _ (home : Home) where
  abbrev Broken : List Port → List Sub → List Acked → ℕ → Type 0
  Broken ports subs acks base = AreBroken ports

  abbrev Any : Mail → Type 0
  Any m = Unit {0}

  broken-obliges : Obliges home Broken Any
  broken-obliges =
      record {
        told = λ to m e. tt;
        snapped = λ n to i try h. tt;
        batched = λ n k sub l items h there tally. tt;
        counted = λ n h. h;
        shut = λ n h. h;
        emptied = λ n h. h;
        based = λ n count h. h;
        moved = λ n rs keeps h. kept-broken n.ports rs keeps h;
      }

  broken-takes : (a : ℕ) (packet : Packet) → Takes home Broken Any a packet
  broken-takes a packet =
      record {
        subscribed = λ asked k n same reader h. record { after = h; sends = each-unit _ };
        acked = λ i count k n same reader h. h;
        took = λ u index p r items n same place chosen h q s e. one u index p items n h q s (get-was p (λ (x : Port). record x { inlet = (take_batch (nth no_port n.ports p).inlet u index items).after }) n.ports q s e);
        adopted = λ i try s n same h. h;
      }
    where
      one : (u : Sess) (index p : ℕ) (items : List Item) (n : PlainNode) → AreBroken n.ports → (q : ℕ) (s : Port) →
          (x : Port) × (slice_get n.ports q ≡ Some x) × ((x ≡ s) ⊎ ((q ≡ p) × (record x { inlet = (take_batch (nth no_port n.ports p).inlet u index items).after } ≡ s))) → s.inlet.broken ≡ true
      one u index p items n h q s (x, there, inl same) = ap (λ (z : Port). z.inlet.broken) (sym same) ∙ h q x there
      one u index p items n h q s (x, there, inr (here, same)) =
          let at : slice_get n.ports p ≡ Some x = ap (λ (i : ℕ). slice_get n.ports i) (sym here) ∙ there in
          ap (λ (z : Port). z.inlet.broken) (sym same) ∙ broken-took (nth no_port n.ports p).inlet u index items (ap (λ (z : Port). z.inlet.broken) (nth-there n.ports p x at) ∙ h p x at)

  -- whatever comes leaves them broken
  pub packet-broken : (a : ℕ) (packet : Packet) (n : PlainNode) → AreBroken n.ports → AreBroken (packet_step home a packet n).after.ports
  packet-broken a packet n h = (packet-passed home Broken Any broken-obliges a packet (broken-takes a packet) n h).after

  pub restarted-broken : (i : ℕ) → AreBroken (restarted_node home i).ports
  unfolding restarted_node
  restarted-broken i p q e = let k = get-mapped (port_at home.plan _) (streams_of home) p q e in ap (λ (z : Port). z.inlet.broken) (sym k.2)

  -- ---- a loss

  -- a node that did not recover does: the present session of a port was refused, and all ports lost what they held
  pub record IsLost (a : ℕ) (packet : Packet) (n : PlainNode) : Type 0 where
    pub sess : Sess
    pub base : ℕ
    pub port : ℕ
    pub replica : ℕ
    pub packet_is : packet ≡ Plain (message.Truncated sess base)
    pub sender : sender_at home.plan (streams_of home) a ≡ Some (port, replica)
    pub named : same_sess sess (nth no_port n.ports port).inlet.sess ≡ true

  pub lost-broken : (n : PlainNode) → AreBroken (after_loss home n).ports
  unfolding after_loss
  lost-broken n p r e = let k = get-mapped (emptied_port [] 0) n.ports p r e in ap (λ (z : Port). z.inlet.broken) (sym k.2)

  truncation-broken : (u : Sess) (base : ℕ) (o : Option (ℕ × ℕ)) (n : PlainNode) → n.recovering ≡ false → (on_truncation home u base o n).recovering ≡ true → AreBroken (on_truncation home u base o n).ports
  truncation-broken u base None n whole e = let clash : false ≡ true = sym whole ∙ e in cc
  truncation-broken u base (Some pr) n whole e =
      let old = nth no_port n.ports pr.0 in
      let port = on_truncated pr.1 u base old in
      let m = with_port pr.0 (λ _. port) n in
      (elim (same_sess u old.inlet.sess && all_truncated port) as (λ b. (cond {A = PlainNode} b (after_loss home m) m).recovering ≡ true → AreBroken (cond {A = PlainNode} b (after_loss home m) m).ports) [
        | true ↦ λ d. lost-broken m
        | false ↦ λ d. let clash : false ≡ true = sym whole ∙ d in cc
      ]) e

  pub loss-broken : (a : ℕ) (u : Sess) (base : ℕ) (n : PlainNode) → n.recovering ≡ false → (packet_step home a (Plain (message.Truncated u base)) n).after.recovering ≡ true → AreBroken (packet_step home a (Plain (message.Truncated u base)) n).after.ports
  unfolding packet_step
  loss-broken a u base n whole e = truncation-broken u base (sender_at home.plan (streams_of home) a) (with_marks_ended n) whole e

  pub is-lost : (a : ℕ) (packet : Packet) (n : PlainNode) → n.recovering ≡ false → (packet_step home a packet n).after.recovering ≡ true → IsLost a packet n
  is-lost a packet n whole e = by-packet packet refl
    where
      harmed : IsHarmless home a packet n → ⊥
      harmed safe = let clash : true ≡ false = sym e ∙ packet-whole home a packet n whole safe in cc

      by-place : (u : Sess) (base : ℕ) → packet ≡ Plain (message.Truncated u base) → (o : Option (ℕ × ℕ)) → sender_at home.plan (streams_of home) a ≡ o → IsLost a packet n
      by-place u base same None place = absurd (harmed (λ v low p r is at. let clash : ◌≡◌ {A = Option (ℕ × ℕ)} None (Some (p, r)) = sym place ∙ at in cc))
      by-place u base same (Some (p, r)) place = by-value (same_sess u (nth no_port n.ports p).inlet.sess) refl
        where
          by-value : (c : Bool) → same_sess u (nth no_port n.ports p).inlet.sess ≡ c → IsLost a packet n
          by-value true named = record { sess = u; base = base; port = p; replica = r; packet_is = same; sender = place; named = named }
          by-value false named =
              absurd (harmed (λ v low i j is at.
              let pair : ◌≡◌ {A = ℕ × ℕ} (p, r) (i, j) = some-same {X = ℕ × ℕ} (p, r) (i, j) (sym place ∙ at) in
              let one : p ≡ i = ap (λ (z : ℕ × ℕ). z.0) pair in
              let two : u ≡ v = session-of u v base low (sym same ∙ is) in
              ap (λ (k : ℕ). same_sess v (nth no_port n.ports k).inlet.sess) (sym one) ∙ ap (λ (s : Sess). same_sess s (nth no_port n.ports p).inlet.sess) (sym two) ∙ named))

      by-packet : (q : Packet) → packet ≡ q → IsLost a packet n
      by-packet (Plain (message.Truncated u base)) same = by-place u base same (sender_at home.plan (streams_of home) a) refl
      by-packet (Plain (message.Batch u index items)) same = absurd (harmed (λ v low p r is at. let no : Plain (message.Batch u index items) ≡ Plain (message.Truncated v low) = sym same ∙ is in cc))
      by-packet (Plain (message.Subscribe asked)) same = absurd (harmed (λ v low p r is at. let no : Plain (message.Subscribe asked) ≡ Plain (message.Truncated v low) = sym same ∙ is in cc))
      by-packet (Plain (message.Beat b)) same = absurd (harmed (λ v low p r is at. let no : Plain (message.Beat b) ≡ Plain (message.Truncated v low) = sym same ∙ is in cc))
      by-packet (Plain (message.Ack i c)) same = absurd (harmed (λ v low p r is at. let no : Plain (message.Ack i c) ≡ Plain (message.Truncated v low) = sym same ∙ is in cc))
      by-packet (Plain (message.Ask i c)) same = absurd (harmed (λ v low p r is at. let no : Plain (message.Ask i c) ≡ Plain (message.Truncated v low) = sym same ∙ is in cc))
      by-packet (Plain (message.Grant i c)) same = absurd (harmed (λ v low p r is at. let no : Plain (message.Grant i c) ≡ Plain (message.Truncated v low) = sym same ∙ is in cc))
      by-packet (Plain (message.SnapAsk i c)) same = absurd (harmed (λ v low p r is at. let no : Plain (message.SnapAsk i c) ≡ Plain (message.Truncated v low) = sym same ∙ is in cc))
      by-packet (SnapFor i try s) same = absurd (harmed (λ v low p r is at. let no : SnapFor i try s ≡ Plain (message.Truncated v low) = sym same ∙ is in cc))

  -- ---- a tick

  -- an acknowledgement of nothing
  abbrev pub OfNone : Packet → Type 0
  OfNone (Plain (message.Ack i n)) = n ≡ 0
  OfNone (Plain (message.Batch u index items)) = Unit {0}
  OfNone (Plain (message.Subscribe asked)) = Unit {0}
  OfNone (Plain (message.Truncated u base)) = Unit {0}
  OfNone (Plain (message.Beat b)) = Unit {0}
  OfNone (Plain (message.Ask i n)) = Unit {0}
  OfNone (Plain (message.Grant i n)) = Unit {0}
  OfNone (Plain (message.SnapAsk i n)) = Unit {0}
  OfNone (SnapFor i try s) = Unit {0}

  abbrev pub MailOfNone : Mail → Type 0
  MailOfNone m = OfNone m.packet

  none-to : (i n : ℕ) (ids : List ℕ) → n ≡ 0 → Each MailOfNone (mails (map (λ b. record { to = b; message = message.Ack i n }) ids))
  none-to i n [] none = tt
  none-to i n (b ∷ ids) none = (none, none-to i n ids none)

  none-from : (z : PlainNode) → z.recovering ≡ true → (ports : List Port) (ss : List StreamRef) → Each MailOfNone (acks_from home z ports ss)
  none-from z recovers [] ss = tt
  none-from z recovers (q ∷ rest) [] = tt
  none-from z recovers (q ∷ rest) (s ∷ ss) =
      let none : done_at home z q ≡ 0 = ap (λ (c : Bool). cond {A = ℕ} c 0 (count_below q.inlet.held.stable (z.cursor * home.plan.width))) recovers in
      each-append MailOfNone (mails (map (λ b. record { to = b; message = message.Ack z.grants.inc (done_at home z q) }) (senders_of home.plan s))) (acks_from home z rest ss) (none-to z.grants.inc (done_at home z q) (senders_of home.plan s) none) (none-from z recovers rest ss)

  announced-none : (z : PlainNode) → z.recovering ≡ true → Each MailOfNone (announcing_step home z).sends
  announced-none z recovers =
      each-append MailOfNone (in_actor_order (acks_from home z z.ports (streams_of home))) (in_actor_order (beats home z)) (each-sorted MailOfNone (acks_from home z z.ports (streams_of home)) (none-from z recovers z.ports (streams_of home)))
      (each-sorted MailOfNone (beats home z) (each-beats MailOfNone home z (λ to l. tt)))

  -- it still recovers, and its ports are as they were; or it serves, and each port did as it chose
  pub record StillRecovers (t : Stepped PlainNode) (n : PlainNode) : Type 0 where
    pub recovers : t.after.recovering ≡ true
    pub ports : (p : ℕ) (r : Port) → slice_get t.after.ports p ≡ Some r → (q : Port) × (slice_get n.ports p ≡ Some q) × (r.inlet ≡ q.inlet)
    pub acks : Each MailOfNone t.sends

  pub record GoesOn (t : Stepped PlainNode) (n : PlainNode) : Type 0 where
    pub whole : t.after.recovering ≡ false
    pub ports : (p : ℕ) (r : Port) → slice_get t.after.ports p ≡ Some r → (q : Port) × (slice_get n.ports p ≡ Some q) × (r ≡ port_after_choice (port_after_tick (without_ended_marks q)))
    pub acks : Each (Acks home t.after) t.sends

  pub tick-goes : (now : ℕ) (n : PlainNode) → n.recovering ≡ false → GoesOn (tick_step home now n) n
  tick-goes now n whole = record { whole = ticked-whole home home.replica now n whole; ports = λ p r e. ticked-ports home now n p r whole e; acks = ticked-acks home now n whole }

  -- a recovering node that may start afresh ticks as one that does not recover
  afresh-is : (now : ℕ) (n : PlainNode) → n.recovering ≡ true → (tick_step home now n ≡ tick_step home now (with_fresh_start n)) ⊎ (tick_step home now n ≡ then_do (snapshot_ask_step home (after_clock now (with_marks_ended n))) (announcing_step home))
  unfolding tick_step
  afresh-is now n recovers =
      let m = after_clock now (with_marks_ended n) in
      let late : Stepped PlainNode = then_do (snapshot_ask_step home m) (announcing_step home) in
      subst (λ (c : Bool). (cond {A = Stepped PlainNode} (not c) (serving_step home m) (cond (may_start_afresh home m) (serving_step home (with_fresh_start m)) late) ≡ serving_step home (with_fresh_start m))
      ⊎ (cond {A = Stepped PlainNode} (not c) (serving_step home m) (cond (may_start_afresh home m) (serving_step home (with_fresh_start m)) late) ≡ late)) (sym recovers)
      (elim (may_start_afresh home m) as (λ c. (cond {A = Stepped PlainNode} c (serving_step home (with_fresh_start m)) late ≡ serving_step home (with_fresh_start m)) ⊎ (cond {A = Stepped PlainNode} c (serving_step home (with_fresh_start m)) late ≡ late)) [ true ↦ inl refl | false ↦ inr refl ])

  pub tick-splits : (now : ℕ) (n : PlainNode) → StillRecovers (tick_step home now n) n ⊎ GoesOn (tick_step home now n) n
  tick-splits now n = by-value n.recovering refl
    where
      late-ports : (p : ℕ) (r : Port) → slice_get (after_clock now (with_marks_ended n)).ports p ≡ Some r → (q : Port) × (slice_get n.ports p ≡ Some q) × (r.inlet ≡ q.inlet)
      late-ports p r e =
          let k = ticked-port n.ports p r e in
          (k.0, k.1, ap (λ (z : Port). z.inlet) k.2)

      by-value : (c : Bool) → n.recovering ≡ c → StillRecovers (tick_step home now n) n ⊎ GoesOn (tick_step home now n) n
      by-value false whole = inr (tick-goes now n whole)
      by-value true recovers =
          elim (afresh-is now n recovers) [
            | inl fresh ↦ inr (subst (λ (t : Stepped PlainNode). GoesOn t n) (sym fresh) (let k = tick-goes now (with_fresh_start n) refl in record { whole = k.whole; ports = λ p r e. k.ports p r e; acks = k.acks }))
            | inr late ↦ inl (subst (λ (t : Stepped PlainNode). StillRecovers t n) (sym late) (record {
              recovers = recovers;
              ports = late-ports;
              acks = each-append MailOfNone (snapshot_ask_step home (after_clock now (with_marks_ended n))).sends (announcing_step home (after_clock now (with_marks_ended n))).sends
                  (each-to MailOfNone (message.SnapAsk n.grants.inc n.tries) (peers_of home) (λ to. tt)) (announced-none (after_clock now (with_marks_ended n)) recovers);
            }))
          ]

-- a broken port opens a session
pub broken-opens : (q : Port) → q.inlet.broken ≡ true → Opens q (port_after_choice (port_after_tick (without_ended_marks q)))
broken-opens q h =
    let y = port_after_tick (without_ended_marks q) in
    let must : must_reopen y ≡ true = ap (λ (c : Bool). not (choice_at y == y.chosen) || c || (not y.inlet.answered && nat_le 3 y.ticks)) h ∙ ap (λ (c : Bool). c || (not y.inlet.answered && nat_le 3 y.ticks)) (or-true (not (choice_at y == y.chosen))) in
    record { inlet = ap (λ (c : Bool). cond {A = InletState} c (with_next_session y.inlet) y.inlet) must; chosen = refl }
