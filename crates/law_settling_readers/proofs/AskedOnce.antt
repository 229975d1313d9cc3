-- A step of a reader asks the senders of a stream for a session at most once, and only a tick does.
use Rattle.std.proofs.Common.{◌≡◌, ℕ, zero, suc, ◌+◌, ◌≤◌, Bool, true, false, cond, not, ◌&&◌, List, [], ◌∷◌, ◌++◌, map, length, refl, sym, ap, ◌∙◌, arith, Some, None, slice_get}
use Rattle.dpc_lists.specs.Lists.{nth}
use Rattle.dpc_model.specs.Inlets.{with_next_session, asked_by}
use Rattle.dpc_model.specs.Actors.{senders_of}
use Rattle.dpc_model.specs.Ports.{Port, without_ended_marks, port_after_tick, choice_at, must_reopen, subscriptions, acks_to}
use Rattle.dpc_model.specs.Sessions.{Shown, Acked, no_session, answer_to}
use Rattle.dpc_model.specs.declared.sessions.Sub.{Sub}
use Rattle.dpc_model.specs.declared.messages.Sess.{Sess}
use Rattle.dpc_model.specs.declared.messages.Subscribe.{Subscribe}
use Rattle.dpc_model.specs.declared.messages.Message.{Message}
use Rattle.dpc_model.specs.declared.messages.Message.TheVariants as message
use Rattle.dpc_model.specs.declared.plans.Plan.{Plan}
use Rattle.dpc_model.specs.declared.plans.StreamRef.{StreamRef}
use Rattle.dpc_lists.proofs.Truths.{and-none}
use Rattle.node_model.specs.Mails.{Packet, Plain, Mail, mail, mails, Stepped}
use Rattle.node_model.specs.Nodes.{Home, PlainNode, streams_of, own_readers, shown}
use Rattle.node_model.specs.NodeSteps.{packet_step, mill_step, tick_step, then_do, after_clock, with_marks_ended, may_start_afresh, with_fresh_start, choice_step, ask_step, processing_step, announcing_step, serving_step, snapshot_ask_step, rest_of_tick}
use Rattle.node_model.specs.Clients.{ClientState, client_stream, client_tick_step}
use Rattle.dpc_lists.proofs.Each.{Each}
use Rattle.law_safety.proofs.StepCases.{by-answer}
use Rattle.law_granting.specs.Taken.{subscribes_packet}
use Rattle.law_readers.proofs.Passing.{Obliges, Takes, is_told, packet-passed, mill-passed, asking-passed, processing-passed, announcing-passed, recovering-passed}
use Rattle.law_readers.proofs.Sessions.{each-acked, ticked-port}
use Rattle.law_settling_readers.proofs.Counts.{one_if, count, count-append, count-none, count-sorted}

-- the mail asks one of these actors for this session
abbrev pub is_asking : (ℕ → Bool) → Sess → Mail → Bool
is_asking a u m = a m.to && subscribes_packet u m.packet

few-if : (b c : Bool) → one_if (b && c) ≤ 1
few-if true true = omega arith
few-if true false = omega arith
few-if false c = omega arith

-- ---- the subscriptions of some ports

-- the port asks this actor at its place
abbrev Hits : Plan → (ℕ → Bool) → List Port → List StreamRef → (ℕ → Type 0) → Type 0
Hits plan a qs ss P = (j : ℕ) (q : Port) (t : StreamRef) → slice_get qs j ≡ Some q → slice_get ss j ≡ Some t → must_reopen q ≡ true → a (nth 0 (senders_of plan t) (choice_at q)) ≡ true → P j

none-asked : (plan : Plan) (a : ℕ → Bool) (u : Sess) (qs : List Port) (ss : List StreamRef) → Hits plan a qs ss (λ j. ⊥) → count (is_asking a u) (mails (subscriptions plan qs ss)) ≡ 0
none-asked plan a u [] ss h = refl
none-asked plan a u (q ∷ qs) [] h = refl
none-asked plan a u (q ∷ qs) (t ∷ ss) h =
    let rest = none-asked plan a u qs ss (λ j r v at reads must to. h (suc j) r v at reads must to) in
    (elim (must_reopen q) as (λ b. must_reopen q ≡ b → count (is_asking a u) (mails (cond b (record { to = nth 0 (senders_of plan t) (choice_at q); message = message.Subscribe (asked_by (with_next_session q.inlet)) } ∷ []) [] ++ subscriptions plan qs ss)) ≡ 0) [
      | false ↦ λ e. rest
      | true ↦ λ e.
          (elim (a (nth 0 (senders_of plan t) (choice_at q))) as (λ b. a (nth 0 (senders_of plan t) (choice_at q)) ≡ b → one_if (b && subscribes_packet u (Plain (message.Subscribe (asked_by (with_next_session q.inlet))))) + count (is_asking a u) (mails (subscriptions plan qs ss)) ≡ 0) [
            | true ↦ λ f. absurd (h 0 q t refl refl e f)
            | false ↦ λ f. omega (arith, rest)
          ]) refl
    ]) refl

few-asked : (plan : Plan) (a : ℕ → Bool) (p i : ℕ) (u : Sess) (qs : List Port) (ss : List StreamRef) → Hits plan a qs ss (λ j. i + j ≡ p) → count (is_asking a u) (mails (subscriptions plan qs ss)) ≤ 1
few-asked plan a p i u [] ss h = omega arith
few-asked plan a p i u (q ∷ qs) [] h = omega arith
few-asked plan a p i u (q ∷ qs) (t ∷ ss) h =
    let rest = few-asked plan a p (i + 1) u qs ss (λ j r v at reads must to. let k = h (suc j) r v at reads must to in omega (arith, k)) in
    (elim (must_reopen q) as (λ b. must_reopen q ≡ b → count (is_asking a u) (mails (cond b (record { to = nth 0 (senders_of plan t) (choice_at q); message = message.Subscribe (asked_by (with_next_session q.inlet)) } ∷ []) [] ++ subscriptions plan qs ss)) ≤ 1) [
      | false ↦ λ e. rest
      | true ↦ λ e.
          (elim (a (nth 0 (senders_of plan t) (choice_at q))) as (λ b. a (nth 0 (senders_of plan t) (choice_at q)) ≡ b → one_if (b && subscribes_packet u (Plain (message.Subscribe (asked_by (with_next_session q.inlet))))) + count (is_asking a u) (mails (subscriptions plan qs ss)) ≤ 1) [
            | true ↦ λ f.
                let here = h 0 q t refl refl e f in
                let none = none-asked plan a u qs ss (λ j r v at reads must to. let k = h (suc j) r v at reads must to in omega (arith, k, here)) in
                let few = few-if true (subscribes_packet u (Plain (message.Subscribe (asked_by (with_next_session q.inlet))))) in
                omega (arith, none, few)
            | false ↦ λ f. omega (arith, rest)
          ]) refl
    ]) refl

-- ---- a node

module _ (home : Home) (a : ℕ → Bool) (u : Sess) where
  abbrev Quiet : Mail → Type 0
  Quiet m = is_asking a u m ≡ false

  abbrev Any : List Port → List Sub → List Acked → ℕ → Type 0
  Any ports subs acks base = Unit {0}

  told-quiet : (to : ℕ) (m : Message) → is_told m ≡ true → Quiet (mail to m)
  told-quiet to (message.Beat b) e = and-none (a to)
  told-quiet to (message.Ack i n) e = and-none (a to)
  told-quiet to (message.Ask i n) e = and-none (a to)
  told-quiet to (message.Grant i n) e = and-none (a to)
  told-quiet to (message.SnapAsk i n) e = and-none (a to)
  told-quiet to (message.Batch v index items) e = cc
  told-quiet to (message.Truncated v base) e = cc
  told-quiet to (message.Subscribe asked) e = cc

  quiet-obliges : Obliges home Any Quiet
  quiet-obliges =
      record {
        told = told-quiet;
        snapped = λ n to i try h. and-none (a to);
        batched = λ n k sub l items h there tally. and-none (a (nth 0 (own_readers home) k));
        counted = λ n h. tt;
        shut = λ n h. tt;
        emptied = λ n h. tt;
        based = λ n count h. tt;
        moved = λ n rs keeps h. tt;
      }

  quiet-takes : (b : ℕ) (packet : Packet) → Takes home Any Quiet b packet
  quiet-takes b packet =
      record {
        subscribed = λ asked k n same reader h. record { after = tt; sends = answer k (shown home n) (nth no_session n.subs k) asked };
        acked = λ i count k n same reader h. tt;
        took = λ v index p r items n same place chosen h. tt;
        adopted = λ i try s n same h. tt;
      }
    where
      answer : (k : ℕ) (shows : Shown) (sub : Sub) (asked : Subscribe) → Each Quiet (elim (answer_to shows sub asked).answer as (λ _. List Mail) [ None ↦ [] | Some m ↦ mail (nth 0 (own_readers home) k) m ∷ [] ])
      answer k shows sub asked =
          by-answer shows sub asked (nth 0 (own_readers home) k) (Each Quiet) tt (and-none (a (nth 0 (own_readers home) k)), tt) (and-none (a (nth 0 (own_readers home) k)), tt)

  pub took-quiet : (b : ℕ) (packet : Packet) (n : PlainNode) → Each Quiet (packet_step home b packet n).sends
  took-quiet b packet n = (packet-passed home Any Quiet quiet-obliges b packet (quiet-takes b packet) n tt).sends

  pub milled-quiet : (r : ℕ) (n : PlainNode) → Each Quiet (mill_step home r n).sends
  milled-quiet r n = (mill-passed home Any Quiet quiet-obliges r n tt).sends

  serving-few : (m : PlainNode) → count (is_asking a u) (mails (subscriptions home.plan m.ports (streams_of home))) ≤ 1 → count (is_asking a u) (serving_step home m).sends ≤ 1
  serving-few m few =
      let q = is_asking a u in
      let first = choice_step home m in
      let second = ask_step home first.after in
      let third = processing_step home second.after in
      let fourth = announcing_step home third.after in
      let sorted : count q first.sends ≡ count q (mails (subscriptions home.plan m.ports (streams_of home))) = count-sorted q (λ (y : Mail). y.to) (mails (subscriptions home.plan m.ports (streams_of home))) in
      let two = count-none q second.sends (asking-passed home Any Quiet quiet-obliges first.after tt).sends in
      let three = count-none q third.sends (processing-passed home Any Quiet quiet-obliges second.after tt).sends in
      let four = count-none q fourth.sends (announcing-passed home Any Quiet quiet-obliges third.after tt).sends in
      let sum_one = count-append q first.sends second.sends in
      let sum_two = count-append q (first.sends ++ second.sends) third.sends in
      let sum_three = count-append q (first.sends ++ second.sends ++ third.sends) fourth.sends in
      omega (arith, few, sorted, two, three, four, sum_one, sum_two, sum_three)

  recovering-few : (m : PlainNode) → count (is_asking a u) (then_do (snapshot_ask_step home m) (announcing_step home)).sends ≤ 1
  recovering-few m = let none = count-none (is_asking a u) (then_do (snapshot_ask_step home m) (announcing_step home)).sends (recovering-passed home Any Quiet quiet-obliges m tt).sends in omega (arith, none)

  -- where only one port asks this actor, a tick asks it at most once
  pub ticked-few : (p now : ℕ) (n : PlainNode) →
      ((j : ℕ) (z : Port) (t : StreamRef) → slice_get n.ports j ≡ Some z → slice_get (streams_of home) j ≡ Some t → a (nth 0 (senders_of home.plan t) (choice_at (port_after_tick (without_ended_marks z)))) ≡ true → j ≡ p) →
      count (is_asking a u) (tick_step home now n).sends ≤ 1
  unfolding tick_step
  ticked-few p now n h = going_on (after_clock now (with_marks_ended n)) refl
    where
      few : (m : PlainNode) → m.ports ≡ map port_after_tick (map without_ended_marks n.ports) → count (is_asking a u) (mails (subscriptions home.plan m.ports (streams_of home))) ≤ 1
      few m ticked =
          few-asked home.plan a p 0 u m.ports (streams_of home) (λ j q t at reads must to.
          let was = ticked-port n.ports j q (sym (ap (λ (zs : List Port). slice_get zs j) ticked) ∙ at) in
          let same : j ≡ p = h j was.0 t was.1 reads (ap (λ (z : Port). a (nth 0 (senders_of home.plan t) (choice_at z))) (sym was.2) ∙ to) in
          omega (arith, same))

      going_on : (m : PlainNode) → m.ports ≡ map port_after_tick (map without_ended_marks n.ports) → count (is_asking a u) (rest_of_tick home m).sends ≤ 1
      going_on m ticked =
          elim m.recovering as (λ b. count (is_asking a u) (cond {A = Stepped PlainNode} (not b) (serving_step home m) (cond (may_start_afresh home m) (serving_step home (with_fresh_start m)) (then_do (snapshot_ask_step home m) (announcing_step home)))).sends ≤ 1) [
            | false ↦ serving-few m (few m ticked)
            | true ↦ elim (may_start_afresh home m) as (λ b. count (is_asking a u) (cond {A = Stepped PlainNode} b (serving_step home (with_fresh_start m)) (then_do (snapshot_ask_step home m) (announcing_step home))).sends ≤ 1) [
              | true ↦ serving-few (with_fresh_start m) (few (with_fresh_start m) ticked)
              | false ↦ recovering-few m
            ]
          ]

-- ---- a client

pub client-few : (plan : Plan) (c now : ℕ) (a : ℕ → Bool) (u : Sess) (z : ClientState) → count (is_asking a u) (client_tick_step plan c now z).sends ≤ 1
unfolding client_tick_step
client-few plan c now a u z =
    let q = is_asking a u in
    let port = port_after_tick (without_ended_marks z.port) in
    let asks = mails (subscriptions plan (port ∷ []) (client_stream plan c ∷ [])) in
    let acks = none-acked (length z.port.inlet.held.stable) (senders_of plan (client_stream plan c)) in
    let sum = count-append q asks (mails (acks_to plan 1 (length z.port.inlet.held.stable) (client_stream plan c))) in
    let few = few-asked plan a 0 0 u (port ∷ []) (client_stream plan c ∷ []) (λ j r t at reads must to. let low = only j r at in omega (arith, low)) in
    omega (arith, sum, acks, few)
  where
    only : (j : ℕ) (r : Port) → slice_get (port_after_tick (without_ended_marks z.port) ∷ []) j ≡ Some r → j ≡ 0
    only zero r e = refl
    only (suc j) r e = cc

    none-acked : (n : ℕ) (ids : List ℕ) → count (is_asking a u) (mails (map (λ b. record { to = b; message = message.Ack 1 n }) ids)) ≡ 0
    none-acked n ids = count-none (is_asking a u) (mails (map (λ b. record { to = b; message = message.Ack 1 n }) ids)) (each-acked (λ (m : Mail). is_asking a u m ≡ false) 1 n ids (λ to. and-none (a to)))
