-- What one step of a reader does to what a port holds, where no batch is missing after it.
use Rattle.std.proofs.Common.{◌≡◌, ℕ, ◌+◌, Bool, true, false, cond, not, ◌&&◌, ◌||◌, ◌==◌, nat_lt, nat_le, List, [], ◌∷◌, ◌++◌, map, length, refl, sym, ap, subst, ◌∙◌, arith, Option, Some, None, slice_get, unwrap_or, ◌⊎◌, inl, inr}
use Rattle.dpc_lists.specs.Lists.{nth, changed}
use Rattle.dpc_model.specs.Reading.{Folded, fold_items}
use Rattle.dpc_model.specs.Inlets.{InletState, same_sess, AfterBatch, after_missing_batch, after_next_batch, take_batch, with_next_session, asked_by}
use Rattle.dpc_model.specs.Actors.{senders_of}
use Rattle.dpc_model.specs.declared.messages.Subscribe.{Subscribe}
use Rattle.dpc_model.specs.Ports.{Port, no_port, sender_at, without_ended_marks, on_truncated, port_after_tick, choice_at, must_reopen, port_after_choice, subscriptions, acks_to}
use Rattle.dpc_model.specs.Sessions.{Acked}
use Rattle.dpc_model.specs.declared.sessions.Sub.{Sub}
use Rattle.dpc_model.specs.declared.batches.Taken.TheVariants.{Old}
use Rattle.dpc_model.specs.declared.tuples.Item.{Item}
use Rattle.dpc_model.specs.declared.messages.Sess.{Sess}
use Rattle.dpc_model.specs.declared.messages.Message.{Message}
use Rattle.dpc_model.specs.declared.messages.Message.TheVariants as message
use Rattle.dpc_model.specs.declared.plans.Plan.{Plan}
use Rattle.node_model.specs.Mails.{Packet, Plain, SnapFor, Mail, mails, Stepped}
use Rattle.node_model.specs.Nodes.{Home, PlainNode, streams_of}
use Rattle.node_model.specs.NodeSteps.{then_do, with_port, after_taking, on_batch, with_marks_ended, packet_step, mill_step, after_clock, may_start_afresh, choice_step, ask_step, announcing_step, serving_step, snapshot_ask_step, with_fresh_start, rest_of_tick, tick_step}
use Rattle.node_model.specs.Clients.{ClientState, client_stream, client_after_batch, client_message, client_packet, client_marks_ended, client_after_packet, client_tick_step}
use Rattle.dpc_lists.proofs.Truths.{eq-of, not-lt, not-first}
use Rattle.node_model.proofs.Mailed.{kept-port}
use Rattle.dpc_lists.proofs.Each.{Each, each-append}
use Rattle.law_granting.proofs.Asked.{each-unit}
use Rattle.law_granting.proofs.Moves.{get-mapped, get-was, stamped-ports, processing-ports, reconciling-ports}
use Rattle.law_readers.proofs.Sessions.{each-acked, ticked-port}
use Rattle.law_readers.proofs.Passing.{Obliges, Takes, Kept, kept-inlet, kept-self, KeepPorts, keep-ports-then, beat-kept, packet-passed, mill-passed}

-- the next batch of the port's session was read
pub record Reads (q r : Port) (u : Sess) (index : ℕ) (items : List Item) : Type 0 where
  pub whole : q.inlet.broken ≡ false
  pub named : same_sess u q.inlet.sess ≡ true
  pub number : index ≡ q.inlet.next
  pub folded : Folded
  pub read : fold_items q.inlet.held items ≡ Some folded
  pub held : r.inlet.held ≡ folded.after
  pub next : r.inlet.next ≡ q.inlet.next + 1

-- the session stays; where no batch is missing, the inlet is the same, or a batch was read
pub record Goes (T : Sess → ℕ → List Item → Type 0) (q r : Port) : Type 0 where
  pub sess : r.inlet.sess ≡ q.inlet.sess
  pub chosen : r.chosen ≡ q.chosen
  pub whole : r.inlet.broken ≡ false → (r.inlet ≡ q.inlet) ⊎ ((u : Sess) × (index : ℕ) × (items : List Item) × T u index items × Reads q r u index items)

pub goes-kept : (T : Sess → ℕ → List Item → Type 0) (q r : Port) → Kept q r → Goes T q r
goes-kept T q r h = record { sess = h.sess; chosen = h.chosen; whole = λ e. inl (h.still e) }

pub goes-behind : (T : Sess → ℕ → List Item → Type 0) (q m r : Port) → m.inlet ≡ q.inlet → m.chosen ≡ q.chosen → Goes T m r → Goes T q r
goes-behind T q m r inlet chosen h =
    record {
      sess = h.sess ∙ ap (λ (x : InletState). x.sess) inlet;
      chosen = h.chosen ∙ chosen;
      whole = λ e. elim (h.whole e) [
        | inl same ↦ inl (same ∙ inlet)
        | inr k ↦
            let g = k.4 in
            inr (
              k.0,
              k.1,
              k.2,
              k.3,
              record {
                whole = sym (ap (λ (x : InletState). x.broken) inlet) ∙ g.whole;
                named = subst (λ (x : InletState). same_sess k.0 x.sess ≡ true) inlet g.named;
                number = g.number ∙ ap (λ (x : InletState). x.next) inlet;
                folded = g.folded;
                read = subst (λ (x : InletState). fold_items x.held k.2 ≡ Some g.folded) inlet g.read;
                held = g.held;
                next = g.next ∙ ap (λ (x : InletState). x.next + 1) inlet;
              },
            )
      ];
    }

-- ---- a batch

pub took-goes : (T : Sess → ℕ → List Item → Type 0) (q : Port) (u : Sess) (index : ℕ) (items : List Item) → T u index items → Goes T q (record q { inlet = (take_batch q.inlet u index items).after })
unfolding take_batch
took-goes T q u index items t =
    (elim (same_sess u q.inlet.sess) as (λ c. same_sess u q.inlet.sess ≡ c → Goes T q (record q { inlet = (cond {A = AfterBatch} (not c || nat_lt index q.inlet.next) (record { after = q.inlet; answer = Old }) (cond (q.inlet.broken || nat_lt q.inlet.next index) (after_missing_batch q.inlet) (after_next_batch q.inlet (fold_items q.inlet.held items)))).after })) [
      | false ↦ λ e. same
      | true ↦ λ e. (elim (nat_lt index q.inlet.next) as (λ c. nat_lt index q.inlet.next ≡ c → Goes T q (record q { inlet = (cond {A = AfterBatch} c (record { after = q.inlet; answer = Old }) (cond (q.inlet.broken || nat_lt q.inlet.next index) (after_missing_batch q.inlet) (after_next_batch q.inlet (fold_items q.inlet.held items)))).after })) [
        | true ↦ λ f. same
        | false ↦ λ f. (elim q.inlet.broken as (λ c. q.inlet.broken ≡ c → Goes T q (record q { inlet = (cond {A = AfterBatch} (c || nat_lt q.inlet.next index) (after_missing_batch q.inlet) (after_next_batch q.inlet (fold_items q.inlet.held items))).after })) [
          | true ↦ λ g. broke
          | false ↦ λ g. (elim (nat_lt q.inlet.next index) as (λ c. nat_lt q.inlet.next index ≡ c → Goes T q (record q { inlet = (cond {A = AfterBatch} c (after_missing_batch q.inlet) (after_next_batch q.inlet (fold_items q.inlet.held items))).after })) [
            | true ↦ λ d. broke
            | false ↦ λ d.
                let low = not-lt index q.inlet.next f in
                let high = not-lt q.inlet.next index d in
                by-folded (fold_items q.inlet.held items) refl e g (omega (arith, low, high))
          ]) refl
        ]) refl
      ]) refl
    ]) refl
  where
    same : Goes T q (record q { inlet = q.inlet })
    same = record { sess = refl; chosen = refl; whole = λ e. inl refl }

    broke : Goes T q (record q { inlet = (after_missing_batch q.inlet).after })
    broke = record { sess = refl; chosen = refl; whole = λ e. cc }

    by-folded : (o : Option Folded) → fold_items q.inlet.held items ≡ o → same_sess u q.inlet.sess ≡ true → q.inlet.broken ≡ false → index ≡ q.inlet.next → Goes T q (record q { inlet = (after_next_batch q.inlet o).after })
    by-folded None r e g i = broke
    by-folded (Some f) r e g i = record { sess = refl; chosen = refl; whole = λ d. inr (u, index, items, t, record { whole = g; named = e; number = i; folded = f; read = r; held = refl; next = refl }) }

-- ---- a node

-- the packet is this batch, of the replica that the port reads
abbrev pub IsBatchFor : Home → ℕ → Packet → ℕ → ℕ → Sess → ℕ → List Item → Type 0
IsBatchFor home a packet p chosen u index items = (packet ≡ Plain (message.Batch u index items)) × (sender_at home.plan (streams_of home) a ≡ Some (p, chosen))

abbrev pub PortsGo : (ℕ → ℕ → Sess → ℕ → List Item → Type 0) → List Port → List Port → Type 0
PortsGo T ps rs = (p : ℕ) (r : Port) → slice_get rs p ≡ Some r → (q : Port) × (slice_get ps p ≡ Some q) × Goes (T p q.chosen) q r

keep-go : (T : ℕ → ℕ → Sess → ℕ → List Item → Type 0) (ps rs : List Port) → KeepPorts ps rs → PortsGo T ps rs
keep-go T ps rs h p r e = let k = h p r e in (k.0, k.1, goes-kept (T p k.0.chosen) k.0 r k.2)

abbrev is_batch : Packet → Bool
is_batch (Plain (message.Batch u index items)) = true
is_batch (Plain (message.Subscribe asked)) = false
is_batch (Plain (message.Truncated u base)) = false
is_batch (Plain (message.Beat b)) = false
is_batch (Plain (message.Ack i n)) = false
is_batch (Plain (message.Ask i n)) = false
is_batch (Plain (message.Grant i n)) = false
is_batch (Plain (message.SnapAsk i n)) = false
is_batch (SnapFor i try s) = false

module _ (home : Home) (start : List Port) where
  abbrev OfPorts : List Port → List Sub → List Acked → ℕ → Type 0
  OfPorts ports subs acks base = KeepPorts start ports

  abbrev AnyMail : Mail → Type 0
  AnyMail m = Unit {0}

  keep-obliges : Obliges home OfPorts AnyMail
  keep-obliges =
      record {
        told = λ to m e. tt;
        snapped = λ n to i try h. tt;
        batched = λ n k sub l items h there tally. tt;
        counted = λ n h. h;
        shut = λ n h. h;
        emptied = λ n h. h;
        based = λ n count h. h;
        moved = λ n rs keeps h. keep-ports-then start n.ports rs h keeps;
      }

  keep-takes : (a : ℕ) (packet : Packet) → is_batch packet ≡ false → Takes home OfPorts AnyMail a packet
  keep-takes a packet other =
      record {
        subscribed = λ asked k n same reader h. record { after = h; sends = each-unit _ };
        acked = λ i count k n same reader h. h;
        took = λ u index p r items n same place chosen h. let clash : true ≡ false = sym (ap is_batch same) ∙ other in cc;
        adopted = λ i try s n same h. h;
      }

module _ (home : Home) where
  keep-start : (ps : List Port) → KeepPorts ps ps
  keep-start ps p r e = (r, e, kept-self r)

  other-go : (a : ℕ) (packet : Packet) (n : PlainNode) → is_batch packet ≡ false → PortsGo (IsBatchFor home a packet) n.ports (packet_step home a packet n).after.ports
  other-go a packet n other =
      keep-go (IsBatchFor home a packet) n.ports (packet_step home a packet n).after.ports (packet-passed home (OfPorts home n.ports) (AnyMail home n.ports) (keep-obliges home n.ports) a packet (keep-takes home n.ports a packet other) n (keep-start n.ports)).after

  marked-go : (T : ℕ → ℕ → Sess → ℕ → List Item → Type 0) (ps rs : List Port) → PortsGo T (map without_ended_marks ps) rs → PortsGo T ps rs
  marked-go T ps rs h p r e =
      let k = h p r e in
      let was = get-mapped without_ended_marks ps p k.0 k.1 in
      let inlet : k.0.inlet ≡ was.0.inlet = ap (λ (x : Port). x.inlet) (sym was.2) in
      let chosen : k.0.chosen ≡ was.0.chosen = ap (λ (x : Port). x.chosen) (sym was.2) in
      (was.0, was.1, goes-behind (T p was.0.chosen) was.0 k.0 r inlet chosen (subst (λ (c : ℕ). Goes (T p c) k.0 r) chosen k.2))

  changed-go : (T : ℕ → ℕ → Sess → ℕ → List Item → Type 0) (i : ℕ) (f : Port → Port) (ps : List Port) → ((q : Port) → slice_get ps i ≡ Some q → Goes (T i q.chosen) q (f q)) → PortsGo T ps (changed i f ps)
  changed-go T i f ps h p r e =
      let k = get-was i f ps p r e in (
        k.0,
        k.1,
        elim k.2 [
          | inl still ↦ subst (λ (x : Port). Goes (T p k.0.chosen) k.0 x) still (goes-kept (T p k.0.chosen) k.0 k.0 (kept-self k.0))
          | inr here ↦ subst (λ (x : Port). Goes (T p k.0.chosen) k.0 x) here.1 (subst (λ (x : ℕ). Goes (T x k.0.chosen) k.0 (f k.0)) (sym here.0) (h k.0 (subst (λ (x : ℕ). slice_get ps x ≡ Some k.0) here.0 k.1)))
        ],
      )

  batch-go : (a : ℕ) (u : Sess) (index : ℕ) (items : List Item) (o : Option (ℕ × ℕ)) (m : PlainNode) → sender_at home.plan (streams_of home) a ≡ o → PortsGo (IsBatchFor home a (Plain (message.Batch u index items))) m.ports (on_batch home u index items o m).ports
  batch-go a u index items None m place = keep-go (IsBatchFor home a (Plain (message.Batch u index items))) m.ports m.ports (keep-start m.ports)
  batch-go a u index items (Some pr) m place =
      let T = IsBatchFor home a (Plain (message.Batch u index items)) in
      let port = nth no_port m.ports pr.0 in
      let x = take_batch port.inlet u index items in
      (elim (port.chosen == pr.1) as (λ b. (port.chosen == pr.1) ≡ b → PortsGo (IsBatchFor home a (Plain (message.Batch u index items))) m.ports (cond b (after_taking home pr.0 x m) m).ports) [
        | false ↦ λ e. keep-go (IsBatchFor home a (Plain (message.Batch u index items))) m.ports m.ports (keep-start m.ports)
        | true ↦ λ e. subst (λ (ps : List Port). PortsGo (IsBatchFor home a (Plain (message.Batch u index items))) m.ports ps) (sym (stamped-ports home x.answer (with_port pr.0 (λ q. record q { inlet = x.after }) m)))
            (changed-go (IsBatchFor home a (Plain (message.Batch u index items))) pr.0 (λ q. record q { inlet = x.after }) m.ports (λ q there. at-port q there (eq-of port.chosen pr.1 e)))
      ]) refl
    where
      at-port : (q : Port) → slice_get m.ports pr.0 ≡ Some q → (nth no_port m.ports pr.0).chosen ≡ pr.1 → Goes (IsBatchFor home a (Plain (message.Batch u index items)) pr.0 q.chosen) q (record q { inlet = (take_batch (nth no_port m.ports pr.0).inlet u index items).after })
      at-port q there chosen =
          let is : nth no_port m.ports pr.0 ≡ q = ap (λ (o : Option Port). unwrap_or o no_port) there in
          let its : q.chosen ≡ pr.1 = ap (λ (z : Port). z.chosen) (sym is) ∙ chosen in
          subst (λ (z : Port). Goes (IsBatchFor home a (Plain (message.Batch u index items)) pr.0 q.chosen) q (record q { inlet = (take_batch z.inlet u index items).after })) (sym is)
          (took-goes (IsBatchFor home a (Plain (message.Batch u index items)) pr.0 q.chosen) q u index items (refl, place ∙ ap (λ (z : ℕ). Some (pr.0, z)) (sym its)))

  batch-delivered : (a : ℕ) (u : Sess) (index : ℕ) (items : List Item) (n : PlainNode) → PortsGo (IsBatchFor home a (Plain (message.Batch u index items))) n.ports (packet_step home a (Plain (message.Batch u index items)) n).after.ports
  unfolding packet_step
  batch-delivered a u index items n =
      marked-go (IsBatchFor home a (Plain (message.Batch u index items))) n.ports (packet_step home a (Plain (message.Batch u index items)) n).after.ports
      (batch-go a u index items (sender_at home.plan (streams_of home) a) (with_marks_ended n) refl)

  pub delivered-go : (a : ℕ) (packet : Packet) (n : PlainNode) → PortsGo (IsBatchFor home a packet) n.ports (packet_step home a packet n).after.ports
  delivered-go a (Plain (message.Batch u index items)) n = batch-delivered a u index items n
  delivered-go a (Plain (message.Subscribe asked)) n = other-go a (Plain (message.Subscribe asked)) n refl
  delivered-go a (Plain (message.Truncated u base)) n = other-go a (Plain (message.Truncated u base)) n refl
  delivered-go a (Plain (message.Beat b)) n = other-go a (Plain (message.Beat b)) n refl
  delivered-go a (Plain (message.Ack i count)) n = other-go a (Plain (message.Ack i count)) n refl
  delivered-go a (Plain (message.Ask i ask)) n = other-go a (Plain (message.Ask i ask)) n refl
  delivered-go a (Plain (message.Grant i ask)) n = other-go a (Plain (message.Grant i ask)) n refl
  delivered-go a (Plain (message.SnapAsk i try)) n = other-go a (Plain (message.SnapAsk i try)) n refl
  delivered-go a (SnapFor i try s) n = other-go a (SnapFor i try s) n refl

  pub milled-go : (r : ℕ) (n : PlainNode) → KeepPorts n.ports (mill_step home r n).after.ports
  milled-go r n = (mill-passed home (OfPorts home n.ports) (AnyMail home n.ports) (keep-obliges home n.ports) r n (keep-start n.ports)).after

-- ---- a tick

-- a tick keeps the inlet, or opens the next session
abbrev pub TicksTo : Port → Port → Type 0
TicksTo q r = ((r.inlet ≡ q.inlet) × (r.chosen ≡ q.chosen)) ⊎ (r.inlet ≡ with_next_session q.inlet)

pub chosen-ticks : (q : Port) → TicksTo q (port_after_choice q)
chosen-ticks q =
    (elim (must_reopen q) as (λ b. must_reopen q ≡ b → TicksTo q (record q { inlet = cond b (with_next_session q.inlet) q.inlet; chosen = choice_at q; ticks = cond b 0 q.ticks })) [
      | true ↦ λ e. inr refl
      | false ↦ λ e. inl (refl, eq-of (choice_at q) q.chosen (not-first (choice_at q == q.chosen) q.inlet.broken (not q.inlet.answered && nat_le 3 q.ticks) e))
    ]) refl

abbrev pub PortsTick : List Port → List Port → Type 0
PortsTick ps rs = (p : ℕ) (r : Port) → slice_get rs p ≡ Some r → (q : Port) × (slice_get ps p ≡ Some q) × TicksTo q r

module _ (home : Home) where
  serving-tick : (ps : List Port) (m : PlainNode) → m.ports ≡ map port_after_tick (map without_ended_marks ps) → PortsTick ps (serving_step home m).after.ports
  serving-tick ps m ticked p r e =
      let a = choice_step home m in
      let b = ask_step home a.after in
      let after : (serving_step home m).after.ports ≡ map port_after_choice m.ports = processing-ports home b.after ∙ reconciling-ports home a.after in
      let k = get-mapped port_after_choice m.ports p r (sym (ap (λ (xs : List Port). slice_get xs p) after) ∙ e) in
      let was = ticked-port ps p k.0 (sym (ap (λ (xs : List Port). slice_get xs p) ticked) ∙ k.1) in
      let inlet : k.0.inlet ≡ was.0.inlet = ap (λ (x : Port). x.inlet) was.2 in
      let chosen : k.0.chosen ≡ was.0.chosen = ap (λ (x : Port). x.chosen) was.2 in (
        was.0,
        was.1,
        subst (λ (x : Port). TicksTo was.0 x) k.2 (elim (chosen-ticks k.0) [
          | inl same ↦ inl (same.0 ∙ inlet, same.1 ∙ chosen)
          | inr opened ↦ inr (opened ∙ ap with_next_session inlet)
        ]),
      )

  pub ticked-go : (now : ℕ) (n : PlainNode) → PortsTick n.ports (tick_step home now n).after.ports
  unfolding tick_step
  ticked-go now n = going_on (after_clock now (with_marks_ended n)) refl
    where
      going_on : (m : PlainNode) → m.ports ≡ map port_after_tick (map without_ended_marks n.ports) → PortsTick n.ports (rest_of_tick home m).after.ports
      going_on m ticked =
          elim m.recovering as (λ b. PortsTick n.ports (cond {A = Stepped PlainNode} (not b) (serving_step home m) (cond (may_start_afresh home m) (serving_step home (with_fresh_start m)) (then_do (snapshot_ask_step home m) (announcing_step home)))).after.ports) [
            | false ↦ serving-tick n.ports m ticked
            | true ↦ elim (may_start_afresh home m) as (λ b. PortsTick n.ports (cond {A = Stepped PlainNode} b (serving_step home (with_fresh_start m)) (then_do (snapshot_ask_step home m) (announcing_step home))).after.ports) [
              | true ↦ serving-tick n.ports (with_fresh_start m) ticked
              | false ↦ λ p r e. let was = ticked-port n.ports p r (sym (ap (λ (xs : List Port). slice_get xs p) ticked) ∙ e) in (was.0, was.1, inl (ap (λ (x : Port). x.inlet) was.2, ap (λ (x : Port). x.chosen) was.2))
            ]
          ]

-- ---- a client

abbrev pub IsBatchHere : Plan → ℕ → ℕ → Packet → ℕ → Sess → ℕ → List Item → Type 0
IsBatchHere plan c a packet chosen u index items = (packet ≡ Plain (message.Batch u index items)) × ((p : ℕ) × (sender_at plan (client_stream plan c ∷ []) a ≡ Some (p, chosen)))

message-go : (plan : Plan) (c a p r : ℕ) (m : Message) (z : ClientState) → sender_at plan (client_stream plan c ∷ []) a ≡ Some (p, r) → Goes (IsBatchHere plan c a (Plain m) z.port.chosen) z.port (client_message r m z).port
message-go plan c a p r (message.Batch u index items) z place =
    (elim (z.port.chosen == r) as (λ b. (z.port.chosen == r) ≡ b → Goes (IsBatchHere plan c a (Plain (message.Batch u index items)) z.port.chosen) z.port (cond {A = ClientState} b (client_after_batch (take_batch z.port.inlet u index items) z) z).port) [
      | false ↦ λ e. goes-kept (IsBatchHere plan c a (Plain (message.Batch u index items)) z.port.chosen) z.port z.port (kept-self z.port)
      | true ↦ λ e.
          let t = take_batch z.port.inlet u index items in
          subst (λ (y : Port). Goes (IsBatchHere plan c a (Plain (message.Batch u index items)) z.port.chosen) z.port y) (sym (kept-port t.answer (record z { port = record z.port { inlet = t.after } })))
          (took-goes (IsBatchHere plan c a (Plain (message.Batch u index items)) z.port.chosen) z.port u index items (refl, (p, place ∙ ap (λ (y : ℕ). Some (p, y)) (sym (eq-of z.port.chosen r e)))))
    ]) refl
message-go plan c a p r (message.Truncated u base) z place = goes-kept (IsBatchHere plan c a (Plain (message.Truncated u base)) z.port.chosen) z.port (on_truncated r u base z.port) (kept-inlet z.port (on_truncated r u base z.port) refl refl)
message-go plan c a p r (message.Beat b) z place = goes-kept (IsBatchHere plan c a (Plain (message.Beat b)) z.port.chosen) z.port _ (beat-kept r b z.port)
message-go plan c a p r (message.Subscribe asked) z place = goes-kept (IsBatchHere plan c a (Plain (message.Subscribe asked)) z.port.chosen) z.port z.port (kept-self z.port)
message-go plan c a p r (message.Ack i n) z place = goes-kept (IsBatchHere plan c a (Plain (message.Ack i n)) z.port.chosen) z.port z.port (kept-self z.port)
message-go plan c a p r (message.Ask i n) z place = goes-kept (IsBatchHere plan c a (Plain (message.Ask i n)) z.port.chosen) z.port z.port (kept-self z.port)
message-go plan c a p r (message.Grant i n) z place = goes-kept (IsBatchHere plan c a (Plain (message.Grant i n)) z.port.chosen) z.port z.port (kept-self z.port)
message-go plan c a p r (message.SnapAsk i n) z place = goes-kept (IsBatchHere plan c a (Plain (message.SnapAsk i n)) z.port.chosen) z.port z.port (kept-self z.port)

packet-go : (plan : Plan) (c a : ℕ) (o : Option (ℕ × ℕ)) (packet : Packet) (z : ClientState) → sender_at plan (client_stream plan c ∷ []) a ≡ o → Goes (IsBatchHere plan c a packet z.port.chosen) z.port (client_packet o packet z).port
packet-go plan c a None packet z place = goes-kept (IsBatchHere plan c a packet z.port.chosen) z.port z.port (kept-self z.port)
packet-go plan c a (Some pr) (Plain m) z place = message-go plan c a pr.0 pr.1 m z place
packet-go plan c a (Some pr) (SnapFor i try s) z place = goes-kept (IsBatchHere plan c a (SnapFor i try s) z.port.chosen) z.port z.port (kept-self z.port)

pub client-go : (plan : Plan) (c a : ℕ) (packet : Packet) (z : ClientState) → Goes (IsBatchHere plan c a packet z.port.chosen) z.port (client_after_packet plan c a packet z).port
unfolding client_after_packet
client-go plan c a packet z =
    goes-behind (IsBatchHere plan c a packet z.port.chosen) z.port (without_ended_marks z.port) _ refl refl (packet-go plan c a (sender_at plan (client_stream plan c ∷ []) a) packet (client_marks_ended z) refl)

pub client-ticks-to : (plan : Plan) (c now : ℕ) (z : ClientState) → TicksTo z.port (client_tick_step plan c now z).after.port
unfolding client_tick_step
client-ticks-to plan c now z = chosen-ticks (port_after_tick (without_ended_marks z.port))

-- a client asks for its next session, as it holds the stream
abbrev pub AsksBy : Subscribe → Packet → Type 0
AsksBy v (Plain (message.Subscribe asked)) = asked ≡ v
AsksBy v (Plain (message.Batch u index items)) = Unit {0}
AsksBy v (Plain (message.Truncated u base)) = Unit {0}
AsksBy v (Plain (message.Beat b)) = Unit {0}
AsksBy v (Plain (message.Ack i n)) = Unit {0}
AsksBy v (Plain (message.Ask i n)) = Unit {0}
AsksBy v (Plain (message.Grant i n)) = Unit {0}
AsksBy v (Plain (message.SnapAsk i n)) = Unit {0}
AsksBy v (SnapFor i try s) = Unit {0}

pub client-asks-by : (plan : Plan) (c now : ℕ) (z : ClientState) → Each (λ (m : Mail). AsksBy (asked_by (with_next_session z.port.inlet)) m.packet) (client_tick_step plan c now z).sends
unfolding client_tick_step
client-asks-by plan c now z =
    let port = port_after_tick (without_ended_marks z.port) in
    let v = asked_by (with_next_session z.port.inlet) in
    each-append (λ (m : Mail). AsksBy v m.packet) (mails (subscriptions plan (port ∷ []) (client_stream plan c ∷ []))) (mails (acks_to plan 1 (length z.port.inlet.held.stable) (client_stream plan c)))
    (asked port) (each-acked (λ (m : Mail). AsksBy v m.packet) 1 (length z.port.inlet.held.stable) (senders_of plan (client_stream plan c)) (λ to. tt))
  where
    asked : (q : Port) → Each (λ (m : Mail). AsksBy (asked_by (with_next_session q.inlet)) m.packet) (mails (subscriptions plan (q ∷ []) (client_stream plan c ∷ [])))
    asked q =
        elim (must_reopen q) as (λ b. Each (λ (m : Mail). AsksBy (asked_by (with_next_session q.inlet)) m.packet)
        (mails (cond b (record { to = nth 0 (senders_of plan (client_stream plan c)) (choice_at q); message = message.Subscribe (asked_by (with_next_session q.inlet)) } ∷ []) [] ++ []))) [
          | true ↦ (refl, tt)
          | false ↦ tt
        ]
