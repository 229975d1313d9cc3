-- What an event may do to a port: nothing to its session, or the next batch is taken, or a new session is opened.
use Rattle.std.proofs.Common.{◌≡◌, ℕ, zero, suc, ◌+◌, ◌*◌, true, false, cond, not, ◌&&◌, ◌||◌, ◌==◌, nat_lt, nat_le, List, [], ◌∷◌, map, refl, sym, ap, subst, ◌∙◌, arith, Option, Some, None, slice_get, ◌⊎◌, inl, inr}
use Rattle.std.proofs.lemmas.Grind.{common_steps}
use Rattle.dpc_lists.specs.Lists.{nth, changed}
use Rattle.dpc_model.specs.Reading.{Folded, fold_items}
use Rattle.dpc_model.specs.Inlets.{InletState, AfterBatch, with_next_session, take_batch, same_sess, sess_of, after_missing_batch, after_next_batch, after_tally, shows_loss}
use Rattle.dpc_model.specs.Granting.{may_enter_by, grants, with_promise}
use Rattle.dpc_model.specs.Actors.{replicas_of}
use Rattle.dpc_model.specs.Ports.{Port, no_port, sender_at, without_ended_marks, on_beat, on_truncated, all_truncated, port_after_tick, port_after_choice, choice_at, must_reopen}
use Rattle.dpc_model.specs.declared.batches.Taken.{Taken}
use Rattle.dpc_model.specs.declared.batches.Taken.TheVariants.{Used, Old, Broken}
use Rattle.dpc_model.specs.declared.tuples.Item.{Item}
use Rattle.dpc_model.specs.declared.tuples.Tuple.{Tuple}
use Rattle.dpc_model.specs.declared.messages.Sess.{Sess}
use Rattle.dpc_model.specs.declared.messages.Subscribe.{Subscribe}
use Rattle.dpc_model.specs.declared.messages.Beat.{Beat}
use Rattle.dpc_model.specs.declared.messages.Message.{Message}
use Rattle.dpc_model.specs.declared.messages.Message.TheVariants as message
use Rattle.node_model.specs.Mails.{Snap, Packet, Plain, SnapFor, mail, Stepped}
use Rattle.dpc_model.specs.NodeStates.{is_up_failure}
use Rattle.node_model.specs.Nodes.{Home, PlainNode, streams_of}
use Rattle.node_model.specs.NodeSteps.{idle_step, then_do, replica_number, reader_place, with_port, emptied_port, adopted_ports, enter_step, after_loss, after_adoption, after_taking, with_stamps_of, on_batch, on_subscribe, on_truncation, on_upstream_beat, on_peer_beat, on_ack, on_ask, on_grant, on_snap_ask, on_snap, on_message, on_packet, with_marks_ended, packet_step, mill_step, after_clock, may_start_afresh, choice_step, ask_step, processing_step, announcing_step, serving_step, snapshot_ask_step, rest_of_tick, with_fresh_start, tick_step}
use Rattle.dpc_lists.proofs.Truths.{not-lt, eq-of, neither, not-first}
use Rattle.dpc_model.proofs.Subs.{nth-there}
use Rattle.dpc_lists.proofs.Somes.{some-same}
use Rattle.law_safety.proofs.StepCases.{by-asking, by-processing}
use Rattle.law_granting.specs.Taken.{index_in}

-- ---- one port

-- the session stays: no batch is taken, and an inlet that was broken is still so
pub record Stays (q r : Port) : Type 0 where
  pub sess : r.inlet.sess ≡ q.inlet.sess
  pub chosen : r.chosen ≡ q.chosen
  pub next : r.inlet.broken ≡ false → (q.inlet.broken ≡ false) × (r.inlet.next ≡ q.inlet.next)
  pub none : r.inlet.next ≡ q.inlet.next + 1 → ⊥

-- a new session is opened
pub record Opens (q r : Port) : Type 0 where
  pub sess : same_sess q.inlet.sess r.inlet.sess ≡ false
  pub to : r.inlet.sess ≡ sess_of q.inlet.sess.inc (q.inlet.sess.number + 1)
  pub next : r.inlet.next ≡ 0

-- the next batch is taken
pub record Takes (took_it : ℕ → Sess → ℕ → Type 0) (q r : Port) : Type 0 where
  pub sess : r.inlet.sess ≡ q.inlet.sess
  pub chosen : r.chosen ≡ q.chosen
  pub sound : q.inlet.broken ≡ false
  pub next : r.inlet.next ≡ q.inlet.next + 1
  pub it : took_it q.chosen q.inlet.sess q.inlet.next

abbrev pub Moves : (ℕ → Sess → ℕ → Type 0) → Port → Port → Type 0
Moves T q r = Stays q r ⊎ (Opens q r ⊎ Takes T q r)

pub stays-same : (q r : Port) → r.inlet.sess ≡ q.inlet.sess → r.chosen ≡ q.chosen → r.inlet.next ≡ q.inlet.next → r.inlet.broken ≡ q.inlet.broken → Stays q r
stays-same q r s c n b = record { sess = s; chosen = c; next = λ e. (sym b ∙ e, n); none = λ e. absurd (omega (arith, n, e)) }

-- one that stays, and then moves
pub stays-then : (T : ℕ → Sess → ℕ → Type 0) (q m r : Port) → m.inlet.sess ≡ q.inlet.sess → m.chosen ≡ q.chosen → m.inlet.next ≡ q.inlet.next → m.inlet.broken ≡ q.inlet.broken → Moves T m r → Moves T q r
stays-then T q m r s c n b (inl k) = inl (record {
  sess = k.sess ∙ s;
  chosen = k.chosen ∙ c;
  next = λ e. let p = k.next e in (sym b ∙ p.0, p.1 ∙ n);
  none = λ e. k.none (e ∙ ap (λ (x : ℕ). x + 1) (sym n));
})
stays-then T q m r s c n b (inr (inl k)) = inr (inl (record { sess = ap (λ (u : Sess). same_sess u r.inlet.sess) (sym s) ∙ k.sess; to = k.to ∙ ap (λ (u : Sess). sess_of u.inc (u.number + 1)) s; next = k.next }))
stays-then T q m r s c n b (inr (inr k)) = inr (inr (record {
  sess = k.sess ∙ s;
  chosen = k.chosen ∙ c;
  sound = sym b ∙ k.sound;
  next = k.next ∙ ap (λ (x : ℕ). x + 1) n;
  it = subst (λ (x : ℕ). T x q.inlet.sess q.inlet.next) c (subst (λ (u : Sess). T m.chosen u q.inlet.next) s (subst (λ (x : ℕ). T m.chosen m.inlet.sess x) n k.it));
}))

-- ---- all ports of a node

abbrev pub PortsMove : (ℕ → ℕ → Sess → ℕ → Type 0) → List Port → List Port → Type 0
PortsMove T ps rs = (p : ℕ) (r : Port) → slice_get rs p ≡ Some r → (q : Port) × (slice_get ps p ≡ Some q) × Moves (T p) q r

ports-stay : (T : ℕ → ℕ → Sess → ℕ → Type 0) (ps rs : List Port) → rs ≡ ps → PortsMove T ps rs
ports-stay T ps rs same p r e = (r, sym (ap (λ (xs : List Port). slice_get xs p) same) ∙ e, inl (stays-same r r refl refl refl refl))

pub get-mapped : {X Y : Type 0} (f : X → Y) (xs : List X) (i : ℕ) (y : Y) → slice_get (map f xs) i ≡ Some y → (x : X) × (slice_get xs i ≡ Some x) × (f x ≡ y)
get-mapped f [] i y e = cc
get-mapped f (x ∷ xs) zero y e = (x, refl, cc)
get-mapped f (x ∷ xs) (suc i) y e = get-mapped f xs i y e

ports-map : (T : ℕ → ℕ → Sess → ℕ → Type 0) (f : Port → Port) (ps : List Port) → ((p : ℕ) (q : Port) → Moves (T p) q (f q)) → PortsMove T ps (map f ps)
ports-map T f ps h p r e = let found = get-mapped f ps p r e in (found.0, found.1, subst (λ (x : Port). Moves (T p) found.0 x) found.2 (h p found.0))

pub get-was : {X : Type 0} (i : ℕ) (f : X → X) (xs : List X) (p : ℕ) (y : X) → slice_get (changed i f xs) p ≡ Some y → (x : X) × (slice_get xs p ≡ Some x) × ((x ≡ y) ⊎ ((p ≡ i) × (f x ≡ y)))
get-was i f [] p y e = cc
get-was zero f (x ∷ xs) zero y e = (x, refl, inr (refl, cc))
get-was zero f (x ∷ xs) (suc p) y e = (y, e, inl refl)
get-was (suc i) f (x ∷ xs) zero y e = (x, refl, inl cc)
get-was (suc i) f (x ∷ xs) (suc p) y e =
    let k = get-was i f xs p y e in
    (k.0, k.1, elim k.2 [ inl same ↦ inl same | inr here ↦ inr (ap suc here.0, here.1) ])

ports-changed : (T : ℕ → ℕ → Sess → ℕ → Type 0) (i : ℕ) (f : Port → Port) (ps : List Port) → ((q : Port) → slice_get ps i ≡ Some q → Moves (T i) q (f q)) → PortsMove T ps (changed i f ps)
ports-changed T i f ps h p r e =
    let k = get-was i f ps p r e in (
      k.0,
      k.1,
      elim k.2 [
        | inl same ↦ subst (λ (x : Port). Moves (T p) k.0 x) same (inl (stays-same k.0 k.0 refl refl refl refl))
        | inr here ↦ subst (λ (x : Port). Moves (T p) k.0 x) here.1 (subst (λ (x : ℕ). Moves (T x) k.0 (f k.0)) (sym here.0) (h k.0 (subst (λ (x : ℕ). slice_get ps x ≡ Some k.0) here.0 k.1)))
      ],
    )

-- ---- taking a batch

-- a batch that is used is the next one of the session
pub took-moves : (T : ℕ → Sess → ℕ → Type 0) (q : Port) (u : Sess) (index : ℕ) (items : List Item) → (same_sess u q.inlet.sess ≡ true → index ≡ q.inlet.next → T q.chosen q.inlet.sess q.inlet.next) →
    Moves T q (record q { inlet = (take_batch q.inlet u index items).after })
unfolding take_batch
took-moves T q u index items h =
    (elim (same_sess u q.inlet.sess) as (λ c. same_sess u q.inlet.sess ≡ c → Moves T q (record q { inlet = (cond {A = AfterBatch} (not c || nat_lt index q.inlet.next) (record { after = q.inlet; answer = Old }) (cond (q.inlet.broken || nat_lt q.inlet.next index) (after_missing_batch q.inlet) (after_next_batch q.inlet (fold_items q.inlet.held items)))).after })) [
      | false ↦ λ e. inl (stays-same q q refl refl refl refl)
      | true ↦ λ e. (elim (nat_lt index q.inlet.next) as (λ c. nat_lt index q.inlet.next ≡ c → Moves T q (record q { inlet = (cond {A = AfterBatch} c (record { after = q.inlet; answer = Old }) (cond (q.inlet.broken || nat_lt q.inlet.next index) (after_missing_batch q.inlet) (after_next_batch q.inlet (fold_items q.inlet.held items)))).after })) [
        | true ↦ λ f. inl (stays-same q q refl refl refl refl)
        | false ↦ λ f. (elim q.inlet.broken as (λ c. q.inlet.broken ≡ c → Moves T q (record q { inlet = (cond {A = AfterBatch} (c || nat_lt q.inlet.next index) (after_missing_batch q.inlet) (after_next_batch q.inlet (fold_items q.inlet.held items))).after })) [
          | true ↦ λ g. inl broke
          | false ↦ λ g. (elim (nat_lt q.inlet.next index) as (λ c. nat_lt q.inlet.next index ≡ c → Moves T q (record q { inlet = (cond {A = AfterBatch} c (after_missing_batch q.inlet) (after_next_batch q.inlet (fold_items q.inlet.held items))).after })) [
            | true ↦ λ d. inl broke
            | false ↦ λ d.
                let low = not-lt index q.inlet.next f in
                let high = not-lt q.inlet.next index d in
                by-folded (fold_items q.inlet.held items) g (h e (omega (arith, low, high)))
          ]) refl
        ]) refl
      ]) refl
    ]) refl
  where
    broke : Stays q (record q { inlet = (after_missing_batch q.inlet).after })
    broke = record { sess = refl; chosen = refl; next = λ e. cc; none = λ e. absurd (omega (arith, e)) }

    by-folded : (o : Option Folded) → q.inlet.broken ≡ false → T q.chosen q.inlet.sess q.inlet.next → Moves T q (record q { inlet = (after_next_batch q.inlet o).after })
    by-folded None g it = inl broke
    by-folded (Some f) g it = inr (inr (record { sess = refl; chosen = refl; sound = g; next = refl; it = it }))

pub beat-moves : (T : ℕ → Sess → ℕ → Type 0) (q : Port) (r : ℕ) (b : Beat) → Moves T q (on_beat r b q)
beat-moves T q r b =
    elim (r == q.chosen) as (λ c. Moves T q (record { inlet = cond c (after_tally q.inlet b.tally) q.inlet; chosen = q.chosen; watches = (on_beat r b q).watches; ticks = q.ticks })) [
      | true ↦ inl (record { sess = refl; chosen = refl; next = λ e. ((neither q.inlet.broken (shows_loss q.inlet b.tally) e).0, refl); none = λ e. absurd (omega (arith, e)) })
      | false ↦ inl (record { sess = refl; chosen = refl; next = λ e. (e, refl); none = λ e. absurd (omega (arith, e)) })
    ]

pub truncated-moves : (T : ℕ → Sess → ℕ → Type 0) (q : Port) (r : ℕ) (u : Sess) (base : ℕ) → Moves T q (on_truncated r u base q)
truncated-moves T q r u base = inl (stays-same q (on_truncated r u base q) refl refl refl refl)

pub emptied-moves : (T : ℕ → Sess → ℕ → Type 0) (q : Port) (ts : List Tuple) (b : ℕ) → Moves T q (emptied_port ts b q)
emptied-moves T q ts b = inl (record { sess = refl; chosen = refl; next = λ e. cc; none = λ e. absurd (omega (arith, e)) })

pub chosen-moves : (T : ℕ → Sess → ℕ → Type 0) (q : Port) → Moves T q (port_after_choice q)
chosen-moves T q =
    (elim (must_reopen q) as (λ c. must_reopen q ≡ c → Moves T q (record q { inlet = cond c (with_next_session q.inlet) q.inlet; chosen = choice_at q; ticks = cond c 0 q.ticks })) [
      | true ↦ λ e. inr (inl (record { sess = other q.inlet.sess; to = refl; next = refl }))
      | false ↦ λ e. inl (stays-same q (record q { chosen = choice_at q }) refl (eq-of (choice_at q) q.chosen (not-first (choice_at q == q.chosen) q.inlet.broken (not q.inlet.answered && nat_le 3 q.ticks) e)) refl refl)
    ]) refl
  where
    other : (u : Sess) → (u.inc == u.inc && u.number == u.number + 1) ≡ false
    other u = grind (arith, common_steps)

-- ---- the node's ports

-- a packet is the batch of this index, from the replica that the port reads
abbrev pub DeliversNext : Home → ℕ → Packet → ℕ → ℕ → Sess → ℕ → Type 0
DeliversNext home a packet p r s i = (sender_at home.plan (streams_of home) a ≡ Some (p, r)) × (index_in s packet ≡ Some i)

pub stamped-ports : (home : Home) (x : Taken) (n : PlainNode) → (with_stamps_of home x n).ports ≡ n.ports
stamped-ports home (Used items) n = refl
stamped-ports home Old n = refl
stamped-ports home Broken n = refl

-- what a replica serves and promises leaves its ports as they are
pub ack-ports : (home : Home) (i count : ℕ) (o : Option ℕ) (n : PlainNode) → (on_ack home i count o n).ports ≡ n.ports
ack-ports home i count None n = refl
ack-ports home i count (Some k) n = refl

pub subscribe-ports : (home : Home) (asked : Subscribe) (o : Option ℕ) (n : PlainNode) → (on_subscribe home asked o n).after.ports ≡ n.ports
subscribe-ports home asked None n = refl
subscribe-ports home asked (Some k) n = refl

pub ask-ports : (home : Home) (i ask : ℕ) (o : Option ℕ) (n : PlainNode) → (on_ask home i ask o n).after.ports ≡ n.ports
ask-ports home i ask None n = refl
ask-ports home i ask (Some r) n = elim (grants n.grants n.state r (i, ask)) as (λ b. (cond {A = Stepped PlainNode} b (record { after = record n { grants = with_promise n.grants r (i, ask) }; sends = mail (nth 0 (replicas_of home.plan home.frag) r) (message.Grant i ask) ∷ [] }) (idle_step n)).after.ports ≡ n.ports) [
  | true ↦ refl
  | false ↦ refl
]

module _ (home : Home) (a : ℕ) (packet : Packet) where
  abbrev NodeMoves : PlainNode → PlainNode → Type 0
  NodeMoves n m = PortsMove (DeliversNext home a packet) n.ports m.ports

  batch-ports : (u : Sess) (index : ℕ) (items : List Item) (o : Option (ℕ × ℕ)) (n : PlainNode) → sender_at home.plan (streams_of home) a ≡ o → packet ≡ Plain (message.Batch u index items) → NodeMoves n (on_batch home u index items o n)
  batch-ports u index items None n e same = ports-stay (DeliversNext home a packet) n.ports n.ports refl
  batch-ports u index items (Some pr) n e same =
      let port = nth no_port n.ports pr.0 in
      (elim (port.chosen == pr.1) as (λ c. (port.chosen == pr.1) ≡ c → NodeMoves n (cond c (after_taking home pr.0 (take_batch port.inlet u index items) n) n)) [
        | false ↦ λ f. ports-stay (DeliversNext home a packet) n.ports n.ports refl
        | true ↦ λ f. subst (λ (ps : List Port). PortsMove (DeliversNext home a packet) n.ports ps)
            (sym (stamped-ports home (take_batch port.inlet u index items).answer (with_port pr.0 (λ q. record q { inlet = (take_batch port.inlet u index items).after }) n)))
            (ports-changed (DeliversNext home a packet) pr.0 (λ q. record q { inlet = (take_batch port.inlet u index items).after }) n.ports (λ q there. at-port q there f))
      ]) refl
    where
      at-port : (q : Port) → slice_get n.ports pr.0 ≡ Some q → ((nth no_port n.ports pr.0).chosen == pr.1) ≡ true →
          Moves (DeliversNext home a packet pr.0) q (record q { inlet = (take_batch (nth no_port n.ports pr.0).inlet u index items).after })
      at-port q there f =
          let same_port = nth-there n.ports pr.0 q there in
          let chosen : q.chosen ≡ pr.1 = eq-of q.chosen pr.1 (subst (λ (x : Port). (x.chosen == pr.1) ≡ true) same_port f) in
          subst (λ (x : Port). Moves (DeliversNext home a packet pr.0) q (record q { inlet = (take_batch x.inlet u index items).after })) (sym same_port)
          (took-moves (DeliversNext home a packet pr.0) q u index items (λ s i. (subst (λ (r : ℕ). sender_at home.plan (streams_of home) a ≡ Some (pr.0, r)) (sym chosen) e, named s i q)))
        where
          named : (same_sess u q.inlet.sess ≡ true) → index ≡ q.inlet.next → (x : Port) → index_in q.inlet.sess packet ≡ Some q.inlet.next
          named s i x = rw (same, s, i) refl

  truncation-ports : (u : Sess) (base : ℕ) (o : Option (ℕ × ℕ)) (n : PlainNode) → NodeMoves n (on_truncation home u base o n)
  unfolding after_loss
  truncation-ports u base None n = ports-stay (DeliversNext home a packet) n.ports n.ports refl
  truncation-ports u base (Some pr) n =
      let old = nth no_port n.ports pr.0 in
      let port = on_truncated pr.1 u base old in
      let m = with_port pr.0 (λ _. port) n in
      elim (same_sess u old.inlet.sess && all_truncated port) as (λ b. NodeMoves n (cond b (after_loss home m) m)) [
        | true ↦ gone
        | false ↦ ports-changed (DeliversNext home a packet) pr.0 (λ _. port) n.ports (λ q there. marked-port q there)
      ]
    where
      marked-port : (q : Port) → slice_get n.ports pr.0 ≡ Some q → Moves (DeliversNext home a packet pr.0) q (on_truncated pr.1 u base (nth no_port n.ports pr.0))
      marked-port q there = subst (λ (x : Port). Moves (DeliversNext home a packet pr.0) q (on_truncated pr.1 u base x)) (sym (nth-there n.ports pr.0 q there)) (truncated-moves (DeliversNext home a packet pr.0) q pr.1 u base)

      emptied-after : (p : ℕ) (q m : Port) → m.inlet.sess ≡ q.inlet.sess → m.chosen ≡ q.chosen → Moves (DeliversNext home a packet p) q (emptied_port [] 0 m)
      emptied-after p q m s c = inl (record { sess = s; chosen = c; next = λ e. cc; none = λ e. absurd (omega (arith, e)) })

      gone : PortsMove (DeliversNext home a packet) n.ports (map (emptied_port [] 0) (changed pr.0 (λ _. on_truncated pr.1 u base (nth no_port n.ports pr.0)) n.ports))
      gone p r e =
          let found = get-mapped (emptied_port [] 0) (changed pr.0 (λ _. on_truncated pr.1 u base (nth no_port n.ports pr.0)) n.ports) p r e in
          let was = get-was pr.0 (λ _. on_truncated pr.1 u base (nth no_port n.ports pr.0)) n.ports p found.0 found.1 in (
            was.0,
            was.1,
            subst (λ (x : Port). Moves (DeliversNext home a packet p) was.0 x) found.2 (elim was.2 [
              | inl same ↦ subst (λ (x : Port). Moves (DeliversNext home a packet p) was.0 (emptied_port [] 0 x)) same (emptied-after p was.0 was.0 refl refl)
              | inr here ↦
                  let it = nth-there n.ports pr.0 was.0 (subst (λ (x : ℕ). slice_get n.ports x ≡ Some was.0) here.0 was.1) in
                  subst (λ (x : Port). Moves (DeliversNext home a packet p) was.0 (emptied_port [] 0 x)) (ap (λ (x : Port). on_truncated pr.1 u base x) (sym it) ∙ here.1)
                  (emptied-after p was.0 (on_truncated pr.1 u base was.0) refl refl)
            ]),
          )

  upstream-ports : (b : Beat) (o : Option (ℕ × ℕ)) (n : PlainNode) → NodeMoves n (on_upstream_beat b o n)
  upstream-ports b None n = ports-stay (DeliversNext home a packet) n.ports n.ports refl
  upstream-ports b (Some pr) n = ports-changed (DeliversNext home a packet) pr.0 (on_beat pr.1 b) n.ports (λ q there. beat-moves (DeliversNext home a packet pr.0) q pr.1 b)

  peer-ports : (b : Beat) (o : Option ℕ) (n : PlainNode) → (on_peer_beat b o n).ports ≡ n.ports
  peer-ports b None n = refl
  peer-ports b (Some r) n = refl

  adopted-ports : (s : Snap) (n : PlainNode) → NodeMoves n (after_adoption home s n)
  unfolding after_adoption
  adopted-ports s n = among (s.cursor * home.plan.width) s.inputs n.ports
    where
      among : (b : ℕ) (tss : List (List Tuple)) (ps : List Port) → PortsMove (DeliversNext home a packet) ps (adopted_ports b tss ps)
      among b [] ps p r e = cc
      among b (ts ∷ tss) [] p r e = cc
      among b (ts ∷ tss) (q ∷ ps) zero r e = (q, refl, subst (λ (x : Port). Moves (DeliversNext home a packet 0) q x) (some-same (emptied_port ts b q) r e) (emptied-moves (DeliversNext home a packet 0) q ts b))
      among b (ts ∷ tss) (q ∷ ps) (suc p) r e = let k = shifted b tss ps p r e in k
        where
          stays-any : (p : ℕ) (x : Port) (ts : List Tuple) (b : ℕ) → Moves (DeliversNext home a packet p) x (emptied_port ts b x)
          stays-any p x ts b = emptied-moves (DeliversNext home a packet p) x ts b

          shifted : (b : ℕ) (tss : List (List Tuple)) (ps : List Port) (i : ℕ) (r : Port) → slice_get (adopted_ports b tss ps) i ≡ Some r → (x : Port) × (slice_get ps i ≡ Some x) × Moves (DeliversNext home a packet (suc p)) x r
          shifted b [] ps i r e = cc
          shifted b (ts ∷ tss) [] i r e = cc
          shifted b (ts ∷ tss) (x ∷ ps) zero r e = (x, refl, subst (λ (y : Port). Moves (DeliversNext home a packet (suc p)) x y) (some-same (emptied_port ts b x) r e) (stays-any (suc p) x ts b))
          shifted b (ts ∷ tss) (x ∷ ps) (suc i) r e = shifted b tss ps i r e

entered-ports : (home : Home) (n : PlainNode) → (enter_step home n).after.ports ≡ n.ports
unfolding enter_step
entered-ports home n = refl

pub grant-ports : (home : Home) (i ask : ℕ) (n : PlainNode) → (on_grant home i ask n).after.ports ≡ n.ports
grant-ports home i ask n = elim (is_up_failure n.state && may_enter_by n.grants (i, ask)) as (λ b. (cond {A = Stepped PlainNode} b (enter_step home n) (idle_step n)).after.ports ≡ n.ports) [ true ↦ entered-ports home n | false ↦ refl ]

pub unless-ports : (home : Home) (n : PlainNode) (s : Stepped PlainNode) → s.after.ports ≡ n.ports → (cond {A = Stepped PlainNode} n.recovering (idle_step n) s).after.ports ≡ n.ports
unless-ports home n s h = elim n.recovering as (λ b. (cond {A = Stepped PlainNode} b (idle_step n) s).after.ports ≡ n.ports) [ true ↦ refl | false ↦ h ]

message-ports : (home : Home) (a : ℕ) (m : Message) (n : PlainNode) → PortsMove (DeliversNext home a (Plain m)) n.ports (on_message home a m n).after.ports
message-ports home a (message.Batch u index items) n = batch-ports home a (Plain (message.Batch u index items)) u index items (sender_at home.plan (streams_of home) a) n refl refl
message-ports home a (message.Subscribe asked) n =
    ports-stay (DeliversNext home a (Plain (message.Subscribe asked))) n.ports (on_message home a (message.Subscribe asked) n).after.ports
    (unless-ports home n (on_subscribe home asked (reader_place home a) n) (subscribe-ports home asked (reader_place home a) n))
message-ports home a (message.Truncated u base) n = truncation-ports home a (Plain (message.Truncated u base)) u base (sender_at home.plan (streams_of home) a) n
message-ports home a (message.Beat b) n =
    subst (λ (ps : List Port). PortsMove (DeliversNext home a (Plain (message.Beat b))) n.ports ps)
    (sym (peer-ports home a (Plain (message.Beat b)) b (replica_number home a) (on_upstream_beat b (sender_at home.plan (streams_of home) a) n)))
    (upstream-ports home a (Plain (message.Beat b)) b (sender_at home.plan (streams_of home) a) n)
message-ports home a (message.Ack i count) n =
    ports-stay (DeliversNext home a (Plain (message.Ack i count))) n.ports (on_message home a (message.Ack i count) n).after.ports
    (elim n.recovering as (λ b. (cond b n (on_ack home i count (reader_place home a) n)).ports ≡ n.ports) [ true ↦ refl | false ↦ ack-ports home i count (reader_place home a) n ])
message-ports home a (message.Ask i ask) n =
    ports-stay (DeliversNext home a (Plain (message.Ask i ask))) n.ports (on_message home a (message.Ask i ask) n).after.ports (ask-ports home i ask (replica_number home a) n)
message-ports home a (message.Grant i ask) n =
    ports-stay (DeliversNext home a (Plain (message.Grant i ask))) n.ports (on_message home a (message.Grant i ask) n).after.ports (grant-ports home i ask n)
message-ports home a (message.SnapAsk i try) n =
    ports-stay (DeliversNext home a (Plain (message.SnapAsk i try))) n.ports (on_message home a (message.SnapAsk i try) n).after.ports (unless-ports home n (on_snap_ask home a i try n) refl)

snap-ports : (home : Home) (a i try : ℕ) (s : Snap) (n : PlainNode) → PortsMove (DeliversNext home a (SnapFor i try s)) n.ports (on_snap home i try s n).ports
snap-ports home a i try s n = elim (n.recovering && i == n.grants.inc && try == n.tries) as (λ b. PortsMove (DeliversNext home a (SnapFor i try s)) n.ports (cond b (after_adoption home s n) n).ports) [
  | true ↦ adopted-ports home a (SnapFor i try s) s n
  | false ↦ ports-stay (DeliversNext home a (SnapFor i try s)) n.ports n.ports refl
]

packet-ports : (home : Home) (a : ℕ) (packet : Packet) (n : PlainNode) → PortsMove (DeliversNext home a packet) n.ports (on_packet home a packet n).after.ports
packet-ports home a (Plain m) n = message-ports home a m n
packet-ports home a (SnapFor i try s) n = snap-ports home a i try s n

-- behind a change that leaves each inlet and choice
behind-map : (T : ℕ → ℕ → Sess → ℕ → Type 0) (f : Port → Port) (ps rs : List Port) → ((q : Port) → (f q).inlet ≡ q.inlet) → ((q : Port) → (f q).chosen ≡ q.chosen) → PortsMove T (map f ps) rs → PortsMove T ps rs
behind-map T f ps rs inlet chosen h p r e =
    let k = h p r e in
    let found = get-mapped f ps p k.0 k.1 in
    let q = found.0 in
    let same : k.0.inlet ≡ q.inlet = ap (λ (x : Port). x.inlet) (sym found.2) ∙ inlet q in
    (q, found.1, stays-then (T p) q k.0 r (ap (λ (x : InletState). x.sess) same) (ap (λ (x : Port). x.chosen) (sym found.2) ∙ chosen q) (ap (λ (x : InletState). x.next) same) (ap (λ (x : InletState). x.broken) same) k.2)

pub delivered-ports : (home : Home) (a : ℕ) (packet : Packet) (n : PlainNode) → PortsMove (DeliversNext home a packet) n.ports (packet_step home a packet n).after.ports
unfolding packet_step
delivered-ports home a packet n = behind-map (DeliversNext home a packet) without_ended_marks n.ports (packet_step home a packet n).after.ports (λ q. refl) (λ q. refl) (packet-ports home a packet (with_marks_ended n))

-- ---- milling, and a tick

abbrev pub NoneTaken : ℕ → ℕ → Sess → ℕ → Type 0
NoneTaken p r s i = ⊥

pub milled-ports : (home : Home) (r : ℕ) (n : PlainNode) → PortsMove NoneTaken n.ports (mill_step home r n).after.ports
unfolding mill_step
milled-ports home r n =
    ports-stay NoneTaken n.ports (mill_step home r n).after.ports refl

abbrev pub HasPorts : List Port → Stepped PlainNode → Type 0
HasPorts ps s = s.after.ports ≡ ps

pub reconciling-ports : (home : Home) (n : PlainNode) → HasPorts n.ports (ask_step home n)
reconciling-ports home n =
    by-asking home n (HasPorts n.ports) (entered-ports home n) refl refl

pub processing-ports : (home : Home) (n : PlainNode) → HasPorts n.ports (processing_step home n)
processing-ports home n =
    by-processing home n (HasPorts n.ports) refl (λ last e due. refl)

serving-ports : (home : Home) (n : PlainNode) → PortsMove NoneTaken n.ports (serving_step home n).after.ports
serving-ports home n =
    let a = choice_step home n in
    let b = ask_step home a.after in
    subst (λ (ps : List Port). PortsMove NoneTaken n.ports ps) (sym (processing-ports home b.after ∙ reconciling-ports home a.after))
    (ports-map NoneTaken port_after_choice n.ports (λ p q. chosen-moves (NoneTaken p) q))

going_on-ports : (home : Home) (n : PlainNode) → PortsMove NoneTaken n.ports (rest_of_tick home n).after.ports
going_on-ports home n =
    elim n.recovering as (λ b. PortsMove NoneTaken n.ports (cond {A = Stepped PlainNode} (not b) (serving_step home n) (cond (may_start_afresh home n) (serving_step home (with_fresh_start n)) (then_do (snapshot_ask_step home n) (announcing_step home)))).after.ports) [
      | false ↦ serving-ports home n
      | true ↦ elim (may_start_afresh home n) as (λ b. PortsMove NoneTaken n.ports (cond {A = Stepped PlainNode} b (serving_step home (with_fresh_start n)) (then_do (snapshot_ask_step home n) (announcing_step home))).after.ports) [
        | true ↦ serving-ports home (with_fresh_start n)
        | false ↦ ports-stay NoneTaken n.ports n.ports refl
      ]
    ]

pub ticked-ports : (home : Home) (now : ℕ) (n : PlainNode) → PortsMove NoneTaken n.ports (tick_step home now n).after.ports
unfolding tick_step
ticked-ports home now n =
    behind-map NoneTaken without_ended_marks n.ports (tick_step home now n).after.ports (λ q. refl) (λ q. refl)
    (behind-map NoneTaken port_after_tick (map without_ended_marks n.ports) (tick_step home now n).after.ports (λ q. refl) (λ q. refl) (going_on-ports home (after_clock now (with_marks_ended n))))
