-- What one step of a node keeps of its ports, sessions, acknowledgements and base, and a fact of each of its mails.
use Rattle.std.proofs.Common.{◌≡◌, ℕ, zero, suc, ◌+◌, ◌-◌, ◌*◌, min, Bool, true, false, cond, not, ◌&&◌, ◌||◌, ◌==◌, nat_lt, List, [], ◌∷◌, map, length, refl, sym, ap, subst, ◌∙◌, arith, Option, Some, None, slice_get, inl, inr}
use Rattle.dpc_lists.specs.Lists.{nth, changed}
use Rattle.dpc_model.specs.Inlets.{InletState, same_sess, take_batch, after_tally, shows_loss}
use Rattle.dpc_model.specs.Granting.{own_key, grants, with_promise, may_enter_by, with_ask}
use Rattle.dpc_model.specs.Actors.{replicas_of}
use Rattle.dpc_model.specs.Ports.{Port, no_port, sender_at, without_ended_marks, on_beat, on_truncated, all_truncated, port_after_tick, port_after_choice, subscriptions}
use Rattle.dpc_model.specs.Sessions.{Acked, tally_of, batches_from, with_batch, with_session_shut, given_items, after_ack, base_after}
use Rattle.dpc_model.specs.declared.sessions.Sub.{Sub}
use Rattle.dpc_model.specs.declared.batches.Taken.{Taken}
use Rattle.dpc_model.specs.declared.batches.Taken.TheVariants.{Used, Old, Broken}
use Rattle.dpc_model.specs.declared.tuples.Tuple.{Tuple}
use Rattle.dpc_model.specs.declared.tuples.Item.{Item}
use Rattle.dpc_model.specs.declared.tuples.Item.TheVariants as item
use Rattle.dpc_model.specs.declared.messages.Sess.{Sess}
use Rattle.dpc_model.specs.declared.messages.Beat.{Beat}
use Rattle.dpc_model.specs.declared.messages.Subscribe.{Subscribe}
use Rattle.dpc_model.specs.declared.messages.Message.{Message}
use Rattle.dpc_model.specs.declared.messages.Message.TheVariants as message
use Rattle.dpc_model.specs.declared.messages.NodeState.TheVariants.{Stabilization}
use Rattle.dpc_model.specs.NodeStates.{is_up_failure, is_stabilization}
use Rattle.node_model.specs.Mails.{Snap, Packet, Plain, SnapFor, Mail, mail, mails, in_actor_order, to_readers, Stepped}
use Rattle.node_model.specs.Nodes.{Home, PlainNode, streams_of, own_readers, node_frontier, out_stable, complete_buckets, ready}
use Rattle.node_model.specs.NodeSteps.{idle_step, then_do, peers_of, replica_number, reader_place, with_port, give, given_by, given_stable, enter_step, emptied_port, adopted_ports, after_loss, snapshot, after_adoption, after_taking, with_stamps_of, on_batch, on_subscribe, on_truncation, on_upstream_beat, on_peer_beat, on_ack, on_ask, on_grant, on_snap_ask, on_message, on_packet, with_marks_ended, packet_step, past_buckets, after_stable_buckets, after_last_correction, mill_step, after_clock, may_start_afresh, choice_step, ask_step, with_closed, with_failure, processing_upto, processing_step, acks_from, beat_of, beats, announcing_step, serving_step, snapshot_ask_step, rest_of_tick, with_fresh_start, tick_step}
use Rattle.dpc_lists.proofs.Truths.{eq-of}
use Rattle.dpc_lists.proofs.Places.{place-nth}
use Rattle.dpc_model.proofs.Subs.{nth-there}
use Rattle.dpc_lists.proofs.Somes.{some-same}
use Rattle.dpc_lists.proofs.Each.{Each, each-append}
use Rattle.law_safety.proofs.StepCases.{by-asking, by-processing}
use Rattle.law_granting.proofs.Each.{each-sorted, each-to, each-acks, each-beats}
use Rattle.law_granting.proofs.Moves.{get-mapped, get-was}

-- ---- ports that keep their sessions

-- a port keeps its session and the replica that it reads, and where no batch is missing after it, its whole inlet
pub record Kept (q r : Port) : Type 0 where
  pub sess : r.inlet.sess ≡ q.inlet.sess
  pub chosen : r.chosen ≡ q.chosen
  pub still : r.inlet.broken ≡ false → r.inlet ≡ q.inlet

pub kept-inlet : (q r : Port) → r.inlet ≡ q.inlet → r.chosen ≡ q.chosen → Kept q r
kept-inlet q r same chosen = record { sess = ap (λ (x : InletState). x.sess) same; chosen = chosen; still = λ e. same }

pub kept-then : (q m r : Port) → Kept q m → Kept m r → Kept q r
kept-then q m r h k =
    record { sess = k.sess ∙ h.sess; chosen = k.chosen ∙ h.chosen; still = λ e. let one = k.still e in one ∙ h.still (sym (ap (λ (x : InletState). x.broken) one) ∙ e) }

-- each port is one of these
abbrev pub PortsBy : (Port → Port → Type 0) → List Port → List Port → Type 0
PortsBy R ps rs = (p : ℕ) (r : Port) → slice_get rs p ≡ Some r → (q : Port) × (slice_get ps p ≡ Some q) × R q r

abbrev pub KeepPorts : List Port → List Port → Type 0
KeepPorts ps rs = PortsBy Kept ps rs

abbrev pub SameSession : Port → Port → Type 0
SameSession q r = r.inlet.sess ≡ q.inlet.sess

abbrev pub KeepSessions : List Port → List Port → Type 0
KeepSessions ps rs = PortsBy SameSession ps rs

pub keep-sessions : (ps rs : List Port) → KeepPorts ps rs → KeepSessions ps rs
keep-sessions ps rs h p r e = let k = h p r e in (k.0, k.1, k.2.sess)

pub keep-same : (ps : List Port) → KeepSessions ps ps
keep-same ps p r e = (r, e, refl)

pub keep-then : (ps rs us : List Port) → KeepSessions ps rs → KeepSessions rs us → KeepSessions ps us
keep-then ps rs us h k p u e = let y = k p u e in let x = h p y.0 y.1 in (x.0, x.1, y.2 ∙ x.2)

pub keep-ports-then : (ps rs us : List Port) → KeepPorts ps rs → KeepPorts rs us → KeepPorts ps us
keep-ports-then ps rs us h k p u e = let y = k p u e in let x = h p y.0 y.1 in (x.0, x.1, kept-then x.0 y.0 u x.2 y.2)

pub ports-map : (R : Port → Port → Type 0) (f : Port → Port) (ps : List Port) → ((q : Port) → R q (f q)) → PortsBy R ps (map f ps)
ports-map R f ps h p r e = let k = get-mapped f ps p r e in (k.0, k.1, subst (λ (x : Port). R k.0 x) k.2 (h k.0))

pub ports-changed : (R : Port → Port → Type 0) (i : ℕ) (f : Port → Port) (ps : List Port) → ((q : Port) → R q q) → ((q : Port) → slice_get ps i ≡ Some q → R q (f q)) → PortsBy R ps (changed i f ps)
ports-changed R i f ps same h p r e =
    let k = get-was i f ps p r e in (
      k.0,
      k.1,
      elim k.2 [
        | inl still ↦ subst (λ (x : Port). R k.0 x) still (same k.0)
        | inr here ↦ subst (λ (x : Port). R k.0 x) here.1 (h k.0 (subst (λ (x : ℕ). slice_get ps x ≡ Some k.0) here.0 k.1))
      ],
    )

pub kept-self : (q : Port) → Kept q q
kept-self q = kept-inlet q q refl refl

kept-emptied : (ts : List Tuple) (b : ℕ) (q : Port) → Kept q (emptied_port ts b q)
kept-emptied ts b q = record { sess = refl; chosen = refl; still = λ e. cc }

keep-adopted : (b : ℕ) (tss : List (List Tuple)) (ps : List Port) → KeepPorts ps (adopted_ports b tss ps)
keep-adopted b [] ps p r e = cc
keep-adopted b (ts ∷ tss) [] p r e = cc
keep-adopted b (ts ∷ tss) (q ∷ ps) zero r e = (q, refl, subst (λ (x : Port). Kept q x) (some-same (emptied_port ts b q) r e) (kept-emptied ts b q))
keep-adopted b (ts ∷ tss) (q ∷ ps) (suc p) r e = keep-adopted b tss ps p r e

-- an inlet that is whole after a beat was whole before it, and is the same
pub beat-kept : (r : ℕ) (b : Beat) (q : Port) → Kept q (on_beat r b q)
beat-kept r b q =
    elim (r == q.chosen) as (λ c. Kept q (record { inlet = cond c (after_tally q.inlet b.tally) q.inlet; chosen = q.chosen; watches = (on_beat r b q).watches; ticks = q.ticks })) [
      | true ↦ record { sess = refl; chosen = refl; still = λ e. whole q.inlet (shows_loss q.inlet b.tally) e }
      | false ↦ kept-inlet q (record q { watches = (on_beat r b q).watches }) refl refl
    ]
  where
    whole : (x : InletState) (lost : Bool) → (x.broken || lost) ≡ false → record x { broken = x.broken || lost } ≡ x
    whole x lost e = by-value x.broken refl
      where
        by-value : (c : Bool) → x.broken ≡ c → record x { broken = x.broken || lost } ≡ x
        by-value false f = ap (λ (d : Bool). record x { broken = d }) (e ∙ sym f)
        by-value true f = let wrong : (true || lost) ≡ false = subst (λ (d : Bool). (d || lost) ≡ false) f e in cc

pub beat-session : (r : ℕ) (b : Beat) (q : Port) → (on_beat r b q).inlet.sess ≡ q.inlet.sess
beat-session r b q = (beat-kept r b q).sess

-- ---- what a step is to keep

abbrev pub At : (List Port → List Sub → List Acked → ℕ → Type 0) → PlainNode → Type 0
At I n = I n.ports n.subs n.acks n.base

pub record Passed (I : List Port → List Sub → List Acked → ℕ → Type 0) (P : Mail → Type 0) (t : Stepped PlainNode) : Type 0 where
  pub after : At I t.after
  pub sends : Each P t.sends

-- a message that is of no session, and no snapshot
abbrev pub is_told : Message → Bool
is_told (message.Beat b) = true
is_told (message.Ack i n) = true
is_told (message.Ask i n) = true
is_told (message.Grant i n) = true
is_told (message.SnapAsk i n) = true
is_told (message.Batch u index items) = false
is_told (message.Subscribe asked) = false
is_told (message.Truncated u base) = false

-- what is to be shown of the smallest steps
pub record Obliges (home : Home) (I : List Port → List Sub → List Acked → ℕ → Type 0) (P : Mail → Type 0) : Type 0 where
  pub told : (to : ℕ) (m : Message) → is_told m ≡ true → P (mail to m)
  pub snapped : (n : PlainNode) (to i try : ℕ) → At I n → P (record { to = to; packet = SnapFor i try (snapshot home n) })
  pub batched : (n : PlainNode) (k : ℕ) (sub : Sub) (l : Sess × ℕ) (items : List Item) → At I n → slice_get n.subs k ≡ Some sub → tally_of sub ≡ Some l → P (mail (nth 0 (own_readers home) k) (message.Batch l.0 l.1 items))
  pub counted : (n : PlainNode) → At I n → I n.ports (map with_batch n.subs) n.acks n.base
  pub shut : (n : PlainNode) → At I n → I n.ports (map with_session_shut n.subs) n.acks n.base
  pub emptied : (n : PlainNode) → At I n → I n.ports n.subs (map (λ _. (0, 0)) n.acks) 0
  pub based : (n : PlainNode) (count : ℕ) → At I n → I n.ports n.subs n.acks (base_after n.base n.acks count)
  pub moved : (n : PlainNode) (rs : List Port) → KeepPorts n.ports rs → At I n → I rs n.subs n.acks n.base

-- and of what a packet of this actor does
pub record Takes (home : Home) (I : List Port → List Sub → List Acked → ℕ → Type 0) (P : Mail → Type 0) (a : ℕ) (packet : Packet) : Type 0 where
  pub subscribed : (asked : Subscribe) (k : ℕ) (n : PlainNode) → packet ≡ Plain (message.Subscribe asked) → nth 0 (own_readers home) k ≡ a → At I n → Passed I P (on_subscribe home asked (Some k) n)
  pub acked : (i count k : ℕ) (n : PlainNode) → packet ≡ Plain (message.Ack i count) → nth 0 (own_readers home) k ≡ a → At I n → I n.ports n.subs (changed k (after_ack i count) n.acks) n.base
  pub took : (u : Sess) (index p r : ℕ) (items : List Item) (n : PlainNode) → packet ≡ Plain (message.Batch u index items) → sender_at home.plan (streams_of home) a ≡ Some (p, r) → (nth no_port n.ports p).chosen ≡ r → At I n →
      I (changed p (λ (q : Port). record q { inlet = (take_batch (nth no_port n.ports p).inlet u index items).after }) n.ports) n.subs n.acks n.base
  pub adopted : (i try : ℕ) (s : Snap) (n : PlainNode) → packet ≡ SnapFor i try s → At I n → I n.ports n.subs n.acks s.base

module _ (home : Home) (I : List Port → List Sub → List Acked → ℕ → Type 0) (P : Mail → Type 0) (o : Obliges home I P) where
  abbrev Ok : Stepped PlainNode → Type 0
  Ok t = Passed I P t

  silent : (m : PlainNode) → At I m → Ok (idle_step m)
  silent m h = record { after = h; sends = tt }

  then-passed : (s : Stepped PlainNode) (f : PlainNode → Stepped PlainNode) → Ok s → ((m : PlainNode) → At I m → Ok (f m)) → Ok (then_do s f)
  then-passed s f h g = let k = g s.after h.after in record { after = k.after; sends = each-append P s.sends (f s.after).sends h.sends k.sends }

  -- ---- giving

  each-given : (n : PlainNode) (items : List Item) → At I n → (j : ℕ) (subs : List Sub) → ((i : ℕ) → slice_get subs i ≡ slice_get n.subs (j + i)) → Each P (to_readers (own_readers home) (batches_from j items subs))
  each-given n items h j [] at = tt
  each-given n items h j (sub ∷ subs) at =
      let none : j + 0 ≡ j = omega arith in
      let there : slice_get n.subs j ≡ Some sub = ap (λ (x : ℕ). slice_get n.subs x) (sym none) ∙ sym (at 0) in
      let rest = each-given n items h (j + 1) subs (λ i. let next : j + suc i ≡ j + 1 + i = omega arith in at (suc i) ∙ ap (λ (x : ℕ). slice_get n.subs x) next) in
      (elim (tally_of sub) as (λ l. tally_of sub ≡ l → Each P (to_readers (own_readers home) (elim l [ None ↦ batches_from (j + 1) items subs | Some l ↦ (j, message.Batch l.0 l.1 items) ∷ batches_from (j + 1) items subs ]))) [
        | None ↦ λ e. rest
        | Some l ↦ λ e. (o.batched n j sub l items h there e, rest)
      ]) refl

  pub give-passed : (items : List Item) (n : PlainNode) → At I n → Ok (give home items n)
  give-passed [] n h = record { after = h; sends = tt }
  give-passed (i ∷ items) n h =
      record { after = o.counted n h; sends = each-given n (i ∷ items) h 0 n.subs (λ j. let none : 0 + j ≡ j = omega arith in ap (λ (x : ℕ). slice_get n.subs x) (sym none)) }

  -- ---- packets

  changed-ok : (i : ℕ) (f : Port → Port) (n : PlainNode) → ((q : Port) → slice_get n.ports i ≡ Some q → Kept q (f q)) → At I n → At I (with_port i f n)
  changed-ok i f n keeps h = o.moved n (changed i f n.ports) (ports-changed Kept i f n.ports kept-self keeps) h

  stamped : (t : Taken) (n : PlainNode) → At I n → At I (with_stamps_of home t n)
  stamped (Used items) n h = h
  stamped Old n h = h
  stamped Broken n h = h

  lost-ok : (n : PlainNode) → At I n → At I (after_loss home n)
  unfolding after_loss
  lost-ok n h =
      let ports = map (emptied_port [] 0) n.ports in
      let moved = o.moved n ports (ports-map Kept (emptied_port [] 0) n.ports (kept-emptied [] 0)) h in
      let m : PlainNode = record n { ports = ports } in
      let closed = o.shut m moved in
      o.emptied (record m { subs = map with_session_shut n.subs }) closed

  truncation-ok : (u : Sess) (base : ℕ) (pr : Option (ℕ × ℕ)) (n : PlainNode) → At I n → At I (on_truncation home u base pr n)
  truncation-ok u base None n h = h
  truncation-ok u base (Some pr) n h =
      let old = nth no_port n.ports pr.0 in
      let port = on_truncated pr.1 u base old in
      let m = with_port pr.0 (λ _. port) n in
      let k = changed-ok pr.0 (λ _. port) n (λ q there. kept-inlet q port (ap (λ (x : Port). x.inlet) (nth-there n.ports pr.0 q there)) (ap (λ (x : Port). x.chosen) (nth-there n.ports pr.0 q there))) h in
      elim (same_sess u old.inlet.sess && all_truncated port) as (λ b. At I (cond b (after_loss home m) m)) [ true ↦ lost-ok m k | false ↦ k ]

  beat-ok : (b : Beat) (r : Option ℕ) (pr : Option (ℕ × ℕ)) (n : PlainNode) → At I n → At I (on_peer_beat b r (on_upstream_beat b pr n))
  beat-ok b r pr n h = peer r (on_upstream_beat b pr n) (upstream pr)
    where
      upstream : (x : Option (ℕ × ℕ)) → At I (on_upstream_beat b x n)
      upstream None = h
      upstream (Some x) = changed-ok x.0 (on_beat x.1 b) n (λ q there. beat-kept x.1 b q) h

      peer : (x : Option ℕ) (m : PlainNode) → At I m → At I (on_peer_beat b x m)
      peer None m k = k
      peer (Some x) m k = k

  entered-passed : (n : PlainNode) → At I n → Ok (enter_step home n)
  unfolding enter_step
  entered-passed n h = give-passed (item.Undo (length (out_stable home n)) ∷ []) (record n { closed = []; state = Stabilization; grants = with_ask n.grants }) h

  ask-passed : (i ask : ℕ) (r : Option ℕ) (n : PlainNode) → At I n → Ok (on_ask home i ask r n)
  ask-passed i ask None n h = silent n h
  ask-passed i ask (Some r) n h =
      elim (grants n.grants n.state r (i, ask)) as (λ b. Ok (cond b (record { after = record n { grants = with_promise n.grants r (i, ask) }; sends = mail (nth 0 (replicas_of home.plan home.frag) r) (message.Grant i ask) ∷ [] }) (idle_step n))) [
        | true ↦ record { after = h; sends = (o.told (nth 0 (replicas_of home.plan home.frag) r) (message.Grant i ask) refl, tt) }
        | false ↦ silent n h
      ]

  grant-passed : (i ask : ℕ) (n : PlainNode) → At I n → Ok (on_grant home i ask n)
  grant-passed i ask n h = elim (is_up_failure n.state && may_enter_by n.grants (i, ask)) as (λ b. Ok (cond b (enter_step home n) (idle_step n))) [ true ↦ entered-passed n h | false ↦ silent n h ]

  unless-passed : (n : PlainNode) (t : Stepped PlainNode) → At I n → Ok t → Ok (cond n.recovering (idle_step n) t)
  unless-passed n t h k = elim n.recovering as (λ b. Ok (cond b (idle_step n) t)) [ true ↦ silent n h | false ↦ k ]

  adopted-ok : (s : Snap) (n : PlainNode) → (At I n → I n.ports n.subs n.acks s.base) → At I n → At I (after_adoption home s n)
  unfolding after_adoption
  adopted-ok s n takes h =
      let b = s.cursor * home.plan.width in
      let ports = adopted_ports b s.inputs n.ports in
      let m : PlainNode = record n { base = s.base } in
      let moved = o.moved m ports (keep-adopted b s.inputs n.ports) (takes h) in
      o.shut (record m { ports = ports }) moved

  module _ (a : ℕ) (packet : Packet) (t : Takes home I P a packet) where
    batch-ok : (u : Sess) (index : ℕ) (items : List Item) (pr : Option (ℕ × ℕ)) (n : PlainNode) → sender_at home.plan (streams_of home) a ≡ pr → packet ≡ Plain (message.Batch u index items) → At I n → At I (on_batch home u index items pr n)
    batch-ok u index items None n place same h = h
    batch-ok u index items (Some pr) n place same h =
        let port = nth no_port n.ports pr.0 in
        let x = take_batch port.inlet u index items in
        (elim (port.chosen == pr.1) as (λ b. (port.chosen == pr.1) ≡ b → At I (cond b (after_taking home pr.0 x n) n)) [
          | true ↦ λ e. stamped x.answer (with_port pr.0 (λ q. record q { inlet = x.after }) n) (t.took u index pr.0 pr.1 items n same place (eq-of port.chosen pr.1 e) h)
          | false ↦ λ e. h
        ]) refl

    ack-ok : (i count : ℕ) (k : Option ℕ) (n : PlainNode) → reader_place home a ≡ k → packet ≡ Plain (message.Ack i count) → At I n → At I (on_ack home i count k n)
    ack-ok i count None n place same h = h
    ack-ok i count (Some k) n place same h =
        let acked = t.acked i count k n same (place-nth a (own_readers home) k place) h in
        let m : PlainNode = record n { acks = changed k (after_ack i count) n.acks } in
        o.based m (length (out_stable home m)) acked

    subscribe-passed : (asked : Subscribe) (k : Option ℕ) (n : PlainNode) → reader_place home a ≡ k → packet ≡ Plain (message.Subscribe asked) → At I n → Ok (on_subscribe home asked k n)
    subscribe-passed asked None n place same h = silent n h
    subscribe-passed asked (Some k) n place same h = t.subscribed asked k n same (place-nth a (own_readers home) k place) h

    message-passed : (m : Message) (n : PlainNode) → packet ≡ Plain m → At I n → Ok (on_message home a m n)
    message-passed (message.Batch u index items) n same h = silent _ (batch-ok u index items (sender_at home.plan (streams_of home) a) n refl same h)
    message-passed (message.Subscribe asked) n same h = unless-passed n (on_subscribe home asked (reader_place home a) n) h (subscribe-passed asked (reader_place home a) n refl same h)
    message-passed (message.Truncated u base) n same h = silent _ (truncation-ok u base (sender_at home.plan (streams_of home) a) n h)
    message-passed (message.Beat b) n same h = silent _ (beat-ok b (replica_number home a) (sender_at home.plan (streams_of home) a) n h)
    message-passed (message.Ack i count) n same h =
        silent _ (elim n.recovering as (λ b. At I (cond b n (on_ack home i count (reader_place home a) n))) [ true ↦ h | false ↦ ack-ok i count (reader_place home a) n refl same h ])
    message-passed (message.Ask i ask) n same h = ask-passed i ask (replica_number home a) n h
    message-passed (message.Grant i ask) n same h = grant-passed i ask n h
    message-passed (message.SnapAsk i try) n same h = unless-passed n (on_snap_ask home a i try n) h (record { after = h; sends = (o.snapped n a i try h, tt) })

    on_packet-passed : (p : Packet) (n : PlainNode) → packet ≡ p → At I n → Ok (on_packet home a p n)
    on_packet-passed (Plain m) n same h = message-passed m n same h
    on_packet-passed (SnapFor i try s) n same h =
        elim (n.recovering && i == n.grants.inc && try == n.tries) as (λ b. Ok (idle_step (cond b (after_adoption home s n) n))) [
          | true ↦ silent _ (adopted-ok s n (t.adopted i try s n same) h)
          | false ↦ silent n h
        ]

    pub packet-passed : (n : PlainNode) → At I n → Ok (packet_step home a packet n)
    unfolding packet_step
    packet-passed n h = on_packet-passed packet (with_marks_ended n) refl (o.moved n (map without_ended_marks n.ports) (ports-map Kept without_ended_marks n.ports (λ q. kept-inlet q (without_ended_marks q) refl refl)) h)

  -- ---- milling

  stably-ok : (r : ℕ) (n : PlainNode) → At I n → At I (after_stable_buckets home r n)
  stably-ok r n h = o.based (past_buckets r n) (length (out_stable home (past_buckets r n))) h

  pub mill-passed : (r : ℕ) (n : PlainNode) → At I n → Ok (mill_step home r n)
  unfolding mill_step
  mill-passed r n h =
      let m = after_stable_buckets home r n in
      let done = is_stabilization n.state && ready home m == 0 in
      give-passed (given_items (length (out_stable home n)) (given_stable home n m done)) (after_last_correction done m) (stably-ok r n h)

  -- ---- a tick

  pub asking-passed : (n : PlainNode) → At I n → Ok (ask_step home n)
  asking-passed n h =
      by-asking home n Ok (entered-passed n h)
      (record { after = h; sends = each-to P (message.Ask (own_key n.grants).0 (own_key n.grants).1) (peers_of home) (λ to. o.told to (message.Ask (own_key n.grants).0 (own_key n.grants).1) refl) }) (silent n h)

  upto-passed : (last : ℕ) (n : PlainNode) → At I n → Ok (processing_upto home last n)
  upto-passed last n h =
      let count = last + 1 - node_frontier n in
      let r = min count (complete_buckets home n) in
      let new = with_failure (with_closed home (count - r) (after_stable_buckets home r n)) in
      give-passed (given_items (length (out_stable home n)) (given_by home n new (nat_lt 0 r) (nat_lt r count))) new (stably-ok r n h)

  pub processing-passed : (n : PlainNode) → At I n → Ok (processing_step home n)
  processing-passed n h =
      by-processing home n Ok (silent n h) (λ last e due. upto-passed last n h)

  pub announcing-passed : (n : PlainNode) → At I n → Ok (announcing_step home n)
  announcing-passed n h =
      record {
        after = h;
        sends = each-append P (in_actor_order (acks_from home n n.ports (streams_of home))) (in_actor_order (beats home n))
            (each-sorted P (acks_from home n n.ports (streams_of home)) (each-acks P home n n.ports (streams_of home) (λ to count. o.told to (message.Ack n.grants.inc count) refl)))
            (each-sorted P (beats home n) (each-beats P home n (λ to l. o.told to (beat_of n l) refl)));
      }

  -- the replicas chosen, and the sessions asked for, are shown apart
  pub serving-passed : (n : PlainNode) → I (map port_after_choice n.ports) n.subs n.acks n.base → Each P (mails (subscriptions home.plan n.ports (streams_of home))) → Ok (serving_step home n)
  serving-passed n h subscribed =
      let chosen : Ok (choice_step home n) = record { after = h; sends = each-sorted P (mails (subscriptions home.plan n.ports (streams_of home))) subscribed } in
      then-passed (then_do (then_do (choice_step home n) (ask_step home)) (processing_step home)) (announcing_step home)
      (then-passed (then_do (choice_step home n) (ask_step home)) (processing_step home) (then-passed (choice_step home n) (ask_step home) chosen (λ m k. asking-passed m k)) (λ m k. processing-passed m k)) (λ m k. announcing-passed m k)

  pub recovering-passed : (n : PlainNode) → At I n → Ok (then_do (snapshot_ask_step home n) (announcing_step home))
  recovering-passed n h =
      then-passed (snapshot_ask_step home n) (announcing_step home)
      (record { after = h; sends = each-to P (message.SnapAsk n.grants.inc n.tries) (peers_of home) (λ to. o.told to (message.SnapAsk n.grants.inc n.tries) refl) }) (λ m k. announcing-passed m k)

  -- where a choice of replicas keeps it too
  pub tick-passed : (now : ℕ) (n : PlainNode) → ((m : PlainNode) → At I m → I (map port_after_choice m.ports) m.subs m.acks m.base) → ((m : PlainNode) → At I m → Each P (mails (subscriptions home.plan m.ports (streams_of home)))) →
      At I n → Ok (tick_step home now n)
  unfolding tick_step
  tick-passed now n chooses subscribed h = going_on (after_clock now (with_marks_ended n)) ticked
    where
      ticked : At I (after_clock now (with_marks_ended n))
      ticked =
          let ended = o.moved n (map without_ended_marks n.ports) (ports-map Kept without_ended_marks n.ports (λ q. kept-inlet q (without_ended_marks q) refl refl)) h in
          o.moved (with_marks_ended n) (map port_after_tick (map without_ended_marks n.ports)) (ports-map Kept port_after_tick (map without_ended_marks n.ports) (λ q. kept-inlet q (port_after_tick q) refl refl)) ended

      going_on : (m : PlainNode) → At I m → Ok (rest_of_tick home m)
      going_on m k =
          elim m.recovering as (λ b. Ok (cond (not b) (serving_step home m) (cond (may_start_afresh home m) (serving_step home (with_fresh_start m)) (then_do (snapshot_ask_step home m) (announcing_step home))))) [
            | false ↦ serving-passed m (chooses m k) (subscribed m k)
            | true ↦ elim (may_start_afresh home m) as (λ b. Ok (cond b (serving_step home (with_fresh_start m)) (then_do (snapshot_ask_step home m) (announcing_step home)))) [
              | true ↦ serving-passed (with_fresh_start m) (chooses m k) (subscribed m k)
              | false ↦ recovering-passed m k
            ]
          ]
