-- How far a node has its buckets, those done and those ready: no delivery and no tick makes that less, unless the node recovers.
use Rattle.std.proofs.Common.{◌≡◌, ℕ, zero, suc, ◌+◌, ◌-◌, ◌/◌, ◌≤◌, ◌<◌, Bool, true, false, not, cond, ◌&&◌, ◌==◌, min, List, [], ◌∷◌, ◌++◌, map, refl, sym, ap, subst, ◌∙◌, arith, Option, Some, None, slice_get, unwrap_or}
use Rattle.std.proofs.Math.Nat.{le-div_iff_mul-le, div-mul-le_self, div-zero}
use Rattle.dpc_lists.specs.Lists.{nth, changed, is_nil, least, range_with_len}
use Rattle.dpc_model.specs.Inlets.{same_sess, AfterBatch, take_batch, after_tally, with_next_session}
use Rattle.dpc_model.specs.Granting.{grants, with_promise, may_enter_by}
use Rattle.dpc_model.specs.Actors.{replicas_of}
use Rattle.dpc_model.specs.Reading.{Reader}
use Rattle.dpc_model.specs.Ports.{Port, no_port, held_at, sender_at, on_beat, on_truncated, all_truncated, without_ended_marks, port_after_tick, must_reopen, port_after_choice}
use Rattle.dpc_model.specs.NodeStates.{is_up_failure}
use Rattle.dpc_model.specs.declared.tuples.Item.{Item}
use Rattle.dpc_model.specs.declared.tuples.Tagged.{Tagged}
use Rattle.dpc_model.specs.declared.batches.Taken.{Taken}
use Rattle.dpc_model.specs.declared.batches.Taken.TheVariants.{Used, Old, Broken}
use Rattle.dpc_model.specs.declared.messages.Sess.{Sess}
use Rattle.dpc_model.specs.declared.messages.Subscribe.{Subscribe}
use Rattle.dpc_model.specs.declared.messages.Beat.{Beat}
use Rattle.dpc_model.specs.declared.messages.Message.{Message}
use Rattle.dpc_model.specs.declared.messages.Message.TheVariants as message
use Rattle.node_model.specs.Mails.{Snap, Packet, Plain, SnapFor, mail, Stepped}
use Rattle.node_model.specs.Nodes.{Home, streams_of, PlainNode, node_frontier, bucket_of, complete_upto, ready}
use Rattle.node_model.specs.NodeSteps.{idle_step, then_do, on_snap_ask, snapshot_ask_step, announcing_step, enter_step, after_loss, after_adoption, with_fresh_start, with_stamps_of, after_taking, on_batch, on_subscribe, with_port, on_truncation, on_upstream_beat, on_peer_beat, on_ack, on_ask, on_grant, on_message, on_snap, on_packet, with_marks_ended, packet_step, replica_number, reader_place, after_clock, may_start_afresh, choice_step, ask_step, count_upto, stably, after_stable_buckets, processing_upto, processing_step, serving_step, rest_of_tick, tick_step}
use Rattle.dpc_lists.proofs.Truths.{both, true-not-false}
use Rattle.law_safety.proofs.Batches.{take_batch-bound}
use Rattle.law_safety.proofs.StepCases.{by-asking, by-processing}
use Rattle.law_schedules.proofs.Nodes.{IsZeroed}

-- ---- the bounds of ports

-- of each port the bound of what it holds is as far or farther
abbrev pub Rise : List Port → List Port → Type 0
Rise [] [] = Unit {0}
Rise [] (q ∷ qs) = ⊥
Rise (p ∷ ps) [] = ⊥
Rise (p ∷ ps) (q ∷ qs) = (p.inlet.held.bound ≤ q.inlet.held.bound) × Rise ps qs

rise-itself : (ps : List Port) → Rise ps ps
rise-itself [] = tt
rise-itself (p ∷ ps) = (omega arith, rise-itself ps)

rise-then : (ps qs rs : List Port) → Rise ps qs → Rise qs rs → Rise ps rs
rise-then [] [] [] h k = tt
rise-then [] [] (r ∷ rs) h k = absurd k
rise-then [] (q ∷ qs) rs h k = absurd h
rise-then (p ∷ ps) [] rs h k = absurd h
rise-then (p ∷ ps) (q ∷ qs) [] h k = absurd k
rise-then (p ∷ ps) (q ∷ qs) (r ∷ rs) h k = let a = h.0 in let b = k.0 in (omega (arith, a, b), rise-then ps qs rs h.1 k.1)

rise-map : (f : Port → Port) (ps : List Port) → ((p : Port) → (f p).inlet.held ≡ p.inlet.held) → Rise ps (map f ps)
rise-map f [] h = tt
rise-map f (p ∷ ps) h = let same = ap (λ (r : Reader). r.bound) (h p) in (omega (arith, same), rise-map f ps h)

rise-changed : (k : ℕ) (f : Port → Port) (ps : List Port) → ((p : Port) → slice_get ps k ≡ Some p → p.inlet.held.bound ≤ (f p).inlet.held.bound) → Rise ps (changed k f ps)
rise-changed k f [] h = tt
rise-changed zero f (p ∷ ps) h = (h p refl, rise-itself ps)
rise-changed (suc k) f (p ∷ ps) h = (omega arith, rise-changed k f ps h)

-- ---- the first bucket that is not complete

div-rises : (w a b : ℕ) → a ≤ b → a / w ≤ b / w
div-rises zero a b h = let one = div-zero a in omega (arith, one)
div-rises (suc w) a b h =
    let some : 0 < suc w = omega arith in
    let low = div-mul-le_self a (suc w) in
    (le-div_iff_mul-le {k = suc w} {x = a / suc w} {y = b} some).1 (omega (arith, low, h))

least-rises : (w : ℕ) (ps qs : List Port) → Rise ps qs → least 0 (map (λ (r : Reader). r.bound / w) (map held_at ps)) ≤ least 0 (map (λ (r : Reader). r.bound / w) (map held_at qs))
least-rises w [] [] h = omega arith
least-rises w [] (q ∷ qs) h = absurd h
least-rises w (p ∷ ps) [] h = absurd h
least-rises w (p ∷ []) (q ∷ []) h = div-rises w p.inlet.held.bound q.inlet.held.bound h.0
least-rises w (p ∷ []) (q ∷ r ∷ qs) h = absurd h.1
least-rises w (p ∷ o ∷ ps) (q ∷ []) h = absurd h.1
least-rises w (p ∷ o ∷ ps) (q ∷ r ∷ qs) h =
    let here = div-rises w p.inlet.held.bound q.inlet.held.bound h.0 in
    let rest = least-rises w (o ∷ ps) (r ∷ qs) h.1 in
    omega (arith, here, rest)

-- ---- how far a node has its buckets

abbrev pub reach : Home → PlainNode → ℕ
reach home n = n.cursor + ready home n

-- the ports went on, and no bucket was closed where none was
pub record IsRisen (n m : PlainNode) : Type 0 where
  pub cursor : m.cursor ≡ n.cursor
  pub also : m.recovering ≡ n.recovering
  pub ports : Rise n.ports m.ports
  pub opens : is_nil n.closed ≡ true → is_nil m.closed ≡ true

risen-itself : (n : PlainNode) → IsRisen n n
risen-itself n = record { cursor = refl; also = refl; ports = rise-itself n.ports; opens = λ h. h }

risen-then : (n m o : PlainNode) → IsRisen n m → IsRisen m o → IsRisen n o
risen-then n m o a b = record { cursor = b.cursor ∙ a.cursor; also = b.also ∙ a.also; ports = rise-then n.ports m.ports o.ports a.ports b.ports; opens = λ h. b.opens (a.opens h) }

risen-reach : (home : Home) (n m : PlainNode) → IsRisen n m → reach home n ≤ reach home m
unfolding ready
risen-reach home n m h = rw (h.cursor, h.also) (by-recovering n.recovering)
  where
    more : complete_upto home n ≤ complete_upto home m
    more = least-rises home.plan.width n.ports m.ports h.ports

    by-closed : (b : Bool) → is_nil n.closed ≡ b → n.cursor + cond b (complete_upto home n - n.cursor) 0 ≤ n.cursor + cond (is_nil m.closed) (complete_upto home m - n.cursor) 0
    by-closed true e = rw (h.opens e) (let up = more in omega (arith, up))
    by-closed false e = omega arith

    by-recovering : (b : Bool) → n.cursor + cond b 0 (cond (is_nil n.closed) (complete_upto home n - n.cursor) 0) ≤ n.cursor + cond b 0 (cond (is_nil m.closed) (complete_upto home m - n.cursor) 0)
    by-recovering true = omega arith
    by-recovering false = by-closed (is_nil n.closed) refl

-- from n to m: the buckets done and ready go on, unless m recovers
abbrev pub GoesOn : Home → PlainNode → PlainNode → Type 0
GoesOn home n m = m.recovering ≡ false → reach home n ≤ reach home m

pub risen-on : (home : Home) (n m : PlainNode) → IsRisen n m → GoesOn home n m
risen-on home n m h e = risen-reach home n m h

-- one that recovers has nothing to lose
anew-on : (home : Home) (n m : PlainNode) → IsZeroed n → n.recovering ≡ true → GoesOn home n m
unfolding ready
anew-on home n m z e f =
    let none = z e in
    let also : ready home n ≡ 0 = rw e refl in
    omega (arith, none, also)

lost-on : (home : Home) (n m : PlainNode) → m.recovering ≡ true → GoesOn home n m
lost-on home n m e f = absurd (true-not-false (sym e ∙ f))

-- ---- a packet

-- nothing but other fields changed
abbrev plainly : (n m : PlainNode) → m.cursor ≡ n.cursor → m.recovering ≡ n.recovering → m.ports ≡ n.ports → m.closed ≡ n.closed → IsRisen n m
plainly n m a b c d = record { cursor = a; also = b; ports = subst (λ (ps : List Port). Rise n.ports ps) (sym c) (rise-itself n.ports); opens = λ h. ap (λ (bs : List (List Tagged)). is_nil bs) d ∙ h }

batch-risen : (home : Home) (s : Sess) (index : ℕ) (items : List Item) (o : Option (ℕ × ℕ)) (n : PlainNode) → IsRisen n (on_batch home s index items o n)
batch-risen home s index items None n = risen-itself n
batch-risen home s index items (Some (p, r)) n =
    elim ((nth no_port n.ports p).chosen == r) as (λ b. IsRisen n (cond b (after_taking home p (take_batch (nth no_port n.ports p).inlet s index items) n) n)) [
      | true ↦ took (take_batch (nth no_port n.ports p).inlet s index items) (take_batch-bound (nth no_port n.ports p).inlet s index items)
      | false ↦ risen-itself n
    ]
  where
    stamped : (t : Taken) (m : PlainNode) → IsRisen n m → IsRisen n (with_stamps_of home t m)
    stamped (Used taken) m h = record { cursor = h.cursor; also = h.also; ports = h.ports; opens = h.opens }
    stamped Old m h = h
    stamped Broken m h = h

    took : (t : AfterBatch) → (nth no_port n.ports p).inlet.held.bound ≤ t.after.held.bound → IsRisen n (after_taking home p t n)
    took t more =
        stamped t.answer (with_port p (λ q. record q { inlet = t.after }) n) (record {
          cursor = refl;
          also = refl;
          ports = rise-changed p (λ q. record q { inlet = t.after }) n.ports (λ q e. subst (λ (x : Port). x.inlet.held.bound ≤ t.after.held.bound) (ap (λ (o : Option Port). unwrap_or o no_port) e) more);
          opens = λ h. h;
        })

subscribe-risen : (home : Home) (asked : Subscribe) (o : Option ℕ) (n : PlainNode) → IsRisen n (on_subscribe home asked o n).after
subscribe-risen home asked None n = risen-itself n
subscribe-risen home asked (Some k) n = plainly n _ refl refl refl refl

again-lost : (home : Home) (n m : PlainNode) → GoesOn home n (after_loss home m)
unfolding after_loss
again-lost home n m = lost-on home n (after_loss home m) refl

truncation-on : (home : Home) (s : Sess) (base : ℕ) (o : Option (ℕ × ℕ)) (n : PlainNode) → GoesOn home n (on_truncation home s base o n)
truncation-on home s base None n = risen-on home n n (risen-itself n)
truncation-on home s base (Some (p, r)) n =
    let old = nth no_port n.ports p in
    let port = on_truncated r s base old in
    let m = with_port p (λ _. port) n in
    elim (same_sess s old.inlet.sess && all_truncated port) as (λ b. GoesOn home n (cond b (after_loss home m) m)) [
      | true ↦ again-lost home n m
      | false ↦ risen-on home n m (record {
        cursor = refl;
        also = refl;
        ports = rise-changed p (λ _. port) n.ports (λ q e. let same = ap (λ (o : Option Port). unwrap_or o no_port) e in let bounds = ap (λ (x : Port). x.inlet.held.bound) same in omega (arith, bounds));
        opens = λ h. h;
      })
    ]

beat-held : (r : ℕ) (b : Beat) (p : Port) → (on_beat r b p).inlet.held ≡ p.inlet.held
beat-held r b p = elim (r == p.chosen) as (λ c. (cond c (after_tally p.inlet b.tally) p.inlet).held ≡ p.inlet.held) [
  | true ↦ refl
  | false ↦ refl
]

upstream-risen : (b : Beat) (o : Option (ℕ × ℕ)) (n : PlainNode) → IsRisen n (on_upstream_beat b o n)
upstream-risen b None n = risen-itself n
upstream-risen b (Some (p, r)) n =
    record {
      cursor = refl;
      also = refl;
      ports = rise-changed p (on_beat r b) n.ports (λ q e. let same = ap (λ (x : Reader). x.bound) (beat-held r b q) in omega (arith, same));
      opens = λ h. h;
    }

peer-risen : (b : Beat) (o : Option ℕ) (n : PlainNode) → IsRisen n (on_peer_beat b o n)
peer-risen b None n = risen-itself n
peer-risen b (Some r) n = plainly n _ refl refl refl refl

ack-risen : (home : Home) (i count : ℕ) (o : Option ℕ) (n : PlainNode) → IsRisen n (on_ack home i count o n)
ack-risen home i count None n = risen-itself n
ack-risen home i count (Some k) n = plainly n _ refl refl refl refl

ask-risen : (home : Home) (i ask : ℕ) (o : Option ℕ) (n : PlainNode) → IsRisen n (on_ask home i ask o n).after
ask-risen home i ask None n = risen-itself n
ask-risen home i ask (Some r) n =
    elim (grants n.grants n.state r (i, ask)) as (λ b. IsRisen n (Stepped.after (cond b (record { after = record n { grants = with_promise n.grants r (i, ask) }; sends = mail (nth 0 (replicas_of home.plan home.frag) r) (message.Grant i ask) ∷ [] }) (idle_step n)))) [
      | true ↦ plainly n _ refl refl refl refl
      | false ↦ risen-itself n
    ]

entered-risen : (home : Home) (n : PlainNode) → IsRisen n (enter_step home n).after
unfolding enter_step
entered-risen home n = record { cursor = refl; also = refl; ports = rise-itself n.ports; opens = λ h. refl }

grant-risen : (home : Home) (i ask : ℕ) (n : PlainNode) → IsRisen n (on_grant home i ask n).after
grant-risen home i ask n =
    elim (is_up_failure n.state && may_enter_by n.grants (i, ask)) as (λ b. IsRisen n (Stepped.after (cond b (enter_step home n) (idle_step n)))) [
      | true ↦ entered-risen home n
      | false ↦ risen-itself n
    ]

message-on : (home : Home) (a : ℕ) (m : Message) (n : PlainNode) → GoesOn home n (on_message home a m n).after
message-on home a (message.Batch s index items) n = risen-on home n _ (batch-risen home s index items (sender_at home.plan (streams_of home) a) n)
message-on home a (message.Subscribe asked) n =
    risen-on home n _ (elim (n.recovering) as (λ b. IsRisen n (Stepped.after (cond b (idle_step n) (on_subscribe home asked (reader_place home a) n)))) [
      | true ↦ risen-itself n
      | false ↦ subscribe-risen home asked (reader_place home a) n
    ])
message-on home a (message.Truncated s base) n = truncation-on home s base (sender_at home.plan (streams_of home) a) n
message-on home a (message.Beat b) n =
    let m = on_upstream_beat b (sender_at home.plan (streams_of home) a) n in
    risen-on home n _ (risen-then n m (on_peer_beat b (replica_number home a) m) (upstream-risen b (sender_at home.plan (streams_of home) a) n) (peer-risen b (replica_number home a) m))
message-on home a (message.Ack i count) n =
    risen-on home n _ (elim (n.recovering) as (λ b. IsRisen n (cond b n (on_ack home i count (reader_place home a) n))) [
      | true ↦ risen-itself n
      | false ↦ ack-risen home i count (reader_place home a) n
    ])
message-on home a (message.Ask i ask) n = risen-on home n _ (ask-risen home i ask (replica_number home a) n)
message-on home a (message.Grant i ask) n = risen-on home n _ (grant-risen home i ask n)
message-on home a (message.SnapAsk i try) n =
    risen-on home n _ (elim (n.recovering) as (λ b. IsRisen n (Stepped.after (cond b (idle_step n) (on_snap_ask home a i try n)))) [
      | true ↦ risen-itself n
      | false ↦ risen-itself n
    ])

snap-on : (home : Home) (i try : ℕ) (s : Snap) (n : PlainNode) → IsZeroed n → GoesOn home n (on_snap home i try s n)
snap-on home i try s n z =
    (elim (n.recovering && i == n.grants.inc && try == n.tries) as (λ b. (n.recovering && i == n.grants.inc && try == n.tries) ≡ b → GoesOn home n (cond b (after_adoption home s n) n)) [
      | true ↦ λ e. anew-on home n (after_adoption home s n) z (both n.recovering (i == n.grants.inc) (both (n.recovering && i == n.grants.inc) (try == n.tries) e).0).0
      | false ↦ λ e. risen-on home n n (risen-itself n)
    ]) refl

packet-on : (home : Home) (a : ℕ) (p : Packet) (n : PlainNode) → IsZeroed n → GoesOn home n (on_packet home a p n).after
packet-on home a (Plain m) n z = message-on home a m n
packet-on home a (SnapFor i try s) n z = snap-on home i try s n z

marks-risen : (n : PlainNode) → IsRisen n (with_marks_ended n)
marks-risen n = record { cursor = refl; also = refl; ports = rise-map without_ended_marks n.ports (λ p. refl); opens = λ h. h }

pub delivered-on : (home : Home) (a : ℕ) (p : Packet) (n : PlainNode) → IsZeroed n → GoesOn home n (packet_step home a p n).after
unfolding packet_step
delivered-on home a p n z e =
    let first = risen-reach home n (with_marks_ended n) (marks-risen n) in
    let then_on = packet-on home a p (with_marks_ended n) z e in
    omega (arith, first, then_on)

-- ---- a tick

clock-risen : (now : ℕ) (n : PlainNode) → IsRisen n (after_clock now n)
clock-risen now n = record { cursor = refl; also = refl; ports = rise-map port_after_tick n.ports (λ p. refl); opens = λ h. h }

choice-held : (p : Port) → (port_after_choice p).inlet.held ≡ p.inlet.held
choice-held p = elim (must_reopen p) as (λ b. (cond b (with_next_session p.inlet) p.inlet).held ≡ p.inlet.held) [
  | true ↦ refl
  | false ↦ refl
]

choice-risen : (home : Home) (n : PlainNode) → IsRisen n (choice_step home n).after
choice-risen home n = record { cursor = refl; also = refl; ports = rise-map port_after_choice n.ports choice-held; opens = λ h. h }

asks-risen : (home : Home) (n : PlainNode) → IsRisen n (ask_step home n).after
asks-risen home n =
    by-asking home n (λ s. IsRisen n s.after) (entered-risen home n) (plainly n _ refl refl refl refl) (risen-itself n)

-- the complete buckets are processed before any is closed
past-complete : (cursor upto r count : ℕ) (c : Bool) → r ≡ min count (upto - cursor) → (count - r ≡ 0 → c ≡ true) → cursor + (upto - cursor) ≤ cursor + r + cond c (upto - (cursor + r)) 0
past-complete cursor upto r count true e h = omega (arith, e)
past-complete cursor upto r count false e h = by-left (count - r) refl
  where
    by-left : (k : ℕ) → count - r ≡ k → cursor + (upto - cursor) ≤ cursor + r + 0
    by-left zero g = absurd (true-not-false (sym (h g)))
    by-left (suc k) g = omega (arith, e, g)

nil-behind : {X : Type 0} (xs ys : List X) → is_nil xs ≡ true → is_nil (xs ++ ys) ≡ is_nil ys
nil-behind [] ys h = refl
nil-behind (x ∷ xs) ys h = absurd (true-not-false (sym h))

none-made : {X : Type 0} (f : ℕ → X) (a k : ℕ) → k ≡ 0 → is_nil (map f (range_with_len a k)) ≡ true
none-made f a k e = rw e refl

processed-reach : (home : Home) (last : ℕ) (n : PlainNode) → reach home n ≤ reach home (processing_upto home last n).after
unfolding ready
processed-reach home last n = by-recovering n.recovering (is_nil closes) closed
  where
    count : ℕ
    count = count_upto last n

    r : ℕ
    r = stably home n count

    upto : ℕ
    upto = complete_upto home n

    m : PlainNode
    m = after_stable_buckets home r n

    closes : List (List Tagged)
    closes = n.closed ++ map (bucket_of home m) (range_with_len (node_frontier m) (count - r))

    closed : is_nil n.closed ≡ true → count - r ≡ 0 → is_nil closes ≡ true
    closed e none = nil-behind n.closed (map (bucket_of home m) (range_with_len (node_frontier m) (count - r))) e ∙ none-made (bucket_of home m) (node_frontier m) (count - r) none

    by-closed : (b c : Bool) → is_nil n.closed ≡ b → (is_nil n.closed ≡ true → count - r ≡ 0 → c ≡ true) → n.cursor + cond b (upto - n.cursor) 0 ≤ n.cursor + r + cond c (upto - (n.cursor + r)) 0
    by-closed true c e h =
        let many : r ≡ min count (upto - n.cursor) = ap (λ (b : Bool). min count (cond b (upto - n.cursor) 0)) e in
        past-complete n.cursor upto r count c many (h e)
    by-closed false c e h = omega arith

    by-recovering : (b c : Bool) → (is_nil n.closed ≡ true → count - r ≡ 0 → c ≡ true) →
        n.cursor + cond b 0 (cond (is_nil n.closed) (upto - n.cursor) 0) ≤ n.cursor + r + cond b 0 (cond c (upto - (n.cursor + r)) 0)
    by-recovering true c h = omega arith
    by-recovering false c h = by-closed (is_nil n.closed) c refl h

processing-reach : (home : Home) (n : PlainNode) → reach home n ≤ reach home (processing_step home n).after
processing-reach home n =
    by-processing home n (λ s. reach home n ≤ reach home s.after) (omega arith) (λ last e due. processed-reach home last n)

serving-reach : (home : Home) (n : PlainNode) → reach home n ≤ reach home (serving_step home n).after
serving-reach home n =
    let m = (choice_step home n).after in
    let chosen = risen-reach home n m (choice-risen home n) in
    let asked = risen-reach home m (ask_step home m).after (asks-risen home m) in
    let processed = processing-reach home (ask_step home m).after in
    omega (arith, chosen, asked, processed)

going-on : (home : Home) (n : PlainNode) → IsZeroed n → GoesOn home n (rest_of_tick home n).after
going-on home n z =
    (elim (n.recovering) as (λ b. n.recovering ≡ b → GoesOn home n (Stepped.after (cond (not b) (serving_step home n) (cond (may_start_afresh home n) (serving_step home (with_fresh_start n)) (then_do (snapshot_ask_step home n) (announcing_step home)))))) [
      | false ↦ λ e f. serving-reach home n
      | true ↦ λ e. anew-on home n _ z e
    ]) refl

pub ticked-on : (home : Home) (now : ℕ) (n : PlainNode) → IsZeroed n → GoesOn home n (tick_step home now n).after
unfolding tick_step
ticked-on home now n z e =
    let marked = risen-reach home n (with_marks_ended n) (marks-risen n) in
    let clocked = risen-reach home (with_marks_ended n) (after_clock now (with_marks_ended n)) (clock-risen now (with_marks_ended n)) in
    let rest = going-on home (after_clock now (with_marks_ended n)) z e in
    omega (arith, marked, clocked, rest)
