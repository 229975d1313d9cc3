-- What a node's steps make of its cursor, and of whether it recovers.
use Rattle.std.proofs.Common.{◌≡◌, ℕ, ◌+◌, ◌≤◌, true, false, not, cond, ◌&&◌, ◌==◌, List, [], ◌∷◌, refl, sym, ◌∙◌, arith, Option, Some, None}
use Rattle.dpc_lists.specs.Lists.{nth}
use Rattle.dpc_model.specs.Inlets.{same_sess, AfterBatch, take_batch}
use Rattle.dpc_model.specs.Granting.{grants, with_promise, may_enter_by}
use Rattle.dpc_model.specs.Actors.{replicas_of}
use Rattle.dpc_model.specs.Ports.{no_port, sender_at, on_truncated, all_truncated}
use Rattle.dpc_model.specs.declared.tuples.Item.{Item}
use Rattle.dpc_model.specs.declared.batches.Taken.{Taken}
use Rattle.dpc_model.specs.declared.batches.Taken.TheVariants.{Used, Old, Broken}
use Rattle.dpc_model.specs.declared.messages.Sess.{Sess}
use Rattle.dpc_model.specs.declared.messages.Subscribe.{Subscribe}
use Rattle.dpc_model.specs.declared.messages.Beat.{Beat}
use Rattle.dpc_model.specs.declared.messages.Message.{Message}
use Rattle.dpc_model.specs.declared.messages.Message.TheVariants as message
use Rattle.node_model.specs.Mails.{Snap, Packet, Plain, SnapFor, mail, Stepped}
use Rattle.dpc_model.specs.NodeStates.{is_up_failure}
use Rattle.node_model.specs.Nodes.{Home, streams_of, PlainNode}
use Rattle.node_model.specs.NodeSteps.{idle_step, then_do, on_snap_ask, snapshot_ask_step, announcing_step, enter_step, after_loss, after_adoption, with_fresh_start, with_stamps_of, after_taking, on_batch, on_subscribe, with_port, on_truncation, on_upstream_beat, on_peer_beat, on_ack, on_ask, on_grant, on_message, on_snap, on_packet, with_marks_ended, packet_step, replica_number, reader_place, mill_step, after_clock, may_start_afresh, choice_step, ask_step, processing_upto, processing_step, serving_step, rest_of_tick, tick_step}
use Rattle.dpc_lists.proofs.Truths.{both, true-not-false}
use Rattle.law_safety.proofs.StepCases.{by-asking, by-processing}

-- a node that recovers has no bucket done
abbrev pub IsZeroed : PlainNode → Type 0
IsZeroed n = n.recovering ≡ true → n.cursor ≡ 0

-- from n to m: no bucket is undone, unless m recovers
pub record IsCalmNode (n m : PlainNode) : Type 0 where
  pub zeroed : IsZeroed n → IsZeroed m
  pub cursor : IsZeroed n → m.recovering ≡ false → n.cursor ≤ m.cursor

-- the cursor, the clock and whether it recovers stay
pub record IsStill (n m : PlainNode) : Type 0 where
  pub same : m.cursor ≡ n.cursor
  pub also : m.recovering ≡ n.recovering
  pub clock : m.clock ≡ n.clock

-- no bucket is undone
record IsOnward (n m : PlainNode) : Type 0 where
  grown : n.cursor ≤ m.cursor
  also : m.recovering ≡ n.recovering
  clock : m.clock ≡ n.clock

pub still-calm : (n m : PlainNode) → IsStill n m → IsCalmNode n m
still-calm n m s =
    let same = s.same in record { zeroed = λ z e. s.same ∙ z (sym s.also ∙ e); cursor = λ z e. omega (arith, same) }

lost-calm : (n m : PlainNode) → m.recovering ≡ true → m.cursor ≡ 0 → IsCalmNode n m
lost-calm n m e f = record { zeroed = λ z g. f; cursor = λ z g. absurd (true-not-false (sym e ∙ g)) }

anew-calm : (n m : PlainNode) → n.recovering ≡ true → m.recovering ≡ false → IsCalmNode n m
anew-calm n m e f = record { zeroed = λ z g. absurd (true-not-false (sym g ∙ f)); cursor = λ z g. let none = z e in omega (arith, none) }

pub onward-calm : (n m : PlainNode) → m.recovering ≡ false → n.cursor ≤ m.cursor → IsCalmNode n m
onward-calm n m f h = record { zeroed = λ z g. absurd (true-not-false (sym g ∙ f)); cursor = λ z g. h }

pub itself : (n : PlainNode) → IsStill n n
itself n = record { same = refl; also = refl; clock = refl }

-- ---- a packet

batch-still : (home : Home) (s : Sess) (index : ℕ) (items : List Item) (o : Option (ℕ × ℕ)) (n : PlainNode) → IsStill n (on_batch home s index items o n)
batch-still home s index items None n = itself n
batch-still home s index items (Some (p, r)) n =
    elim ((nth no_port n.ports p).chosen == r) as (λ b. IsStill n (cond b (after_taking home p (take_batch (nth no_port n.ports p).inlet s index items) n) n)) [
      | true ↦ took-still (take_batch (nth no_port n.ports p).inlet s index items)
      | false ↦ itself n
    ]
  where
    stamped-still : (t : Taken) (m : PlainNode) → m.cursor ≡ n.cursor → m.recovering ≡ n.recovering → m.clock ≡ n.clock → IsStill n (with_stamps_of home t m)
    stamped-still (Used items) m e f g = record { same = e; also = f; clock = g }
    stamped-still Old m e f g = record { same = e; also = f; clock = g }
    stamped-still Broken m e f g = record { same = e; also = f; clock = g }

    took-still : (t : AfterBatch) → IsStill n (after_taking home p t n)
    took-still t = stamped-still t.answer (with_port p (λ q. record q { inlet = t.after }) n) refl refl refl

subscribe-still : (home : Home) (asked : Subscribe) (o : Option ℕ) (n : PlainNode) → IsStill n (on_subscribe home asked o n).after
subscribe-still home asked None n = itself n
subscribe-still home asked (Some k) n = record { same = refl; also = refl; clock = refl }

again-lost : (home : Home) (n m : PlainNode) → IsCalmNode n (after_loss home m)
unfolding after_loss
again-lost home n m = lost-calm n (after_loss home m) refl refl

truncation-calm : (home : Home) (s : Sess) (base : ℕ) (o : Option (ℕ × ℕ)) (n : PlainNode) → IsCalmNode n (on_truncation home s base o n)
truncation-calm home s base None n = still-calm n n (itself n)
truncation-calm home s base (Some (p, r)) n =
    let old = nth no_port n.ports p in
    let port = on_truncated r s base old in
    let m = with_port p (λ _. port) n in
    elim (same_sess s old.inlet.sess && all_truncated port) as (λ b. IsCalmNode n (cond b (after_loss home m) m)) [
      | true ↦ again-lost home n m
      | false ↦ still-calm n m (record { same = refl; also = refl; clock = refl })
    ]

beat-still : (b : Beat) (o : Option (ℕ × ℕ)) (q : Option ℕ) (n : PlainNode) → IsStill n (on_peer_beat b q (on_upstream_beat b o n))
beat-still b None None n = record { same = refl; also = refl; clock = refl }
beat-still b None (Some r) n = record { same = refl; also = refl; clock = refl }
beat-still b (Some o) None n = record { same = refl; also = refl; clock = refl }
beat-still b (Some o) (Some r) n = record { same = refl; also = refl; clock = refl }

ack-still : (home : Home) (i count : ℕ) (o : Option ℕ) (n : PlainNode) → IsStill n (on_ack home i count o n)
ack-still home i count None n = itself n
ack-still home i count (Some k) n = record { same = refl; also = refl; clock = refl }

ask-still : (home : Home) (i ask : ℕ) (o : Option ℕ) (n : PlainNode) → IsStill n (on_ask home i ask o n).after
ask-still home i ask None n = itself n
ask-still home i ask (Some r) n =
    elim (grants n.grants n.state r (i, ask)) as (λ b. IsStill n (Stepped.after (cond b (record { after = record n { grants = with_promise n.grants r (i, ask) }; sends = mail (nth 0 (replicas_of home.plan home.frag) r) (message.Grant i ask) ∷ [] }) (idle_step n)))) [
      | true ↦ record { same = refl; also = refl; clock = refl }
      | false ↦ itself n
    ]

entered-still : (home : Home) (n : PlainNode) → IsStill n (enter_step home n).after
unfolding enter_step
entered-still home n = record { same = refl; also = refl; clock = refl }

grant-still : (home : Home) (i ask : ℕ) (n : PlainNode) → IsStill n (on_grant home i ask n).after
grant-still home i ask n =
    elim (is_up_failure n.state && may_enter_by n.grants (i, ask)) as (λ b. IsStill n (Stepped.after (cond b (enter_step home n) (idle_step n)))) [
      | true ↦ entered-still home n
      | false ↦ itself n
    ]

message-calm : (home : Home) (a : ℕ) (m : Message) (n : PlainNode) → IsCalmNode n (on_message home a m n).after
message-calm home a (message.Batch s index items) n = still-calm n _ (batch-still home s index items (sender_at home.plan (streams_of home) a) n)
message-calm home a (message.Subscribe asked) n =
    elim (n.recovering) as (λ b. IsCalmNode n (Stepped.after (cond b (idle_step n) (on_subscribe home asked (reader_place home a) n)))) [
      | true ↦ still-calm n n (itself n)
      | false ↦ still-calm n _ (subscribe-still home asked (reader_place home a) n)
    ]
message-calm home a (message.Truncated s base) n = truncation-calm home s base (sender_at home.plan (streams_of home) a) n
message-calm home a (message.Beat b) n = still-calm n _ (beat-still b (sender_at home.plan (streams_of home) a) (replica_number home a) n)
message-calm home a (message.Ack i count) n =
    elim (n.recovering) as (λ b. IsCalmNode n (cond b n (on_ack home i count (reader_place home a) n))) [
      | true ↦ still-calm n n (itself n)
      | false ↦ still-calm n _ (ack-still home i count (reader_place home a) n)
    ]
message-calm home a (message.Ask i ask) n = still-calm n _ (ask-still home i ask (replica_number home a) n)
message-calm home a (message.Grant i ask) n = still-calm n _ (grant-still home i ask n)
message-calm home a (message.SnapAsk i try) n =
    elim (n.recovering) as (λ b. IsCalmNode n (Stepped.after (cond b (idle_step n) (on_snap_ask home a i try n)))) [
      | true ↦ still-calm n n (itself n)
      | false ↦ still-calm n n (itself n)
    ]

adopted-up : (home : Home) (s : Snap) (n : PlainNode) → (after_adoption home s n).recovering ≡ false
unfolding after_adoption
adopted-up home s n = refl

snap-calm : (home : Home) (i try : ℕ) (s : Snap) (n : PlainNode) → IsCalmNode n (on_snap home i try s n)
snap-calm home i try s n =
    (elim (n.recovering && i == n.grants.inc && try == n.tries) as (λ b. (n.recovering && i == n.grants.inc && try == n.tries) ≡ b → IsCalmNode n (cond b (after_adoption home s n) n)) [
      | true ↦ λ e. anew-calm n (after_adoption home s n) (both _ (i == n.grants.inc) (both (n.recovering && i == n.grants.inc) (try == n.tries) e).0).0 (adopted-up home s n)
      | false ↦ λ e. still-calm n n (itself n)
    ]) refl

packet-calm : (home : Home) (a : ℕ) (p : Packet) (n : PlainNode) → IsCalmNode n (on_packet home a p n).after
packet-calm home a (Plain m) n = message-calm home a m n
packet-calm home a (SnapFor i try s) n = snap-calm home i try s n

pub delivered-calm : (home : Home) (a : ℕ) (p : Packet) (n : PlainNode) → IsCalmNode n (packet_step home a p n).after
unfolding packet_step
delivered-calm home a p n = let c = packet-calm home a p (with_marks_ended n) in record { zeroed = c.zeroed; cursor = c.cursor }

-- ---- a tick

reconciling-still : (home : Home) (n : PlainNode) → IsStill n (ask_step home n).after
reconciling-still home n =
    by-asking home n (λ s. IsStill n s.after) (entered-still home n) (record { same = refl; also = refl; clock = refl }) (itself n)

processed-onward : (home : Home) (last : ℕ) (n : PlainNode) → IsOnward n (processing_upto home last n).after
processed-onward home last n = record { grown = omega arith; also = refl; clock = refl }

processing-onward : (home : Home) (n : PlainNode) → IsOnward n (processing_step home n).after
processing-onward home n =
    by-processing home n (λ s. IsOnward n s.after) (record { grown = omega arith; also = refl; clock = refl }) (λ last e due. processed-onward home last n)

serving-onward : (home : Home) (n : PlainNode) → IsOnward n (serving_step home n).after
serving-onward home n =
    let m = (choice_step home n).after in
    let r = reconciling-still home m in
    let p = processing-onward home (ask_step home m).after in
    let same = r.same in
    let grown = p.grown in
    record { grown = omega (arith, same, grown); also = p.also ∙ r.also; clock = p.clock ∙ r.clock }

going-calm : (home : Home) (n : PlainNode) → IsCalmNode n (rest_of_tick home n).after
going-calm home n =
    (elim (n.recovering) as (λ b. n.recovering ≡ b → IsCalmNode n (Stepped.after (cond (not b) (serving_step home n) (cond (may_start_afresh home n) (serving_step home (with_fresh_start n)) (then_do (snapshot_ask_step home n) (announcing_step home)))))) [
      | false ↦ λ e. let s = serving-onward home n in onward-calm n (serving_step home n).after (s.also ∙ e) s.grown
      | true ↦ λ e. elim (may_start_afresh home n) as (λ c. IsCalmNode n (Stepped.after (cond c (serving_step home (with_fresh_start n)) (then_do (snapshot_ask_step home n) (announcing_step home))))) [
        | true ↦ let s = serving-onward home (with_fresh_start n) in anew-calm n (serving_step home (with_fresh_start n)).after e s.also
        | false ↦ still-calm n _ (record { same = refl; also = refl; clock = refl })
      ]
    ]) refl

pub ticked-calm : (home : Home) (now : ℕ) (n : PlainNode) → IsCalmNode n (tick_step home now n).after
unfolding tick_step
ticked-calm home now n = let c = going-calm home (after_clock now (with_marks_ended n)) in record { zeroed = c.zeroed; cursor = c.cursor }

-- ---- milling

pub record IsMilled (r : ℕ) (n m : PlainNode) : Type 0 where
  pub moved : m.cursor ≡ n.cursor + r
  pub also : m.recovering ≡ n.recovering
  pub clock : m.clock ≡ n.clock
  pub closed : m.closed ≡ n.closed
  pub ports : m.ports ≡ n.ports

pub milled-moves : (home : Home) (r : ℕ) (n : PlainNode) → IsMilled r n (mill_step home r n).after
unfolding mill_step
milled-moves home r n = record { moved = refl; also = refl; clock = refl; closed = refl; ports = refl }

-- ---- the clock

again-clock : (home : Home) (m : PlainNode) → (after_loss home m).clock ≡ m.clock
unfolding after_loss
again-clock home m = refl

adopted-clock : (home : Home) (s : Snap) (n : PlainNode) → (after_adoption home s n).clock ≡ n.clock
unfolding after_adoption
adopted-clock home s n = refl

truncation-clock : (home : Home) (s : Sess) (base : ℕ) (o : Option (ℕ × ℕ)) (n : PlainNode) → (on_truncation home s base o n).clock ≡ n.clock
truncation-clock home s base None n = refl
truncation-clock home s base (Some (p, r)) n =
    let old = nth no_port n.ports p in
    let port = on_truncated r s base old in
    let m = with_port p (λ _. port) n in
    elim (same_sess s old.inlet.sess && all_truncated port) as (λ b. PlainNode.clock (cond b (after_loss home m) m) ≡ n.clock) [
      | true ↦ again-clock home m
      | false ↦ refl
    ]

message-clock : (home : Home) (a : ℕ) (m : Message) (n : PlainNode) → (on_message home a m n).after.clock ≡ n.clock
message-clock home a (message.Batch s index items) n = (batch-still home s index items (sender_at home.plan (streams_of home) a) n).clock
message-clock home a (message.Subscribe asked) n =
    elim (n.recovering) as (λ b. PlainNode.clock (Stepped.after (cond b (idle_step n) (on_subscribe home asked (reader_place home a) n))) ≡ n.clock) [
      | true ↦ refl
      | false ↦ (subscribe-still home asked (reader_place home a) n).clock
    ]
message-clock home a (message.Truncated s base) n = truncation-clock home s base (sender_at home.plan (streams_of home) a) n
message-clock home a (message.Beat b) n = (beat-still b (sender_at home.plan (streams_of home) a) (replica_number home a) n).clock
message-clock home a (message.Ack i count) n =
    elim (n.recovering) as (λ b. PlainNode.clock (cond b n (on_ack home i count (reader_place home a) n)) ≡ n.clock) [
      | true ↦ refl
      | false ↦ (ack-still home i count (reader_place home a) n).clock
    ]
message-clock home a (message.Ask i ask) n = (ask-still home i ask (replica_number home a) n).clock
message-clock home a (message.Grant i ask) n = (grant-still home i ask n).clock
message-clock home a (message.SnapAsk i try) n =
    elim (n.recovering) as (λ b. PlainNode.clock (Stepped.after (cond b (idle_step n) (on_snap_ask home a i try n))) ≡ n.clock) [
      | true ↦ refl
      | false ↦ refl
    ]

packet-clock : (home : Home) (a : ℕ) (p : Packet) (n : PlainNode) → (on_packet home a p n).after.clock ≡ n.clock
packet-clock home a (Plain m) n = message-clock home a m n
packet-clock home a (SnapFor i try s) n = elim (n.recovering && i == n.grants.inc && try == n.tries) as (λ b. PlainNode.clock (cond b (after_adoption home s n) n) ≡ n.clock) [
  | true ↦ adopted-clock home s n
  | false ↦ refl
]

pub delivered-clock : (home : Home) (a : ℕ) (p : Packet) (n : PlainNode) → (packet_step home a p n).after.clock ≡ n.clock
unfolding packet_step
delivered-clock home a p n = packet-clock home a p (with_marks_ended n)

going-clock : (home : Home) (n : PlainNode) → (rest_of_tick home n).after.clock ≡ n.clock
going-clock home n =
    elim (n.recovering) as (λ b. PlainNode.clock (Stepped.after (cond (not b) (serving_step home n) (cond (may_start_afresh home n) (serving_step home (with_fresh_start n)) (then_do (snapshot_ask_step home n) (announcing_step home))))) ≡ n.clock) [
      | false ↦ (serving-onward home n).clock
      | true ↦ elim (may_start_afresh home n) as (λ c. PlainNode.clock (Stepped.after (cond c (serving_step home (with_fresh_start n)) (then_do (snapshot_ask_step home n) (announcing_step home)))) ≡ n.clock) [
        | true ↦ (serving-onward home (with_fresh_start n)).clock
        | false ↦ refl
      ]
    ]

pub ticked-clock : (home : Home) (now : ℕ) (n : PlainNode) → (tick_step home now n).after.clock ≡ now
unfolding tick_step
ticked-clock home now n = going-clock home (after_clock now (with_marks_ended n))
