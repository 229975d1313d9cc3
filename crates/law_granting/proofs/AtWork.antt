-- A node's own order of asking: who asks has a complete first bucket, who reconciles promised nobody, and promises are proper.
use Rattle.std.proofs.Common.{◌≡◌, ℕ, ◌+◌, ◌-◌, ◌*◌, ◌<◌, ◌≤◌, Bool, true, false, cond, not, ◌&&◌, ◌==◌, nat_lt, min, List, [], ◌∷◌, map, length, refl, sym, ap, subst, ◌∙◌, arith, Option, Some, None, slice_get, ◌⊎◌, inl, inr}
use Rattle.std.specs.Prelude.{is_none}
use Rattle.dpc_lists.specs.Lists.{nth, list_all, is_nil}
use Rattle.dpc_model.specs.Inlets.{take_batch, same_sess}
use Rattle.dpc_model.specs.Due.{is_complete}
use Rattle.dpc_model.specs.Replicas.{is_absent}
use Rattle.dpc_model.specs.Granting.{Key, key_le, greater_key, Grants, own_key, grants, with_promise, promise_to, over_by, known_over, later_key, after_peer_beat, promise_after, promise_kept, may_enter_by, with_ask, with_ask_over}
use Rattle.dpc_model.specs.Actors.{role_of, are_peers, replicas_of}
use Rattle.dpc_model.specs.declared.actors.Role.TheVariants.{Node as IsNode}
use Rattle.dpc_model.specs.Ports.{Port, no_port, held_at, sender_at, on_beat, on_truncated, all_truncated, without_ended_marks, port_after_tick, port_after_choice}
use Rattle.dpc_model.specs.declared.batches.Taken.{Taken}
use Rattle.dpc_model.specs.declared.batches.Taken.TheVariants.{Used, Old, Broken}
use Rattle.dpc_model.specs.declared.tuples.Item.{Item}
use Rattle.dpc_model.specs.declared.messages.Sess.{Sess}
use Rattle.dpc_model.specs.declared.messages.Subscribe.{Subscribe}
use Rattle.dpc_model.specs.declared.messages.Beat.{Beat}
use Rattle.dpc_model.specs.declared.messages.NodeState.{NodeState}
use Rattle.dpc_model.specs.declared.messages.NodeState.TheVariants.{Stable, UpFailure, Stabilization}
use Rattle.dpc_model.specs.declared.messages.Message.{Message}
use Rattle.dpc_model.specs.declared.messages.Message.TheVariants as message
use Rattle.dpc_model.specs.Sessions.{given_items}
use Rattle.node_model.specs.Mails.{Snap, Packet, Plain, SnapFor, mail, to_each, Stepped}
use Rattle.dpc_model.specs.NodeStates.{is_stable, is_up_failure, is_stabilization}
use Rattle.node_model.specs.Nodes.{Home, PlainNode, streams_of, held_by, node_frontier, out_stable, complete_upto, complete_buckets, ready, wants_to_reconcile}
use Rattle.node_model.specs.NodeSteps.{idle_step, then_do, peers_of, peer_watches, replica_number, with_port, give, given_stable, enter_step, after_loss, after_adoption, after_taking, with_stamps_of, on_batch, on_subscribe, on_truncation, on_upstream_beat, on_peer_beat, on_ack, on_ask, on_grant, on_snap_ask, on_snap, reader_place, on_message, on_packet, with_marks_ended, packet_step, after_stable_buckets, after_last_correction, mill_step, after_clock, may_start_afresh, choice_step, ask_step, with_closed, with_failure, processing_upto, processing_step, announcing_step, serving_step, snapshot_ask_step, rest_of_tick, with_fresh_start, tick_step}
use Rattle.world_model.specs.Safe.{EachReaches}
use Rattle.world_model.specs.Orderly.{has_state_of_closed, packet_way}
use Rattle.law_safety.proofs.Milling.{reaches_least}
use Rattle.law_safety.specs.Plans.{IsPlace}
use Rattle.dpc_lists.proofs.Truths.{both, lt-of, not-lt, eq-of, eq-test, not-zero, not-second}
use Rattle.dpc_lists.proofs.Places.{place-nth}
use Rattle.dpc_model.proofs.Subs.{nth-there}
use Rattle.dpc_lists.proofs.Somes.{some-same}
use Rattle.law_safety.proofs.Frames.{IsGood, held-map, marks-good, clocked-good}
use Rattle.law_safety.proofs.Emptied.{emptied-of, shape-of}
use Rattle.law_safety.proofs.Starting.{fresh-good}
use Rattle.law_safety.proofs.Happening.{MayMill}
use Rattle.law_safety.proofs.Pointwise.{reaches-changed}
use Rattle.law_safety.proofs.Batches.{take_batch-bound}
use Rattle.law_safety.proofs.Numbering.{replica-at}
use Rattle.law_safety.proofs.Mailing.{IsActor}
use Rattle.law_safety.proofs.Delivered.{held-changed, failure-calm}
use Rattle.law_safety.proofs.Ticked.{chosen-held, choosing-good, reconciling-good, reconciling-recovering}
use Rattle.law_granting.proofs.Keys.{nth-changed, greater-one}
use Rattle.law_granting.proofs.Saying.{IsGranted, granted-of}
use Rattle.law_safety.proofs.ClientHolds.{held_at-beat}
use Rattle.law_safety.proofs.Dues.{complete-reach}
use Rattle.law_safety.proofs.StepCases.{by-processing}

-- ---- what is kept

-- a node that works on corrections, or waits to
pub record IsAtWork (home : Home) (n : PlainNode) : Type 0 where
  pub up : n.recovering ≡ false
  pub unstable : is_stable n.state ≡ false
  pub first : EachReaches ((n.cursor + 1) * home.plan.width) (held_by n)

pub record IsProper (home : Home) (g : Grants) (p : ℕ × Key) : Type 0 where
  pub other : p.0 ≡ home.replica → ⊥
  pub lower : g.running ≡ true → p.0 < home.replica
  pub going_on : known_over g p.0 p.1 ≡ false

pub record IsBusy (n : PlainNode) : Type 0 where
  pub asks : n.grants.running ≡ true
  pub promised : n.grants.promise ≡ None

pub record IsAsking (home : Home) (n : PlainNode) : Type 0 where
  pub runs : n.grants.running ≡ true → IsAtWork home n
  pub busy : n.recovering ≡ false → is_stabilization n.state ≡ true → IsBusy n
  pub promise : (p : ℕ × Key) → n.grants.promise ≡ Some p → IsProper home n.grants p

-- ---- what stays

asking-same : (home : Home) (n m : PlainNode) → m.grants ≡ n.grants → m.recovering ≡ n.recovering → m.state ≡ n.state → m.cursor ≡ n.cursor →
    ((b : ℕ) → EachReaches b (held_by n) → EachReaches b (held_by m)) → IsAsking home n → IsAsking home m
asking-same home n m g r s c grows h =
    record {
      runs = λ e.
          let w = h.runs (sym (ap (λ (x : Grants). x.running) g) ∙ e) in
          record { up = r ∙ w.up; unstable = ap is_stable s ∙ w.unstable; first = grows ((m.cursor + 1) * home.plan.width) (rw c w.first) };
      busy = λ up e.
          let b = h.busy (sym r ∙ up) (sym (ap is_stabilization s) ∙ e) in
          record { asks = ap (λ (x : Grants). x.running) g ∙ b.asks; promised = ap (λ (x : Grants). x.promise) g ∙ b.promised };
      promise = λ p e. subst (λ (x : Grants). IsProper home x p) (sym g) (h.promise p (sym (ap (λ (x : Grants). x.promise) g) ∙ e));
    }

reaches-same : (n m : PlainNode) → held_by m ≡ held_by n → (b : ℕ) → EachReaches b (held_by n) → EachReaches b (held_by m)
reaches-same n m e b h = rw e h

-- nothing is asked
pub idle : (home : Home) (m : PlainNode) → m.grants.running ≡ false → (m.recovering ≡ false → is_stabilization m.state ≡ true → ⊥) → ((p : ℕ × Key) → m.grants.promise ≡ Some p → IsProper home m.grants p) → IsAsking home m
idle home m e calm h = record { runs = λ f. let clash : true ≡ false = sym f ∙ e in cc; busy = λ up f. absurd (calm up f); promise = h }

finished-proper : (home : Home) (g : Grants) → ((p : ℕ × Key) → g.promise ≡ Some p → IsProper home g p) → (p : ℕ × Key) → (with_ask_over g).promise ≡ Some p → IsProper home (with_ask_over g) p
finished-proper home g h p e = let k = h p e in record { other = k.other; lower = λ d. cc; going_on = k.going_on }

-- ---- a packet

took-asking : (home : Home) (p : ℕ) (u : Sess) (index : ℕ) (items : List Item) (n : PlainNode) → IsAsking home n → IsAsking home (after_taking home p (take_batch (nth no_port n.ports p).inlet u index items) n)
took-asking home p u index items n h =
    let t = take_batch (nth no_port n.ports p).inlet u index items in
    by-answer t.answer
    (asking-same home n (with_port p (λ q. record q { inlet = t.after }) n) refl refl refl refl
    (λ b r. reaches-changed b p (λ q. record q { inlet = t.after }) n.ports
    (λ q e. let same = nth-there n.ports p q e in subst (λ (x : Port). (held_at x).bound ≤ t.after.held.bound) same (take_batch-bound (nth no_port n.ports p).inlet u index items)) r) h)
  where
    by-answer : (x : Taken) → IsAsking home (with_port p (λ q. record q { inlet = (take_batch (nth no_port n.ports p).inlet u index items).after }) n) →
        IsAsking home (with_stamps_of home x (with_port p (λ q. record q { inlet = (take_batch (nth no_port n.ports p).inlet u index items).after }) n))
    by-answer (Used taken) k = record { runs = λ e. let w = k.runs e in record { up = w.up; unstable = w.unstable; first = w.first }; busy = λ up e. let b = k.busy up e in record { asks = b.asks; promised = b.promised }; promise = k.promise }
    by-answer Old k = k
    by-answer Broken k = k

batch-asking : (home : Home) (u : Sess) (index : ℕ) (items : List Item) (o : Option (ℕ × ℕ)) (n : PlainNode) → IsAsking home n → IsAsking home (on_batch home u index items o n)
batch-asking home u index items None n h = h
batch-asking home u index items (Some pr) n h =
    let port = nth no_port n.ports pr.0 in
    elim (port.chosen == pr.1) as (λ b. IsAsking home (cond b (after_taking home pr.0 (take_batch port.inlet u index items) n) n)) [
      | true ↦ took-asking home pr.0 u index items n h
      | false ↦ h
    ]

port-asking : (home : Home) (p : ℕ) (f : Port → Port) (n : PlainNode) → ((q : Port) → slice_get n.ports p ≡ Some q → held_at (f q) ≡ held_at q) → IsAsking home n → IsAsking home (with_port p f n)
port-asking home p f n same h = asking-same home n (with_port p f n) refl refl refl refl (reaches-same n (with_port p f n) (held-changed p f n.ports same)) h

again-asking : (home : Home) (n : PlainNode) → IsAsking home n → IsAsking home (after_loss home n)
unfolding after_loss
again-asking home n h = idle home (after_loss home n) refl (λ up e. cc) (finished-proper home n.grants h.promise)

truncation-asking : (home : Home) (u : Sess) (base : ℕ) (o : Option (ℕ × ℕ)) (n : PlainNode) → IsAsking home n → IsAsking home (on_truncation home u base o n)
truncation-asking home u base None n h = h
truncation-asking home u base (Some pr) n h =
    let old = nth no_port n.ports pr.0 in
    let port = on_truncated pr.1 u base old in
    let m = with_port pr.0 (λ _. port) n in
    let k = port-asking home pr.0 (λ _. port) n (λ q e. ap held_at (nth-there n.ports pr.0 q e)) h in
    elim (same_sess u old.inlet.sess && all_truncated port) as (λ b. IsAsking home (cond b (after_loss home m) m)) [
      | true ↦ again-asking home m k
      | false ↦ k
    ]

upstream-asking : (home : Home) (b : Beat) (o : Option (ℕ × ℕ)) (n : PlainNode) → IsAsking home n → IsAsking home (on_upstream_beat b o n)
upstream-asking home b None n h = h
upstream-asking home b (Some pr) n h = port-asking home pr.0 (on_beat pr.1 b) n (λ q e. held_at-beat pr.1 b q) h

-- a promise that is left is not known to be over
told-proper : (home : Home) (g : Grants) (r : ℕ) (k : Key) → ((p : ℕ × Key) → g.promise ≡ Some p → IsProper home g p) → (p : ℕ × Key) → (after_peer_beat g r k).promise ≡ Some p → IsProper home (after_peer_beat g r k) p
told-proper home g r k h p e = by-old g.promise refl e
  where
    still : (x : ℕ × Key) → IsProper home g x → (x.0 == r && key_le x.1 k) ≡ false → IsProper home (after_peer_beat g r k) x
    still x y out = record { other = y.other; lower = y.lower; going_on = by-place (nth-changed None r (later_key k) g.heard x.0) }
      where
        by-place : (nth None (after_peer_beat g r k).heard x.0 ≡ nth None g.heard x.0) ⊎ ((x.0 ≡ r) × (nth None (after_peer_beat g r k).heard x.0 ≡ later_key k (nth None g.heard x.0))) →
            known_over (after_peer_beat g r k) x.0 x.1 ≡ false
        by-place (inl same) = ap (λ (z : Option Key). over_by x.1 z) same ∙ y.going_on
        by-place (inr here) = ap (λ (z : Option Key). over_by x.1 z) here.1 ∙ more (nth None g.heard x.0) y.going_on
          where
            late : key_le x.1 k ≡ false
            late = not-second (x.0 == r) (key_le x.1 k) (eq-test x.0 r here.0) out

            more : (o : Option Key) → over_by x.1 o ≡ false → over_by x.1 (later_key k o) ≡ false
            more None f = late
            more (Some z) f =
                elim (greater-one z k) [
                  | inl old ↦ ap (λ (u : Key). key_le x.1 u) old ∙ f
                  | inr new ↦ ap (λ (u : Key). key_le x.1 u) new ∙ late
                ]

    by-old : (o : Option (ℕ × Key)) → g.promise ≡ o → promise_after o r k ≡ Some p → IsProper home (after_peer_beat g r k) p
    by-old None f d = cc
    by-old (Some x) f d =
        (elim (x.0 == r && key_le x.1 k) as (λ b. (x.0 == r && key_le x.1 k) ≡ b → cond {A = Option (ℕ × Key)} b None (Some x) ≡ Some p → IsProper home (after_peer_beat g r k) p) [
          | true ↦ λ c d'. cc
          | false ↦ λ c d'. let same : x ≡ p = cc in subst (λ (z : ℕ × Key). IsProper home (after_peer_beat g r k) z) same (still x (h x f) c)
        ]) refl d

gone-promise : (home : Home) (g : Grants) (r : ℕ) (k : Key) → g.promise ≡ None → (after_peer_beat g r k).promise ≡ None
gone-promise home g r k e = rw e refl

peer-asking : (home : Home) (b : Beat) (o : Option ℕ) (n : PlainNode) → IsAsking home n → IsAsking home (on_peer_beat b o n)
peer-asking home b None n h = h
peer-asking home b (Some r) n h =
    record {
      runs = λ e. let w = h.runs e in record { up = w.up; unstable = w.unstable; first = w.first };
      busy = λ up e. let k = h.busy up e in record { asks = k.asks; promised = gone-promise home n.grants r (b.inc, b.over) k.promised };
      promise = told-proper home n.grants r (b.inc, b.over) h.promise;
    }

ack-asking : (home : Home) (i count : ℕ) (o : Option ℕ) (n : PlainNode) → IsAsking home n → IsAsking home (on_ack home i count o n)
ack-asking home i count None n h = h
ack-asking home i count (Some k) n h = record { runs = λ e. let w = h.runs e in record { up = w.up; unstable = w.unstable; first = w.first }; busy = λ up e. let b = h.busy up e in record { asks = b.asks; promised = b.promised }; promise = h.promise }

subscribe-asking : (home : Home) (asked : Subscribe) (o : Option ℕ) (n : PlainNode) → IsAsking home n → IsAsking home (on_subscribe home asked o n).after
subscribe-asking home asked None n h = h
subscribe-asking home asked (Some k) n h = record { runs = λ e. let w = h.runs e in record { up = w.up; unstable = w.unstable; first = w.first }; busy = λ up e. let b = h.busy up e in record { asks = b.asks; promised = b.promised }; promise = h.promise }

-- an ask is granted to another replica
ask-asking : (home : Home) (i ask r : ℕ) (n : PlainNode) → n.grants.me ≡ home.replica → (r ≡ home.replica → ⊥) → IsGranted n.grants n.state r (i, ask) → IsAsking home n → IsAsking home (record n { grants = with_promise n.grants r (i, ask) })
ask-asking home i ask r n me other may h =
    record {
      runs = λ e. let w = h.runs e in record { up = w.up; unstable = w.unstable; first = w.first };
      busy = λ up e. absurd (calm-not n.state may.calm e);
      promise = λ p e. by-old n.grants.promise refl p e;
    }
  where
    calm-not : (s : NodeState) → is_stabilization s ≡ false → is_stabilization s ≡ true → ⊥
    calm-not Stable e f = cc
    calm-not UpFailure e f = cc
    calm-not Stabilization e f = cc

    low : n.grants.running ≡ true → r < home.replica
    low e =
        let least_of : nat_lt n.grants.me r ≡ false = not-second n.grants.running (nat_lt n.grants.me r) e may.lower in
        let most = not-lt n.grants.me r least_of in
        apart (lt-or r home.replica)
      where
        lt-or : (x y : ℕ) → (x < y) ⊎ (y ≤ x)
        lt-or x y = (elim (nat_lt x y) as (λ b. nat_lt x y ≡ b → (x < y) ⊎ (y ≤ x)) [ true ↦ λ c. inl (lt-of x y c) | false ↦ λ c. inr (not-lt x y c) ]) refl

        apart : (r < home.replica) ⊎ (home.replica ≤ r) → r < home.replica
        apart (inl less) = less
        apart (inr more) =
            let least_of : nat_lt n.grants.me r ≡ false = not-second n.grants.running (nat_lt n.grants.me r) e may.lower in
            let most = not-lt n.grants.me r least_of in
            let same : r ≡ home.replica = omega (arith, more, most, me) in absurd (other same)

    proper : (key : Key) → known_over n.grants r key ≡ false → IsProper home (with_promise n.grants r (i, ask)) (r, key)
    proper key out = record { other = other; lower = low; going_on = out }

    by-old : (o : Option (ℕ × Key)) → n.grants.promise ≡ o → (p : ℕ × Key) → (with_promise n.grants r (i, ask)).promise ≡ Some p → IsProper home (with_promise n.grants r (i, ask)) p
    by-old None f p e =
        let now : promise_to n.grants r (i, ask) ≡ (r, (i, ask)) = rw f refl in
        subst (λ (z : ℕ × Key). IsProper home (with_promise n.grants r (i, ask)) z) (sym now ∙ some-same (promise_to n.grants r (i, ask)) p e) (proper (i, ask) may.going_on)
    by-old (Some x) f p e =
        let now : promise_to n.grants r (i, ask) ≡ (r, greater_key x.1 (i, ask)) = rw f refl in
        subst (λ (z : ℕ × Key). IsProper home (with_promise n.grants r (i, ask)) z) (sym now ∙ some-same (promise_to n.grants r (i, ask)) p e)
        (proper (greater_key x.1 (i, ask)) (going (greater-one x.1 (i, ask))))
      where
        same-place : x.0 ≡ r
        same-place =
            let d : not (x.0 == r) ≡ false = rw f at may.same in
            (elim (x.0 == r) as (λ b. (x.0 == r) ≡ b → not b ≡ false → x.0 ≡ r) [ true ↦ λ c g. eq-of x.0 r c | false ↦ λ c g. cc ]) refl d

        going : (greater_key x.1 (i, ask) ≡ x.1) ⊎ (greater_key x.1 (i, ask) ≡ (i, ask)) → known_over n.grants r (greater_key x.1 (i, ask)) ≡ false
        going (inl old) = ap (λ (z : Key). known_over n.grants r z) old ∙ subst (λ (q : ℕ). known_over n.grants q x.1 ≡ false) same-place (h.promise x f).going_on
        going (inr new) = ap (λ (z : Key). known_over n.grants r z) new ∙ may.going_on

-- a peer's number is not the own one
peer-other : (home : Home) (me a r : ℕ) → IsActor home me → are_peers (role_of home.plan a) (IsNode home.frag home.replica) ≡ true → replica_number home a ≡ Some r → r ≡ home.replica → ⊥
peer-other home me a r actor way e same =
    let there = place-nth a (replicas_of home.plan home.frag) r e in
    let here = replica-at home.plan me home.frag home.replica actor.role in
    let one : a ≡ me = sym there ∙ ap (λ (q : ℕ). nth 0 (replicas_of home.plan home.frag) q) same ∙ here in
    let clash : are_peers (IsNode home.frag home.replica) (IsNode home.frag home.replica) ≡ true = subst (λ x. are_peers x (IsNode home.frag home.replica) ≡ true) (ap (λ (x : ℕ). role_of home.plan x) one ∙ actor.role) way in
    let yes = eq-test home.replica home.replica refl in
    let no = (both (home.frag == home.frag) (not (home.replica == home.replica)) clash).1 in
    let gone : not true ≡ true = rw yes at no in cc

on_ask-asking : (home : Home) (i ask : ℕ) (o : Option ℕ) (n : PlainNode) → n.grants.me ≡ home.replica → ((r : ℕ) → o ≡ Some r → r ≡ home.replica → ⊥) → IsAsking home n → IsAsking home (on_ask home i ask o n).after
on_ask-asking home i ask None n me other h = h
on_ask-asking home i ask (Some r) n me other h =
    (elim (grants n.grants n.state r (i, ask)) as (λ b. grants n.grants n.state r (i, ask) ≡ b → IsAsking home (cond {A = Stepped PlainNode} b
    (record { after = record n { grants = with_promise n.grants r (i, ask) }; sends = mail (nth 0 (replicas_of home.plan home.frag) r) (message.Grant i ask) ∷ [] }) (idle_step n)).after) [
      | true ↦ λ e. ask-asking home i ask r n me (other r refl) (granted-of n.grants n.state r (i, ask) e) h
      | false ↦ λ e. h
    ]) refl

-- ---- entering

entered-asking : (home : Home) (n : PlainNode) → n.recovering ≡ false → EachReaches ((n.cursor + 1) * home.plan.width) (held_by n) → n.grants.promise ≡ None → IsAsking home (enter_step home n).after
unfolding enter_step
entered-asking home n up first none =
    record {
      runs = λ e. record { up = up; unstable = refl; first = first };
      busy = λ _ e. record { asks = refl; promised = none };
      promise = λ p e. let clash : ◌≡◌ {A = Option (ℕ × Key)} None (Some p) = sym none ∙ e in cc;
    }

none-of : (o : Option (ℕ × Key)) → is_none o ≡ true → o ≡ None
none-of None e = refl
none-of (Some p) e = cc

on_grant-asking : (home : Home) (i ask : ℕ) (n : PlainNode) → IsAsking home n → IsAsking home (on_grant home i ask n).after
on_grant-asking home i ask n h =
    (elim (is_up_failure n.state) as (λ c. IsAsking home (cond {A = Stepped PlainNode} (c && may_enter_by n.grants (i, ask)) (enter_step home n) (idle_step n)).after) [
      | true ↦ (elim (may_enter_by n.grants (i, ask)) as (λ b. may_enter_by n.grants (i, ask) ≡ b → IsAsking home (cond {A = Stepped PlainNode} b (enter_step home n) (idle_step n)).after) [
        | true ↦ λ e.
            let x = both (n.grants.running && i == n.grants.inc && ask == n.grants.over + 1) (is_none n.grants.promise) e in
            let y = both (n.grants.running && i == n.grants.inc) (ask == n.grants.over + 1) x.0 in
            let z = both n.grants.running (i == n.grants.inc) y.0 in
            let w = h.runs z.0 in
            entered-asking home n w.up w.first (none-of n.grants.promise x.1)
        | false ↦ λ e. h
      ]) refl
      | false ↦ h
    ])

-- ---- snapshots

adopted-asking : (home : Home) (s : Snap) (n : PlainNode) → n.grants.running ≡ false → IsAsking home n → IsAsking home (after_adoption home s n)
unfolding after_adoption
adopted-asking home s n idle_one h = idle home (after_adoption home s n) idle_one (λ up e. cc) h.promise

on_snap-asking : (home : Home) (most i try : ℕ) (s : Snap) (n : PlainNode) → IsGood home most n → IsAsking home n → IsAsking home (on_snap home i try s n)
on_snap-asking home most i try s n g h =
    (elim n.recovering as (λ c. n.recovering ≡ c → IsAsking home (cond (c && i == n.grants.inc && try == n.tries) (after_adoption home s n) n)) [
      | false ↦ λ e. h
      | true ↦ λ down. elim (true && i == n.grants.inc && try == n.tries) as (λ b. IsAsking home (cond b (after_adoption home s n) n)) [
        | true ↦ adopted-asking home s n (emptied-of n down g.orderly.recovering).running h
        | false ↦ h
      ]
    ]) refl

-- ---- any packet

unless-asking : (home : Home) (n : PlainNode) (s : Stepped PlainNode) → IsAsking home n → IsAsking home s.after → IsAsking home (cond n.recovering (idle_step n) s).after
unless-asking home n s h k = elim n.recovering as (λ b. IsAsking home (cond b (idle_step n) s).after) [ true ↦ h | false ↦ k ]

message-asking : (home : Home) (me most a : ℕ) (m : Message) (n : PlainNode) → IsActor home me → packet_way home.plan (role_of home.plan a) (IsNode home.frag home.replica) (Plain m) ≡ true →
    IsGood home most n → IsAsking home n → IsAsking home (on_message home a m n).after
message-asking home me most a (message.Batch u index items) n actor way g h = batch-asking home u index items (sender_at home.plan (streams_of home) a) n h
message-asking home me most a (message.Subscribe asked) n actor way g h = unless-asking home n (on_subscribe home asked (reader_place home a) n) h (subscribe-asking home asked (reader_place home a) n h)
message-asking home me most a (message.Truncated u base) n actor way g h = truncation-asking home u base (sender_at home.plan (streams_of home) a) n h
message-asking home me most a (message.Beat b) n actor way g h =
    peer-asking home b (replica_number home a) (on_upstream_beat b (sender_at home.plan (streams_of home) a) n) (upstream-asking home b (sender_at home.plan (streams_of home) a) n h)
message-asking home me most a (message.Ack i count) n actor way g h =
    elim n.recovering as (λ b. IsAsking home (cond b n (on_ack home i count (reader_place home a) n))) [ true ↦ h | false ↦ ack-asking home i count (reader_place home a) n h ]
message-asking home me most a (message.Ask i ask) n actor way g h =
    on_ask-asking home i ask (replica_number home a) n (shape-of home most n g.orderly.shape).me (λ r e. peer-other home me a r actor way e) h
message-asking home me most a (message.Grant i ask) n actor way g h = on_grant-asking home i ask n h
message-asking home me most a (message.SnapAsk i try) n actor way g h = unless-asking home n (on_snap_ask home a i try n) h h

marks-asking : (home : Home) (n : PlainNode) → IsAsking home n → IsAsking home (with_marks_ended n)
marks-asking home n h = asking-same home n (with_marks_ended n) refl refl refl refl (reaches-same n (with_marks_ended n) (held-map without_ended_marks (λ p. refl) n.ports)) h

packet-asking : (home : Home) (me most a : ℕ) (packet : Packet) (n : PlainNode) → IsActor home me → packet_way home.plan (role_of home.plan a) (IsNode home.frag home.replica) packet ≡ true →
    IsGood home most n → IsAsking home n → IsAsking home (on_packet home a packet n).after
packet-asking home me most a (Plain m) n actor way g h = message-asking home me most a m n actor way g h
packet-asking home me most a (SnapFor i try s) n actor way g h = on_snap-asking home most i try s n g h

pub delivered-asking : (home : Home) (me most a : ℕ) (packet : Packet) (n : PlainNode) → IsActor home me → packet_way home.plan (role_of home.plan a) (IsNode home.frag home.replica) packet ≡ true →
    IsGood home most n → IsAsking home n → IsAsking home (packet_step home a packet n).after
unfolding packet_step
delivered-asking home me most a packet n actor way g h = packet-asking home me most a packet (with_marks_ended n) actor way (marks-good home most n g) (marks-asking home n h)

-- ---- a tick

clocked-asking : (home : Home) (now : ℕ) (n : PlainNode) → IsAsking home n → IsAsking home (after_clock now n)
clocked-asking home now n h =
    let m = after_clock now n in
    let held = reaches-same n m (held-map port_after_tick (λ p. refl) n.ports) in
    record {
      runs = λ e. let w = h.runs e in record { up = w.up; unstable = w.unstable; first = held ((n.cursor + 1) * home.plan.width) w.first };
      busy = λ up e. let b = h.busy up e in record { asks = b.asks; promised = gone b.promised };
      promise = λ p e. let k = h.promise p (left n.grants.promise refl p e) in record { other = k.other; lower = k.lower; going_on = k.going_on };
    }
  where
    silent : List Bool
    silent = map is_absent (after_clock now n).peers

    gone : n.grants.promise ≡ None → promise_kept n.grants.promise silent ≡ None
    gone e = rw e refl

    left : (o : Option (ℕ × Key)) → n.grants.promise ≡ o → (p : ℕ × Key) → promise_kept o silent ≡ Some p → n.grants.promise ≡ Some p
    left None e p f = cc
    left (Some x) e p f = (elim (nth false silent x.0) as (λ b. cond {A = Option (ℕ × Key)} b None (Some x) ≡ Some p → n.grants.promise ≡ Some p) [ true ↦ λ d. cc | false ↦ λ d. e ∙ d ]) f

choosing-asking : (home : Home) (n : PlainNode) → IsAsking home n → IsAsking home (choice_step home n).after
choosing-asking home n h = asking-same home n (record n { ports = map port_after_choice n.ports }) refl refl refl refl (reaches-same n (record n { ports = map port_after_choice n.ports }) (held-map port_after_choice chosen-held n.ports)) h

failure-unstable : (s : NodeState) → is_up_failure s ≡ true → is_stable s ≡ false
failure-unstable Stable e = cc
failure-unstable UpFailure e = refl
failure-unstable Stabilization e = refl

reconciling-asking : (home : Home) (n : PlainNode) → n.recovering ≡ false → IsAsking home n → IsAsking home (ask_step home n).after
reconciling-asking home n up h =
    (elim (wants_to_reconcile home n) as (λ c. wants_to_reconcile home n ≡ c → IsAsking home (cond {A = Stepped PlainNode} (c && is_none n.grants.promise) (cond (list_all is_absent (peer_watches home n)) (enter_step home n)
    (record { after = record n { grants = with_ask n.grants }; sends = to_each (message.Ask (own_key n.grants).0 (own_key n.grants).1) (peers_of home) })) (idle_step n)).after) [
      | false ↦ λ e. h
      | true ↦ λ wants. (elim (is_none n.grants.promise) as (λ c. is_none n.grants.promise ≡ c → IsAsking home (cond {A = Stepped PlainNode} c (cond (list_all is_absent (peer_watches home n)) (enter_step home n)
          (record { after = record n { grants = with_ask n.grants }; sends = to_each (message.Ask (own_key n.grants).0 (own_key n.grants).1) (peers_of home) })) (idle_step n)).after) [
            | false ↦ λ e. h
            | true ↦ λ none. asks (both (is_up_failure n.state) (is_complete home.plan.width (held_by n) n.cursor) wants) (none-of n.grants.promise none)
          ]) refl
    ]) refl
  where
    asks : (is_up_failure n.state ≡ true) × (is_complete home.plan.width (held_by n) n.cursor ≡ true) → n.grants.promise ≡ None → IsAsking home (cond {A = Stepped PlainNode} (list_all is_absent (peer_watches home n)) (enter_step home n)
        (record { after = record n { grants = with_ask n.grants }; sends = to_each (message.Ask (own_key n.grants).0 (own_key n.grants).1) (peers_of home) })).after
    asks w none =
        let first = complete-reach home.plan.width n.cursor (held_by n) w.1 in
        elim (list_all is_absent (peer_watches home n)) as (λ b. IsAsking home (cond {A = Stepped PlainNode} b (enter_step home n)
        (record { after = record n { grants = with_ask n.grants }; sends = to_each (message.Ask (own_key n.grants).0 (own_key n.grants).1) (peers_of home) })).after) [
          | true ↦ entered-asking home n up first none
          | false ↦ record {
            runs = λ e. record { up = up; unstable = failure-unstable n.state w.0; first = first };
            busy = λ _ e. absurd (failure-calm n.state w.0 e);
            promise = λ p e. let clash : ◌≡◌ {A = Option (ℕ × Key)} None (Some p) = sym none ∙ e in cc;
          }
        ]

-- ---- processing

failure-state : (m : PlainNode) → ((with_failure m).state ≡ m.state) ⊎ ((with_failure m).state ≡ UpFailure)
failure-state m = elim (is_nil m.closed) as (λ b. (cond b m.state UpFailure ≡ m.state) ⊎ (cond b m.state UpFailure ≡ UpFailure)) [ true ↦ inl refl | false ↦ inr refl ]

pub unstable-failed : (s : NodeState) → is_stable s ≡ false → is_stabilization s ≡ false → is_up_failure s ≡ true
unstable-failed Stable e f = cc
unstable-failed UpFailure e f = refl
unstable-failed Stabilization e f = cc

-- a node that is UP_FAILURE has closed a bucket
pub failed-closed : (n : PlainNode) → n.recovering ≡ false → has_state_of_closed n ≡ true → is_up_failure n.state ≡ true → is_nil n.closed ≡ false
failed-closed n up h e = by-value (is_nil n.closed) refl
  where
    by-value : (b : Bool) → is_nil n.closed ≡ b → is_nil n.closed ≡ false
    by-value false f = f
    by-value true f = let gone : not (is_up_failure n.state) ≡ true = rw (up, f) at h in let none : not true ≡ true = rw e at gone in cc

-- where buckets are closed, the cursor stays and the node is UP_FAILURE
processed-asking : (home : Home) (last : ℕ) (n : PlainNode) → n.recovering ≡ false → is_stabilization n.state ≡ false → has_state_of_closed n ≡ true → IsAsking home n → IsAsking home (processing_upto home last n).after
processed-asking home last n up calm closed h =
    let count = last + 1 - node_frontier n in
    let stably = min count (complete_buckets home n) in
    let m = with_closed home (count - stably) (after_stable_buckets home stably n) in
    let after = (processing_upto home last n).after in
    record {
      runs = λ e.
          let w = h.runs e in
          let some = failed-closed n up closed (unstable-failed n.state w.unstable calm) in
          let none : complete_buckets home n ≡ 0 = rw some refl in
          let stay : min count (complete_buckets home n) ≡ 0 = rw none (omega arith) in
          let far : after.cursor ≡ n.cursor = ap (λ (k : ℕ). n.cursor + k) stay ∙ omega arith in
          record { up = up; unstable = unstable (failure-state m) w.unstable; first = reaches-same n after refl ((after.cursor + 1) * home.plan.width) (rw far w.first) };
      busy = λ _ e. absurd (still (failure-state m) e);
      promise = h.promise;
    }
  where
    m1 : PlainNode
    m1 = with_closed home (last + 1 - node_frontier n - min (last + 1 - node_frontier n) (complete_buckets home n)) (after_stable_buckets home (min (last + 1 - node_frontier n) (complete_buckets home n)) n)

    unstable : ((with_failure m1).state ≡ n.state) ⊎ ((with_failure m1).state ≡ UpFailure) → is_stable n.state ≡ false → is_stable (with_failure m1).state ≡ false
    unstable (inl e) f = ap is_stable e ∙ f
    unstable (inr e) f = ap is_stable e

    still : ((with_failure m1).state ≡ n.state) ⊎ ((with_failure m1).state ≡ UpFailure) → is_stabilization (with_failure m1).state ≡ true → ⊥
    still (inl e) f = let clash : true ≡ false = sym f ∙ ap is_stabilization e ∙ calm in cc
    still (inr e) f = let clash : true ≡ false = sym f ∙ ap is_stabilization e in cc

abbrev IsAskingAfter : Home → Stepped PlainNode → Type 0
IsAskingAfter home s = IsAsking home s.after

processing-asking : (home : Home) (n : PlainNode) → n.recovering ≡ false → has_state_of_closed n ≡ true → IsAsking home n → IsAsking home (processing_step home n).after
processing-asking home n up closed h =
    by-processing home n (IsAskingAfter home) h (λ last e due. processed-asking home last n up e closed h)

-- ---- the whole tick

serving-asking : (home : Home) (me most : ℕ) (n : PlainNode) → IsActor home me → n.recovering ≡ false → IsGood home most n → IsAsking home n → IsAsking home (serving_step home n).after
serving-asking home me most n actor up g h =
    let a = choice_step home n in
    let b = ask_step home a.after in
    let one = choosing-good home me most n actor up g in
    let two = reconciling-good home me (most + 1) a.after actor up one.after in
    processing-asking home b.after (reconciling-recovering home a.after ∙ up) two.after.orderly.state (reconciling-asking home a.after up (choosing-asking home n h))

going_on-asking : (home : Home) (me most : ℕ) (n : PlainNode) → IsActor home me → IsGood home most n → IsAsking home n → IsAsking home (rest_of_tick home n).after
going_on-asking home me most n actor g h =
    (elim n.recovering as (λ b. n.recovering ≡ b → IsAsking home (cond {A = Stepped PlainNode} (not b) (serving_step home n) (cond (may_start_afresh home n) (serving_step home (with_fresh_start n)) (then_do (snapshot_ask_step home n) (announcing_step home)))).after) [
      | false ↦ λ up. serving-asking home me most n actor up g h
      | true ↦ λ down. elim (may_start_afresh home n) as (λ b. IsAsking home (cond {A = Stepped PlainNode} b (serving_step home (with_fresh_start n)) (then_do (snapshot_ask_step home n) (announcing_step home))).after) [
        | true ↦ serving-asking home me most (with_fresh_start n) actor refl (fresh-good home most n actor.place down g)
            (idle home (with_fresh_start n) (emptied-of n down g.orderly.recovering).running (λ up e. cc) h.promise)
        | false ↦ h
      ]
    ]) refl

pub ticked-asking : (home : Home) (me most now : ℕ) (n : PlainNode) → IsActor home me → IsGood home most n → IsAsking home n → IsAsking home (tick_step home now n).after
unfolding tick_step
ticked-asking home me most now n actor g h =
    going_on-asking home me most (after_clock now (with_marks_ended n)) actor (clocked-good home most now (with_marks_ended n) (marks-good home most n g)) (clocked-asking home now (with_marks_ended n) (marks-asking home n h))

-- ---- milling

-- a bucket is ready still
more-ready : (home : Home) (r : ℕ) (n : PlainNode) → MayMill home r n → (ready home (after_stable_buckets home r n) == 0) ≡ false → n.cursor + r + 1 ≤ complete_upto home n
unfolding ready
more-ready home r n may e =
    let many : ready home (after_stable_buckets home r n) ≡ complete_upto home n - (n.cursor + r) = rw (may.up, may.none) refl in
    let some : (complete_upto home n - (n.cursor + r) == 0) ≡ false = rw many at e in
    let positive : 1 ≤ complete_upto home n - (n.cursor + r) = not-zero (complete_upto home n - (n.cursor + r)) some in
    omega (arith, positive)

pub milled-asking : (home : Home) (most r : ℕ) (n : PlainNode) → IsPlace home → MayMill home r n → IsGood home most n → IsAsking home n → IsAsking home (mill_step home r n).after
unfolding mill_step
milled-asking home most r n place may g h =
    (elim (is_stabilization n.state) as (λ c. is_stabilization n.state ≡ c → IsAsking home (give home (given_items (length (out_stable home n)) (given_stable home n m (c && ready home m == 0))) (after_last_correction (c && ready home m == 0) m)).after) [
      | false ↦ λ calm. record {
        runs = λ e. let w = h.runs e in absurd (unclosed w.unstable calm);
        busy = λ up e. let clash : true ≡ false = sym e ∙ calm in cc;
        promise = h.promise;
      }
      | true ↦ λ busy. (elim (ready home m == 0) as (λ d. (ready home m == 0) ≡ d → IsAsking home (give home (given_items (length (out_stable home n)) (given_stable home n m d)) (after_last_correction d m)).after) [
        | true ↦ λ e. record { runs = λ f. cc; busy = λ up f. cc; promise = finished-proper home n.grants h.promise }
        | false ↦ λ e. record {
          runs = λ f. let w = h.runs f in record { up = w.up; unstable = w.unstable; first = reaches_least home.plan.width (n.cursor + r + 1) (held_by n) place.checked.width (more-ready home r n may e) };
          busy = λ up f. let b = h.busy up f in record { asks = b.asks; promised = b.promised };
          promise = h.promise;
        }
      ]) refl
    ]) refl
  where
    m : PlainNode
    m = after_stable_buckets home r n

    unclosed : is_stable n.state ≡ false → is_stabilization n.state ≡ false → ⊥
    unclosed e f =
        let some = failed-closed n may.up g.orderly.state (unstable-failed n.state e f) in
        let none : is_nil n.closed ≡ true = ap is_nil may.none in
        let clash : true ≡ false = sym none ∙ some in cc
