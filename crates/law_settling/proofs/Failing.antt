-- Who is not UP_FAILURE stays so where its inputs are whole; and while a node is UP_FAILURE no ask of it becomes over.
use Rattle.std.proofs.Common.{◌≡◌, ℕ, ◌+◌, ◌-◌, ◌<◌, ◌≤◌, Bool, true, false, cond, not, ◌&&◌, ◌==◌, min, List, [], ◌∷◌, ◌++◌, map, length, refl, ap, ◌∙◌, arith, Option, Some, None}
use Rattle.std.specs.Prelude.{is_none}
use Rattle.dpc_lists.specs.Lists.{nth, list_all, is_nil, range_with_len}
use Rattle.dpc_model.specs.Due.{first_incomplete, is_complete}
use Rattle.dpc_model.specs.Inlets.{same_sess, take_batch, AfterBatch}
use Rattle.dpc_model.specs.Replicas.{is_absent}
use Rattle.dpc_model.specs.Reading.{Reader}
use Rattle.dpc_model.specs.Granting.{Grants, own_key, grants, with_promise, may_enter_by, with_ask, with_ask_over}
use Rattle.dpc_model.specs.Actors.{replicas_of}
use Rattle.dpc_model.specs.NodeStates.{is_up_failure, is_stabilization}
use Rattle.dpc_model.specs.Ports.{no_port, sender_at, on_truncated, all_truncated, without_ended_marks, port_after_tick, port_after_choice}
use Rattle.dpc_model.specs.declared.batches.Taken.{Taken}
use Rattle.dpc_model.specs.declared.batches.Taken.TheVariants.{Used, Old, Broken}
use Rattle.dpc_model.specs.declared.tuples.Item.{Item}
use Rattle.dpc_model.specs.declared.tuples.Tagged.{Tagged}
use Rattle.dpc_model.specs.declared.messages.Sess.{Sess}
use Rattle.dpc_model.specs.declared.messages.Beat.{Beat}
use Rattle.dpc_model.specs.declared.messages.Subscribe.{Subscribe}
use Rattle.dpc_model.specs.declared.messages.Message.{Message}
use Rattle.dpc_model.specs.declared.messages.Message.TheVariants as message
use Rattle.dpc_model.specs.declared.messages.NodeState.{NodeState}
use Rattle.dpc_model.specs.declared.messages.NodeState.TheVariants.{Stable, UpFailure, Stabilization}
use Rattle.dpc_lists.proofs.Truths.{not-both}
use Rattle.node_model.specs.Mails.{mail, Snap, Packet, Plain, SnapFor, to_each, Stepped}
use Rattle.node_model.specs.Nodes.{Home, PlainNode, streams_of, held_by, buckets_of, node_frontier, bucket_of, complete_upto, complete_buckets, ready}
use Rattle.node_model.specs.NodeSteps.{idle_step, then_do, peers_of, peer_watches, replica_number, reader_place, with_port, enter_step, after_loss, after_adoption, after_taking, with_stamps_of, on_batch, on_subscribe, on_truncation, on_upstream_beat, on_peer_beat, on_ack, on_ask, on_grant, on_snap_ask, on_message, on_packet, on_snap, with_marks_ended, packet_step, after_stable_buckets, mill_step, after_clock, may_start_afresh, choice_step, ask_step, count_upto, stably, processing_upto, processing_step, announcing_step, serving_step, snapshot_ask_step, rest_of_tick, with_fresh_start, tick_step}
use Rattle.law_safety.specs.Plans.{IsPlace}
use Rattle.law_safety.proofs.Frames.{IsGood, held-map}
use Rattle.law_safety.proofs.Ticked.{chosen-held}
use Rattle.law_safety.proofs.Dues.{due-range}
use Rattle.law_safety.proofs.StepCases.{by-asking, by-processing}
use Rattle.law_settling.specs.Finished.{has_whole_inputs}
use Rattle.law_settling.proofs.Finishing.{closed-none, upto-all}

-- from n to m: who is not UP_FAILURE stays so, and who does not reconcile ends no ask
pub record IsEven (n m : PlainNode) : Type 0 where
  pub fine : is_up_failure n.state ≡ false → is_up_failure m.state ≡ false
  pub over : is_stabilization n.state ≡ false → m.grants.over ≡ n.grants.over

even-same : (n m : PlainNode) → m.state ≡ n.state → m.grants.over ≡ n.grants.over → IsEven n m
even-same n m s o = record { fine = λ e. ap is_up_failure s ∙ e; over = λ e. o }

even-itself : (n : PlainNode) → IsEven n n
even-itself n = even-same n n refl refl

pub failed-moves : (s : NodeState) → is_up_failure s ≡ true → is_stabilization s ≡ false
failed-moves Stable e = cc
failed-moves UpFailure e = refl
failed-moves Stabilization e = cc

no-buckets : (xs : List (List Tagged)) → is_nil xs ≡ true → xs ≡ []
no-buckets [] e = refl
no-buckets (x ∷ xs) e = cc

module _ (home : Home) where
  -- ---- a packet

  batch-even : (u : Sess) (index : ℕ) (items : List Item) (o : Option (ℕ × ℕ)) (n : PlainNode) → IsEven n (on_batch home u index items o n)
  batch-even u index items None n = even-itself n
  batch-even u index items (Some pr) n = elim ((nth no_port n.ports pr.0).chosen == pr.1) as (λ b. IsEven n (cond b (after_taking home pr.0 (take_batch (nth no_port n.ports pr.0).inlet u index items) n) n)) [
    | true ↦ took (take_batch (nth no_port n.ports pr.0).inlet u index items)
    | false ↦ even-itself n
  ]
    where
      by-answer : (p : ℕ) (t : AfterBatch) (a : Taken) → IsEven n (with_stamps_of home a (with_port p (λ q. record q { inlet = t.after }) n))
      by-answer p t (Used items) = record { fine = λ e. e; over = λ e. refl }
      by-answer p t Old = record { fine = λ e. e; over = λ e. refl }
      by-answer p t Broken = record { fine = λ e. e; over = λ e. refl }

      took : (t : AfterBatch) → IsEven n (after_taking home pr.0 t n)
      took t = by-answer pr.0 t t.answer

  lost-down : (n : PlainNode) → (after_loss home n).recovering ≡ true
  unfolding after_loss
  lost-down n = refl

  truncation-even : (u : Sess) (base : ℕ) (o : Option (ℕ × ℕ)) (n : PlainNode) → (on_truncation home u base o n).recovering ≡ false → IsEven n (on_truncation home u base o n)
  truncation-even u base None n calm = even-itself n
  truncation-even u base (Some pr) n calm =
      let old = nth no_port n.ports pr.0 in
      let port = on_truncated pr.1 u base old in
      let m = with_port pr.0 (λ _. port) n in
      elim (same_sess u old.inlet.sess && all_truncated port) as (λ b. (cond b (after_loss home m) m).recovering ≡ false → IsEven n (cond b (after_loss home m) m)) [
        | true ↦ λ d. absurd (not-both (after_loss home m).recovering (lost-down m) d)
        | false ↦ λ d. record { fine = λ e. e; over = λ e. refl }
      ] calm

  beat-even : (b : Beat) (o : Option (ℕ × ℕ)) (q : Option ℕ) (n : PlainNode) → IsEven n (on_peer_beat b q (on_upstream_beat b o n))
  beat-even b None None n = even-itself n
  beat-even b None (Some r) n = record { fine = λ e. e; over = λ e. refl }
  beat-even b (Some o) None n = record { fine = λ e. e; over = λ e. refl }
  beat-even b (Some o) (Some r) n = record { fine = λ e. e; over = λ e. refl }

  ack-even : (i count : ℕ) (o : Option ℕ) (n : PlainNode) → IsEven n (on_ack home i count o n)
  ack-even i count None n = even-itself n
  ack-even i count (Some k) n = record { fine = λ e. e; over = λ e. refl }

  subscribe-even : (asked : Subscribe) (o : Option ℕ) (n : PlainNode) → IsEven n (on_subscribe home asked o n).after
  subscribe-even asked None n = even-itself n
  subscribe-even asked (Some k) n = record { fine = λ e. e; over = λ e. refl }

  ask-even : (i ask : ℕ) (o : Option ℕ) (n : PlainNode) → IsEven n (on_ask home i ask o n).after
  ask-even i ask None n = even-itself n
  ask-even i ask (Some r) n =
      elim (grants n.grants n.state r (i, ask)) as (λ b. IsEven n (cond {A = Stepped PlainNode} b (record { after = record n { grants = with_promise n.grants r (i, ask) }; sends = mail (nth 0 (replicas_of home.plan home.frag) r) (message.Grant i ask) ∷ [] }) (idle_step n)).after) [
        | true ↦ record { fine = λ e. e; over = λ e. refl }
        | false ↦ even-itself n
      ]

  entered-even : (n : PlainNode) → IsEven n (enter_step home n).after
  unfolding enter_step
  entered-even n = record { fine = λ e. refl; over = λ e. refl }

  grant-even : (i ask : ℕ) (n : PlainNode) → IsEven n (on_grant home i ask n).after
  grant-even i ask n = elim (is_up_failure n.state && may_enter_by n.grants (i, ask)) as (λ b. IsEven n (cond {A = Stepped PlainNode} b (enter_step home n) (idle_step n)).after) [ true ↦ entered-even n | false ↦ even-itself n ]

  message-even : (a : ℕ) (m : Message) (n : PlainNode) → (on_message home a m n).after.recovering ≡ false → IsEven n (on_message home a m n).after
  message-even a (message.Batch u index items) n calm = batch-even u index items (sender_at home.plan (streams_of home) a) n
  message-even a (message.Truncated u base) n calm = truncation-even u base (sender_at home.plan (streams_of home) a) n calm
  message-even a (message.Beat b) n calm = beat-even b (sender_at home.plan (streams_of home) a) (replica_number home a) n
  message-even a (message.Subscribe asked) n calm = elim n.recovering as (λ b. IsEven n (cond {A = Stepped PlainNode} b (idle_step n) (on_subscribe home asked (reader_place home a) n)).after) [ true ↦ even-itself n | false ↦ subscribe-even asked (reader_place home a) n ]
  message-even a (message.Ack i count) n calm = elim n.recovering as (λ b. IsEven n (cond {A = PlainNode} b n (on_ack home i count (reader_place home a) n))) [ true ↦ even-itself n | false ↦ ack-even i count (reader_place home a) n ]
  message-even a (message.Ask i ask) n calm = ask-even i ask (replica_number home a) n
  message-even a (message.Grant i ask) n calm = grant-even i ask n
  message-even a (message.SnapAsk i try) n calm = elim n.recovering as (λ b. IsEven n (cond {A = Stepped PlainNode} b (idle_step n) (on_snap_ask home a i try n)).after) [ true ↦ even-itself n | false ↦ even-itself n ]

  snap-even : (i try : ℕ) (s : Snap) (n : PlainNode) → n.recovering ≡ false → IsEven n (on_snap home i try s n)
  snap-even i try s n calm =
      let same : on_snap home i try s n ≡ n = ap (λ (b : Bool). cond {A = PlainNode} (b && i == n.grants.inc && try == n.tries) (after_adoption home s n) n) calm in
      even-same n (on_snap home i try s n) (ap (λ (x : PlainNode). x.state) same) (ap (λ (x : PlainNode). x.grants.over) same)

  packet-even : (a : ℕ) (packet : Packet) (n : PlainNode) → n.recovering ≡ false → (on_packet home a packet n).after.recovering ≡ false → IsEven n (on_packet home a packet n).after
  packet-even a (Plain m) n calm next = message-even a m n next
  packet-even a (SnapFor i try s) n calm next = snap-even i try s n calm

  pub taken-even : (a : ℕ) (packet : Packet) (n : PlainNode) → n.recovering ≡ false → (packet_step home a packet n).after.recovering ≡ false → IsEven n (packet_step home a packet n).after
  unfolding packet_step
  taken-even a packet n calm next = let e = packet-even a packet (with_marks_ended n) calm next in record { fine = e.fine; over = e.over }

  pub milled-even : (r : ℕ) (n : PlainNode) → IsEven n (mill_step home r n).after
  unfolding mill_step
  milled-even r n =
      let m = after_stable_buckets home r n in
      record {
        fine = λ e. elim (is_stabilization n.state && ready home m == 0) as (λ b. is_up_failure (cond b Stable n.state) ≡ false) [ true ↦ refl | false ↦ e ];
        over = λ e. ap (λ (b : Bool). (cond (b && ready home m == 0) (with_ask_over n.grants) n.grants).over) e;
      }

  -- ---- a tick

  asking-over : (n : PlainNode) → (ask_step home n).after.grants.over ≡ n.grants.over
  unfolding enter_step
  asking-over n =
      by-asking home n (λ s. s.after.grants.over ≡ n.grants.over) refl refl refl

  pub processing-grants : (n : PlainNode) → (processing_step home n).after.grants ≡ n.grants
  processing-grants n =
      by-processing home n (λ s. s.after.grants ≡ n.grants) refl (λ last e due. refl)

  -- no bucket is closed where all are complete
  processed-fine : (last : ℕ) (n : PlainNode) → n.closed ≡ [] → complete_upto home n ≡ buckets_of home.plan → last < buckets_of home.plan → is_up_failure n.state ≡ false → is_up_failure (processing_upto home last n).after.state ≡ false
  processed-fine last n empty upto low fine =
      let count = count_upto last n in
      let r = stably home n count in
      let y = after_stable_buckets home r n in
      let view : node_frontier n ≡ n.cursor = ap {B = ℕ} (λ xs. n.cursor + length xs) empty ∙ omega arith in
      let whole : complete_buckets home n ≡ complete_upto home n - n.cursor = ap {B = ℕ} (λ xs. cond {A = ℕ} (is_nil xs) (complete_upto home n - n.cursor) 0) empty in
      let left : count - min count (complete_buckets home n) ≡ 0 = few count (complete_buckets home n) (omega (arith, view, whole, upto, low)) in
      ap (λ (k : ℕ). is_up_failure (cond (is_nil (n.closed ++ map (bucket_of home y) (range_with_len (node_frontier y) k))) n.state UpFailure)) left
      ∙ ap {B = Bool} (λ xs. is_up_failure (cond (is_nil (xs ++ [])) n.state UpFailure)) empty ∙ fine
    where
      few : (c d : ℕ) → c ≤ d → c - min c d ≡ 0
      few c d h = omega (arith, h)

  processing-fine : (n : PlainNode) → n.closed ≡ [] → complete_upto home n ≡ buckets_of home.plan → is_up_failure n.state ≡ false → is_up_failure (processing_step home n).after.state ≡ false
  processing-fine n empty upto fine =
      by-processing home n (λ s. is_up_failure s.after.state ≡ false) fine (λ last e due. processed-fine last n empty upto (due-range home n n.clock last due).1 fine)

  asking-silent : (n : PlainNode) → is_up_failure n.state ≡ false → (ask_step home n).after ≡ n
  asking-silent n fine =
      ap (λ (b : Bool). (cond {A = Stepped PlainNode} ((b && is_complete home.plan.width (held_by n) n.cursor) && is_none n.grants.promise) (cond (list_all is_absent (peer_watches home n)) (enter_step home n)
      (record { after = record n { grants = with_ask n.grants }; sends = to_each (message.Ask (own_key n.grants).0 (own_key n.grants).1) (peers_of home) })) (idle_step n)).after) fine

  serving-fine : (n : PlainNode) → n.closed ≡ [] → complete_upto home n ≡ buckets_of home.plan → is_up_failure n.state ≡ false → is_up_failure (serving_step home n).after.state ≡ false
  serving-fine n empty upto fine =
      let a = choice_step home n in
      let held : held_by a.after ≡ held_by n = held-map port_after_choice chosen-held n.ports in
      let upto_a : complete_upto home a.after ≡ buckets_of home.plan = ap (λ (rs : List Reader). first_incomplete home.plan.width rs) held ∙ upto in
      ap (λ (x : PlainNode). is_up_failure (processing_step home x).after.state) (asking-silent a.after fine) ∙ processing-fine a.after empty upto_a fine

  pub served-is : (m : PlainNode) → m.recovering ≡ false → rest_of_tick home m ≡ serving_step home m
  served-is m calm = ap (λ (b : Bool). cond {A = Stepped PlainNode} (not b) (serving_step home m) (cond (may_start_afresh home m) (serving_step home (with_fresh_start m)) (then_do (snapshot_ask_step home m) (announcing_step home)))) calm

  pub ticked-even : (most now : ℕ) (n : PlainNode) → IsPlace home → IsGood home most n → n.recovering ≡ false → has_whole_inputs home.plan n ≡ true → IsEven n (tick_step home now n).after
  unfolding tick_step
  ticked-even most now n place good calm whole =
      let x = with_marks_ended n in
      let m = after_clock now x in
      let is = served-is m calm in
      let a = choice_step home m in
      let held : held_by m ≡ held_by n = held-map port_after_tick (λ p. refl) x.ports ∙ held-map without_ended_marks (λ p. refl) n.ports in
      let upto : complete_upto home m ≡ buckets_of home.plan = ap (λ (rs : List Reader). first_incomplete home.plan.width rs) held ∙ upto-all home most n place good whole in
      record {
        fine = λ e. ap (λ (s : Stepped PlainNode). is_up_failure s.after.state) is ∙ serving-fine m (no-buckets n.closed (closed-none n calm e good.orderly.state)) upto e;
        over = λ e. ap (λ (s : Stepped PlainNode). s.after.grants.over) is ∙ (ap (λ (g : Grants). g.over) (processing-grants (ask_step home a.after).after) ∙ asking-over a.after);
      }
