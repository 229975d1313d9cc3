-- No step of a node that does not recover begins to recover, where it takes no truncation of a present session.
use Rattle.std.proofs.Common.{◌≡◌, ℕ, zero, suc, Bool, true, false, cond, not, ◌&&◌, ◌==◌, List, [], ◌∷◌, map, refl, sym, ap, subst, ◌∙◌, Option, Some, None}
use Rattle.dpc_lists.specs.Lists.{nth}
use Rattle.dpc_model.specs.Inlets.{same_sess, take_batch}
use Rattle.dpc_model.specs.Granting.{grants, with_promise, may_enter_by}
use Rattle.dpc_model.specs.Actors.{replicas_of}
use Rattle.dpc_model.specs.Ports.{Port, no_port, sender_at, without_ended_marks, on_truncated, all_truncated}
use Rattle.dpc_model.specs.declared.batches.Taken.{Taken}
use Rattle.dpc_model.specs.declared.batches.Taken.TheVariants.{Used, Old, Broken}
use Rattle.dpc_model.specs.declared.tuples.Item.{Item}
use Rattle.dpc_model.specs.declared.messages.Sess.{Sess}
use Rattle.dpc_model.specs.declared.messages.Beat.{Beat}
use Rattle.dpc_model.specs.declared.messages.Subscribe.{Subscribe}
use Rattle.dpc_model.specs.declared.messages.Message.{Message}
use Rattle.dpc_model.specs.declared.messages.Message.TheVariants as message
use Rattle.dpc_model.specs.NodeStates.{is_up_failure}
use Rattle.node_model.specs.Mails.{Packet, Plain, SnapFor, mail, Stepped}
use Rattle.node_model.specs.Nodes.{Home, PlainNode, streams_of}
use Rattle.node_model.specs.NodeSteps.{idle_step, then_do, replica_number, reader_place, with_port, enter_step, after_loss, after_adoption, after_taking, with_stamps_of, on_batch, on_subscribe, on_truncation, on_upstream_beat, on_peer_beat, on_ack, on_ask, on_grant, on_snap_ask, on_message, with_marks_ended, packet_step, mill_step, after_clock, may_start_afresh, choice_step, ask_step, processing_step, announcing_step, serving_step, snapshot_ask_step, with_fresh_start, tick_step}
use Rattle.law_safety.proofs.StepCases.{by-asking, by-processing}

-- the packet is no truncation of a port's present session
abbrev pub IsHarmless : Home → ℕ → Packet → PlainNode → Type 0
IsHarmless home a packet n =
    (u : Sess) (base p r : ℕ) → packet ≡ Plain (message.Truncated u base) → sender_at home.plan (streams_of home) a ≡ Some (p, r) → same_sess u (nth no_port n.ports p).inlet.sess ≡ false

-- marks that end leave a port's session
pub marked-session : (ps : List Port) (p : ℕ) → (nth no_port (map without_ended_marks ps) p).inlet.sess ≡ (nth no_port ps p).inlet.sess
marked-session [] p = refl
marked-session (q ∷ ps) zero = refl
marked-session (q ∷ ps) (suc p) = marked-session ps p

-- ---- packets

module _ (home : Home) (a : ℕ) where
  stamped-whole : (t : Taken) (n : PlainNode) → (with_stamps_of home t n).recovering ≡ n.recovering
  stamped-whole (Used items) n = refl
  stamped-whole Old n = refl
  stamped-whole Broken n = refl

  batch-whole : (u : Sess) (index : ℕ) (items : List Item) (o : Option (ℕ × ℕ)) (n : PlainNode) → (on_batch home u index items o n).recovering ≡ n.recovering
  batch-whole u index items None n = refl
  batch-whole u index items (Some pr) n =
      let t = take_batch (nth no_port n.ports pr.0).inlet u index items in
      elim ((nth no_port n.ports pr.0).chosen == pr.1) as (λ b. (cond {A = PlainNode} b (after_taking home pr.0 t n) n).recovering ≡ n.recovering) [
        | true ↦ stamped-whole t.answer (with_port pr.0 (λ q. record q { inlet = t.after }) n)
        | false ↦ refl
      ]

  subscribe-whole : (asked : Subscribe) (o : Option ℕ) (n : PlainNode) → (on_subscribe home asked o n).after.recovering ≡ n.recovering
  subscribe-whole asked None n = refl
  subscribe-whole asked (Some k) n = refl

  truncation-whole : (u : Sess) (base : ℕ) (o : Option (ℕ × ℕ)) (n : PlainNode) → ((p r : ℕ) → o ≡ Some (p, r) → same_sess u (nth no_port n.ports p).inlet.sess ≡ false) → (on_truncation home u base o n).recovering ≡ n.recovering
  truncation-whole u base None n harmless = refl
  truncation-whole u base (Some pr) n harmless =
      let old = nth no_port n.ports pr.0 in
      let port = on_truncated pr.1 u base old in
      let m = with_port pr.0 (λ _. port) n in
      let other : same_sess u old.inlet.sess ≡ false = harmless pr.0 pr.1 refl in
      subst (λ (b : Bool). (cond {A = PlainNode} (b && all_truncated port) (after_loss home m) m).recovering ≡ n.recovering) (sym other) refl

  beat-whole : (b : Beat) (o : Option ℕ) (pr : Option (ℕ × ℕ)) (n : PlainNode) → (on_peer_beat b o (on_upstream_beat b pr n)).recovering ≡ n.recovering
  beat-whole b None None n = refl
  beat-whole b None (Some pr) n = refl
  beat-whole b (Some r) None n = refl
  beat-whole b (Some r) (Some pr) n = refl

  ack-whole : (i count : ℕ) (o : Option ℕ) (n : PlainNode) → (on_ack home i count o n).recovering ≡ n.recovering
  ack-whole i count None n = refl
  ack-whole i count (Some k) n = refl

  ask-whole : (i ask : ℕ) (o : Option ℕ) (n : PlainNode) → (on_ask home i ask o n).after.recovering ≡ n.recovering
  ask-whole i ask None n = refl
  ask-whole i ask (Some r) n =
      elim (grants n.grants n.state r (i, ask)) as (λ b. (cond {A = Stepped PlainNode} b (record { after = record n { grants = with_promise n.grants r (i, ask) }; sends = mail (nth 0 (replicas_of home.plan home.frag) r) (message.Grant i ask) ∷ [] }) (idle_step n)).after.recovering ≡ n.recovering) [
        | true ↦ refl
        | false ↦ refl
      ]

  enter-whole : (n : PlainNode) → (enter_step home n).after.recovering ≡ n.recovering
  unfolding enter_step
  enter-whole n = refl

  grant-whole : (i ask : ℕ) (n : PlainNode) → (on_grant home i ask n).after.recovering ≡ n.recovering
  grant-whole i ask n =
      elim (is_up_failure n.state && may_enter_by n.grants (i, ask)) as (λ b. (cond {A = Stepped PlainNode} b (enter_step home n) (idle_step n)).after.recovering ≡ n.recovering) [ true ↦ enter-whole n | false ↦ refl ]

  unless-whole : (b : Bool) (n : PlainNode) (s : Stepped PlainNode) → s.after.recovering ≡ n.recovering → (cond {A = Stepped PlainNode} b (idle_step n) s).after.recovering ≡ n.recovering
  unless-whole true n s h = refl
  unless-whole false n s h = h

  message-whole : (m : Message) (n : PlainNode) → IsHarmless home a (Plain m) n → (on_message home a m n).after.recovering ≡ n.recovering
  message-whole (message.Batch u index items) n harmless = batch-whole u index items (sender_at home.plan (streams_of home) a) n
  message-whole (message.Subscribe asked) n harmless = unless-whole n.recovering n (on_subscribe home asked (reader_place home a) n) (subscribe-whole asked (reader_place home a) n)
  message-whole (message.Truncated u base) n harmless = truncation-whole u base (sender_at home.plan (streams_of home) a) n (λ p r at. harmless u base p r refl at)
  message-whole (message.Beat b) n harmless = beat-whole b (replica_number home a) (sender_at home.plan (streams_of home) a) n
  message-whole (message.Ack i count) n harmless =
      elim n.recovering as (λ b. (cond {A = PlainNode} b n (on_ack home i count (reader_place home a) n)).recovering ≡ n.recovering) [ true ↦ refl | false ↦ ack-whole i count (reader_place home a) n ]
  message-whole (message.Ask i ask) n harmless = ask-whole i ask (replica_number home a) n
  message-whole (message.Grant i ask) n harmless = grant-whole i ask n
  message-whole (message.SnapAsk i try) n harmless = unless-whole n.recovering n (on_snap_ask home a i try n) refl

  pub packet-whole : (packet : Packet) (n : PlainNode) → n.recovering ≡ false → IsHarmless home a packet n → (packet_step home a packet n).after.recovering ≡ false
  unfolding packet_step
  packet-whole (Plain m) n whole harmless =
      message-whole m (with_marks_ended n) (λ u base p r same at. ap (λ (v : Sess). same_sess u v) (marked-session n.ports p) ∙ harmless u base p r same at) ∙ whole
  packet-whole (SnapFor i try s) n whole harmless =
      let m = with_marks_ended n in
      subst (λ (b : Bool). (cond {A = PlainNode} (b && i == m.grants.inc && try == m.tries) (after_adoption home s m) m).recovering ≡ false) (sym whole) whole

  -- ---- milling, and a tick

  pub milled-whole : (r : ℕ) (n : PlainNode) → (mill_step home r n).after.recovering ≡ n.recovering
  unfolding mill_step
  milled-whole r n = refl

  asking-whole : (n : PlainNode) → (ask_step home n).after.recovering ≡ n.recovering
  asking-whole n =
      by-asking home n (λ s. s.after.recovering ≡ n.recovering) (enter-whole n) refl refl

  processing-whole : (n : PlainNode) → (processing_step home n).after.recovering ≡ n.recovering
  processing-whole n =
      by-processing home n (λ s. s.after.recovering ≡ n.recovering) refl (λ last e due. refl)

  serving-whole : (n : PlainNode) → (serving_step home n).after.recovering ≡ n.recovering
  serving-whole n =
      let b = choice_step home n in
      let c = ask_step home b.after in
      processing-whole c.after ∙ asking-whole b.after

  pub ticked-serves : (now : ℕ) (n : PlainNode) → n.recovering ≡ false → tick_step home now n ≡ serving_step home (after_clock now (with_marks_ended n))
  unfolding tick_step
  ticked-serves now n whole =
      let m = after_clock now (with_marks_ended n) in
      ap (λ (b : Bool). cond {A = Stepped PlainNode} (not b) (serving_step home m) (cond (may_start_afresh home m) (serving_step home (with_fresh_start m)) (then_do (snapshot_ask_step home m) (announcing_step home)))) whole

  pub ticked-whole : (now : ℕ) (n : PlainNode) → n.recovering ≡ false → (tick_step home now n).after.recovering ≡ false
  ticked-whole now n whole = ap (λ (s : Stepped PlainNode). s.after.recovering) (ticked-serves now n whole) ∙ serving-whole (after_clock now (with_marks_ended n)) ∙ whole
