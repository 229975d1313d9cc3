-- What a packet makes of the ports of a node that does not recover after it either.
use Rattle.std.proofs.Common.{◌≡◌, ℕ, true, false, cond, ◌&&◌, List, map, refl, sym, ap, subst, ◌∙◌, Option, Some, None, slice_get, ◌⊎◌, inl, inr}
use Rattle.dpc_lists.specs.Lists.{nth}
use Rattle.dpc_model.specs.Inlets.{same_sess}
use Rattle.dpc_model.specs.Ports.{Port, no_port, sender_at, without_ended_marks, on_truncated, all_truncated}
use Rattle.dpc_model.specs.declared.messages.Sess.{Sess}
use Rattle.dpc_model.specs.declared.messages.Message.TheVariants as message
use Rattle.dpc_model.proofs.Subs.{nth-there}
use Rattle.node_model.specs.Mails.{Packet, Plain, SnapFor}
use Rattle.node_model.specs.Nodes.{Home, PlainNode, streams_of}
use Rattle.node_model.specs.NodeSteps.{with_port, after_loss, on_truncation, with_marks_ended, packet_step}
use Rattle.law_granting.proofs.Moves.{get-mapped, get-was}
use Rattle.law_calm.proofs.Taking.{Took, packet-took}

-- each port keeps its session and what it held, or takes a batch
abbrev pub PortsTook : Home → ℕ → Packet → PlainNode → List Port → Type 0
PortsTook home a packet n rs = (p : ℕ) (r : Port) → slice_get rs p ≡ Some r → (q : Port) × (slice_get n.ports p ≡ Some q) × Took home a packet p q r

module _ (home : Home) (a : ℕ) where
  lost-recovers : (n : PlainNode) → (after_loss home n).recovering ≡ true
  unfolding after_loss
  lost-recovers n = refl

  marked-took : (packet : Packet) (n : PlainNode) (p : ℕ) (r : Port) → slice_get (map without_ended_marks n.ports) p ≡ Some r → (q : Port) × (slice_get n.ports p ≡ Some q) × Took home a packet p q r
  marked-took packet n p r e =
      let k = get-mapped without_ended_marks n.ports p r e in
      (k.0, k.1, record { sess = ap (λ (z : Port). z.inlet.sess) (sym k.2); chosen = ap (λ (z : Port). z.chosen) (sym k.2); held = inl (ap (λ (z : Port). z.inlet.held) (sym k.2)) })

  -- a port that is marked keeps its session and what it holds
  truncation-took : (packet : Packet) (u : Sess) (base : ℕ) (o : Option (ℕ × ℕ)) (n : PlainNode) → (on_truncation home u base o (with_marks_ended n)).recovering ≡ false → PortsTook home a packet n (on_truncation home u base o (with_marks_ended n)).ports
  truncation-took packet u base None n whole p r e = marked-took packet n p r e
  truncation-took packet u base (Some pr) n whole p r e =
      let y = with_marks_ended n in
      let old = nth no_port y.ports pr.0 in
      let port = on_truncated pr.1 u base old in
      let m = with_port pr.0 (λ _. port) y in
      (elim (same_sess u old.inlet.sess && all_truncated port) as (λ c. (cond {A = PlainNode} c (after_loss home m) m).recovering ≡ false → slice_get (cond {A = PlainNode} c (after_loss home m) m).ports p ≡ Some r → (q : Port) × (slice_get n.ports p ≡ Some q) × Took home a packet p q r) [
        | true ↦ λ d at. (let clash : false ≡ true = sym d ∙ lost-recovers m in cc)
        | false ↦ λ d at. among (get-was pr.0 (λ _. port) y.ports p r at)
      ]) whole e
    where
      marks : (q z : Port) → Took home a packet p q z → Took home a packet p q (on_truncated pr.1 u base z)
      marks q z t =
          record {
            sess = t.sess;
            chosen = t.chosen;
            held = elim t.held [
              | inl same ↦ inl same
              | inr y ↦ inr (record { sess = y.sess; index = y.index; items = y.items; packet_is = y.packet_is; sender = y.sender; named = y.named; more = y.more })
            ];
          }

      among : (z : Port) × (slice_get (with_marks_ended n).ports p ≡ Some z) × ((z ≡ r) ⊎ ((p ≡ pr.0) × (on_truncated pr.1 u base (nth no_port (with_marks_ended n).ports pr.0) ≡ r))) → (q : Port) × (slice_get n.ports p ≡ Some q) × Took home a packet p q r
      among (z, there, inl same) = marked-took packet n p r (there ∙ ap {B = Option Port} Some same)
      among (z, there, inr (here, same)) =
          let k = marked-took packet n p z there in
          let is : nth no_port (with_marks_ended n).ports pr.0 ≡ z = nth-there (with_marks_ended n).ports pr.0 z (ap (λ (i : ℕ). slice_get (with_marks_ended n).ports i) (sym here) ∙ there) in
          let port : on_truncated pr.1 u base z ≡ r = ap (λ (q : Port). on_truncated pr.1 u base q) (sym is) ∙ same in
          (k.0, k.1, subst (λ (q : Port). Took home a packet p k.0 q) port (marks k.0 z k.2))

  pub still-took : (packet : Packet) (n : PlainNode) → n.recovering ≡ false → (packet_step home a packet n).after.recovering ≡ false → PortsTook home a packet n (packet_step home a packet n).after.ports
  unfolding packet_step
  still-took (Plain (message.Truncated u base)) n old new = truncation-took (Plain (message.Truncated u base)) u base (sender_at home.plan (streams_of home) a) n new
  still-took (Plain (message.Batch u index items)) n old new = packet-took home a (Plain (message.Batch u index items)) n old (λ v low p r is at. cc)
  still-took (Plain (message.Subscribe asked)) n old new = packet-took home a (Plain (message.Subscribe asked)) n old (λ v low p r is at. cc)
  still-took (Plain (message.Beat b)) n old new = packet-took home a (Plain (message.Beat b)) n old (λ v low p r is at. cc)
  still-took (Plain (message.Ack i c)) n old new = packet-took home a (Plain (message.Ack i c)) n old (λ v low p r is at. cc)
  still-took (Plain (message.Ask i c)) n old new = packet-took home a (Plain (message.Ask i c)) n old (λ v low p r is at. cc)
  still-took (Plain (message.Grant i c)) n old new = packet-took home a (Plain (message.Grant i c)) n old (λ v low p r is at. cc)
  still-took (Plain (message.SnapAsk i c)) n old new = packet-took home a (Plain (message.SnapAsk i c)) n old (λ v low p r is at. cc)
  still-took (SnapFor i try s) n old new = packet-took home a (SnapFor i try s) n old (λ v low p r is at. cc)
