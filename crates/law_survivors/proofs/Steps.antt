-- What an event makes of the ports of a node that stands whole, and what it and its senders send then.
use Rattle.std.proofs.Common.{◌≡◌, ℕ, ◌<◌, true, false, List, length, refl, sym, ap, subst, ◌∙◌, Option, Some, None, slice_get, ◌⊎◌, inl, inr}
use Rattle.dpc_lists.specs.Lists.{nth}
use Rattle.dpc_model.specs.Inlets.{InletState}
use Rattle.dpc_model.specs.Ports.{Port, without_ended_marks, port_after_tick, port_after_choice}
use Rattle.dpc_model.specs.Sessions.{no_session, is_newer_than_kept}
use Rattle.dpc_model.specs.declared.messages.Event.{Event}
use Rattle.dpc_model.specs.declared.messages.Event.TheVariants.{Deliver}
use Rattle.dpc_model.specs.declared.messages.Sess.{Sess}
use Rattle.dpc_model.specs.declared.messages.Subscribe.{Subscribe}
use Rattle.dpc_model.specs.declared.messages.Message.TheVariants as message
use Rattle.node_model.specs.Mails.{Packet, Plain, Mail, Stepped}
use Rattle.node_model.specs.Nodes.{Home, PlainNode, own_readers}
use Rattle.node_model.specs.NodeSteps.{packet_step, mill_step, tick_step}
use Rattle.world_model.specs.Worlds.{World, Envelope, Slot, slot_of, from, can_come}
use Rattle.dpc_lists.proofs.Somes.{some-same}
use Rattle.law_safety.proofs.Histories.{AreDistinct}
use Rattle.dpc_lists.proofs.Each.{Each}
use Rattle.node_model.proofs.Mailed.{mill-ports}
use Rattle.law_granting.specs.Taken.{node_port}
use Rattle.law_granting.proofs.Slots.{got-sent}
use Rattle.law_readers.proofs.Going.{TicksTo, chosen-ticks}
use Rattle.law_readers.proofs.Sessions.{AsksAs, AsksOf, delivered-reader, milled-reader, ticked-reader}
use Rattle.law_calm.proofs.Taking.{packet-took}
use Rattle.law_calm.proofs.Ticking.{ticked-ports, IsAckOf, AcksOf, Acks, packet-acks, ticked-acks, milled-acks}
use Rattle.law_calm.proofs.Refusing.{RefusesBy, IsRefused, RefusesTo, packet-refuses, milled-refuses, ticked-refuses}
use Rattle.law_calm.proofs.Steps.{port_at, Stays, Opens, PortWent}
use Rattle.law_survivors.specs.Spared.{StandsIn}
use Rattle.law_survivors.proofs.Doing.{HasStepped, ReplicaDoes, NoneHarms}

-- an envelope of a node is an old one, or was sent now
sent-now : (w next : World) (x : ℕ) (P : Mail → Type 0) (n : PlainNode) (t : Stepped PlainNode) (k : ℕ) (e : Envelope) → HasStepped w next x n t → Each P t.sends → slice_get next.envelopes k ≡ Some e →
    (slice_get w.envelopes k ≡ Some e) ⊎ ((m : Mail) × (e ≡ from x m) × P m)
sent-now w next x P n t k e s each there = got-sent P x w.envelopes t.sends k e each (sym (ap (λ (es : List Envelope). slice_get es k) s.sends) ∙ there)

-- ---- what a node asks

module _ (w next : World) (home : Home) (x : ℕ) (d : Event) where
  -- a subscription is of a port
  pub record AsksNow (to : ℕ) (asked : Subscribe) : Type 0 where
    pub node : PlainNode
    pub after : PlainNode
    pub up : (slot_of w x).node ≡ Some node
    pub now : (slot_of next x).node ≡ Some after
    pub asks : AsksAs home node.ports after.ports to asked

  asks-of : (n : PlainNode) (t : Stepped PlainNode) (k : ℕ) (e : Envelope) (asked : Subscribe) → HasStepped w next x n t → Each (λ (m : Mail). AsksOf home n.ports t.after.ports m.to m.packet) t.sends → slice_get next.envelopes k ≡ Some e →
      e.packet ≡ Plain (message.Subscribe asked) → (slice_get w.envelopes k ≡ Some e) ⊎ AsksNow e.to asked
  asks-of n t k e asked s each there packet =
      elim (sent-now w next x (λ (m : Mail). AsksOf home n.ports t.after.ports m.to m.packet) n t k e s each there) [
        | inl old ↦ inl old
        | inr (m, of, asks) ↦ inr (record {
          node = n;
          after = t.after;
          up = s.up;
          now = s.now;
          asks = subst (λ (z : Packet). AsksOf home n.ports t.after.ports e.to z) packet (subst (λ (z : Envelope). AsksOf home n.ports t.after.ports z.to z.packet) (sym of) asks);
        })
      ]

  pub asks-new : ReplicaDoes w home x d next → (k : ℕ) (e : Envelope) (asked : Subscribe) → slice_get next.envelopes k ≡ Some e → e.sender ≡ x → e.packet ≡ Plain (message.Subscribe asked) → (slice_get w.envelopes k ≡ Some e) ⊎ AsksNow e.to asked
  asks-new (ReplicaDoes.Rests slot sends) k e asked there mine packet = inl (sends k e there mine)
  asks-new (ReplicaDoes.Falls crash down last sends) k e asked there mine packet = inl (sends k e there mine)
  asks-new (ReplicaDoes.Starts i newer down now last sends) k e asked there mine packet = inl (sends k e there mine)
  asks-new (ReplicaDoes.Takes j f n event at can to s) k e asked there mine packet = asks-of n (packet_step home f.sender f.packet n) k e asked s (delivered-reader home f.sender f.packet n).asks there packet
  asks-new (ReplicaDoes.Ticks now n event s) k e asked there mine packet = asks-of n (tick_step home now n) k e asked s (ticked-reader home now n).asks there packet
  asks-new (ReplicaDoes.Mills m n s) k e asked there mine packet = asks-of n (mill_step home m n) k e asked s (milled-reader home m n).asks there packet

-- ---- a node that stands whole

module _ {incarnation : ℕ} (w next : World) (home : Home) (x : ℕ) (d : Event) (h : StandsIn incarnation w x) (harmless : NoneHarms w home x) where
  up-whole : (n : PlainNode) → (slot_of w x).node ≡ Some n → n.recovering ≡ false
  up-whole n up = subst (λ (z : PlainNode). z.recovering ≡ false) (some-same h.node n (sym h.up ∙ up)) h.whole

  stepped-port : (n : PlainNode) (t : Stepped PlainNode) (p : ℕ) (r : Port) → HasStepped w next x n t → port_at next x p ≡ Some r → slice_get t.after.ports p ≡ Some r
  stepped-port n t p r s e = sym (ap (λ (o : Option PlainNode). node_port p o) s.now) ∙ e

  stepped-was : (n : PlainNode) (t : Stepped PlainNode) (p : ℕ) (q : Port) → HasStepped w next x n t → slice_get n.ports p ≡ Some q → port_at w x p ≡ Some q
  stepped-was n t p q s e = ap (λ (o : Option PlainNode). node_port p o) s.up ∙ e

  rests-went : (p : ℕ) (q : Port) → Stays w home x p q q
  rests-went p q = record { sess = refl; chosen = refl; held = inl refl }

  ticks-went : (p : ℕ) (q : Port) → Stays w home x p q (port_after_choice (port_after_tick (without_ended_marks q))) ⊎ Opens q (port_after_choice (port_after_tick (without_ended_marks q)))
  ticks-went p q = by-ticks (chosen-ticks (port_after_tick (without_ended_marks q)))
    where
      by-ticks : TicksTo (port_after_tick (without_ended_marks q)) (port_after_choice (port_after_tick (without_ended_marks q))) → Stays w home x p q (port_after_choice (port_after_tick (without_ended_marks q))) ⊎ Opens q (port_after_choice (port_after_tick (without_ended_marks q)))
      by-ticks (inl (inlet, chosen)) = inl (record { sess = ap (λ (z : InletState). z.sess) inlet; chosen = chosen; held = inl (ap (λ (z : InletState). z.held) inlet) })
      by-ticks (inr inlet) = inr (record { inlet = inlet; chosen = refl })

  pub port-went : ReplicaDoes w home x d next → (p : ℕ) (r : Port) → port_at next x p ≡ Some r → PortWent w next home x p r
  port-went (ReplicaDoes.Rests slot sends) p r e = (r, sym (ap (λ (z : Slot). node_port p z.node) slot) ∙ e, inl (rests-went p r))
  port-went (ReplicaDoes.Falls crash down last sends) p r e = let clash : ◌≡◌ {A = Option Port} None (Some r) = sym (ap (λ (o : Option PlainNode). node_port p o) down) ∙ e in cc
  port-went (ReplicaDoes.Starts i newer down now last sends) p r e = let clash : ◌≡◌ {A = Option PlainNode} None (Some h.node) = sym down ∙ h.up in cc
  port-went (ReplicaDoes.Takes k f n event there can to s) p r e =
      let k_took = packet-took home f.sender f.packet n (up-whole n s.up) (harmless k f n there to s.up) p r (stepped-port n (packet_step home f.sender f.packet n) p r s e) in
      let took = k_took.2 in (
        k_took.0,
        stepped-was n (packet_step home f.sender f.packet n) p k_took.0 s k_took.1,
        inl (record {
          sess = took.sess;
          chosen = took.chosen;
          held = elim took.held [ inl same ↦ inl same | inr batch ↦ inr (record { place = k; envelope = f; there = there; to = to; took = batch }) ];
        }),
      )
  port-went (ReplicaDoes.Ticks now n event s) p r e =
      let t = ticked-ports home now n p r (up-whole n s.up) (stepped-port n (tick_step home now n) p r s e) in
      (t.0, stepped-was n (tick_step home now n) p t.0 s t.1, subst (λ (z : Port). Stays w home x p t.0 z ⊎ Opens t.0 z) (sym t.2) (ticks-went p t.0))
  port-went (ReplicaDoes.Mills m n s) p r e =
      let at = stepped-port n (mill_step home m n) p r s e in
      (r, stepped-was n (mill_step home m n) p r s (sym (ap (λ (ps : List Port). slice_get ps p) (mill-ports home m n)) ∙ at), inl (rests-went p r))

  -- an acknowledgement is of a port of the node after the event
  pub record AcksNow (to count : ℕ) : Type 0 where
    pub after : PlainNode
    pub now : (slot_of next x).node ≡ Some after
    pub acks : IsAckOf home after to count

  acks-of : (n : PlainNode) (t : Stepped PlainNode) (k i count : ℕ) (e : Envelope) → HasStepped w next x n t → Each (Acks home t.after) t.sends → slice_get next.envelopes k ≡ Some e → e.packet ≡ Plain (message.Ack i count) → (slice_get w.envelopes k ≡ Some e) ⊎ AcksNow e.to count
  acks-of n t k i count e s each there packet =
      elim (sent-now w next x (Acks home t.after) n t k e s each there) [
        | inl old ↦ inl old
        | inr (m, of, acks) ↦ inr (record { after = t.after; now = s.now; acks = subst (λ (z : Packet). AcksOf home t.after e.to z) packet (subst (λ (z : Envelope). AcksOf home t.after z.to z.packet) (sym of) acks) })
      ]

  pub acks-new : ReplicaDoes w home x d next → (k i count : ℕ) (e : Envelope) → slice_get next.envelopes k ≡ Some e → e.sender ≡ x → e.packet ≡ Plain (message.Ack i count) → (slice_get w.envelopes k ≡ Some e) ⊎ AcksNow e.to count
  acks-new (ReplicaDoes.Rests slot sends) k i count e there mine packet = inl (sends k e there mine)
  acks-new (ReplicaDoes.Falls crash down last sends) k i count e there mine packet = inl (sends k e there mine)
  acks-new (ReplicaDoes.Starts j newer down now last sends) k i count e there mine packet = inl (sends k e there mine)
  acks-new (ReplicaDoes.Takes j f n event at can to s) k i count e there mine packet = acks-of n (packet_step home f.sender f.packet n) k i count e s (packet-acks home _ f.sender f.packet n) there packet
  acks-new (ReplicaDoes.Ticks now n event s) k i count e there mine packet = acks-of n (tick_step home now n) k i count e s (ticked-acks home now n (up-whole n s.up)) there packet
  acks-new (ReplicaDoes.Mills m n s) k i count e there mine packet = acks-of n (mill_step home m n) k i count e s (milled-acks home _ m n) there packet

-- ---- a sender, whatever becomes of it

-- a truncation answers a subscription that the reader y, which has place c, sent to a, and that comes by this event
pub record RefusesNow (w : World) (a : ℕ) (d : Event) (y c : ℕ) (u : Sess) : Type 0 where
  pub node : PlainNode
  pub up : (slot_of w a).node ≡ Some node
  pub place : ℕ
  pub envelope : Envelope
  pub event : d ≡ Deliver place
  pub there : slice_get w.envelopes place ≡ Some envelope
  pub can : can_come w envelope ≡ true
  pub reader : envelope.sender ≡ y
  pub to : envelope.to ≡ a
  pub asked : Subscribe
  pub packet : envelope.packet ≡ Plain (message.Subscribe asked)
  pub newer : is_newer_than_kept asked.sess (nth no_session node.subs c).kept ≡ true
  pub below : asked.n < node.base
  pub session : asked.sess ≡ u

module _ (w next : World) (home : Home) (a : ℕ) (d : Event) (y c : ℕ) (distinct : AreDistinct (own_readers home)) (low : c < length (own_readers home)) (it : nth 0 (own_readers home) c ≡ y) where
  refuses-of : (A : Subscribe → Type 0) (n : PlainNode) (t : Stepped PlainNode) (k base : ℕ) (e : Envelope) (u : Sess) → HasStepped w next a n t → Each (RefusesTo y A) t.sends → slice_get next.envelopes k ≡ Some e → e.to ≡ y →
      e.packet ≡ Plain (message.Truncated u base) → (slice_get w.envelopes k ≡ Some e) ⊎ ((asked : Subscribe) × A asked × (asked.sess ≡ u))
  refuses-of A n t k base e u s each there to packet =
      elim (sent-now w next a (RefusesTo y A) n t k e s each there) [
        | inl old ↦ inl old
        | inr (m, of, refuses) ↦ inr (subst (λ (z : Packet). RefusesBy A z) (sym (ap (λ (z : Envelope). z.packet) of) ∙ packet) (refuses (sym (ap (λ (z : Envelope). z.to) of) ∙ to)))
      ]

  none-so : (k : ℕ) (e : Envelope) (u : Sess) → (slice_get w.envelopes k ≡ Some e) ⊎ ((asked : Subscribe) × ⊥ × (asked.sess ≡ u)) → (slice_get w.envelopes k ≡ Some e) ⊎ RefusesNow w a d y c u
  none-so k e u (inl old) = inl old
  none-so k e u (inr (asked, never, same)) = absurd never

  pub refuses-new : ReplicaDoes w home a d next → (k base : ℕ) (e : Envelope) (u : Sess) → slice_get next.envelopes k ≡ Some e → e.sender ≡ a → e.to ≡ y → e.packet ≡ Plain (message.Truncated u base) → (slice_get w.envelopes k ≡ Some e) ⊎ RefusesNow w a d y c u
  refuses-new (ReplicaDoes.Rests slot sends) k base e u there mine to packet = inl (sends k e there mine)
  refuses-new (ReplicaDoes.Falls crash down last sends) k base e u there mine to packet = inl (sends k e there mine)
  refuses-new (ReplicaDoes.Starts i newer down now last sends) k base e u there mine to packet = inl (sends k e there mine)
  refuses-new (ReplicaDoes.Takes j f n event at can to_a s) k base e u there mine to packet =
      elim (refuses-of (IsRefused y c f.sender f.packet n) n (packet_step home f.sender f.packet n) k base e u s (packet-refuses home y c distinct low it f.sender f.packet n) there to packet) [
        | inl old ↦ inl old
        | inr (asked, r, same) ↦
            inr (record { node = n; up = s.up; place = j; envelope = f; event = event; there = at; can = can; reader = r.reader; to = to_a; asked = asked; packet = r.packet_is; newer = r.newer; below = r.below; session = same })
      ]
  refuses-new (ReplicaDoes.Ticks now n event s) k base e u there mine to packet = none-so k e u (refuses-of (λ asked. ⊥) n (tick_step home now n) k base e u s (ticked-refuses home y (λ asked. ⊥) now n) there to packet)
  refuses-new (ReplicaDoes.Mills m n s) k base e u there mine to packet = none-so k e u (refuses-of (λ asked. ⊥) n (mill_step home m n) k base e u s (milled-refuses home y (λ asked. ⊥) m n) there to packet)
