-- What an event that crashes nobody makes of the ports of a node in a calm world, and what the node sends then.
use Rattle.std.proofs.Common.{◌≡◌, ℕ, ◌<◌, ◌≤◌, true, List, length, refl, sym, ap, subst, ◌∙◌, Option, Some, slice_get, ◌⊎◌, inl, inr, arith}
use Rattle.dpc_lists.specs.Lists.{nth}
use Rattle.dpc_model.specs.Inlets.{InletState, with_next_session}
use Rattle.dpc_model.specs.Actors.{role_of}
use Rattle.dpc_model.specs.declared.actors.Role.TheVariants.{Node as IsNode}
use Rattle.dpc_model.specs.Ports.{Port, without_ended_marks, port_after_tick, choice_at, port_after_choice}
use Rattle.dpc_model.specs.Sessions.{no_session, is_newer_than_kept}
use Rattle.dpc_model.specs.declared.messages.Sess.{Sess}
use Rattle.dpc_model.specs.declared.messages.Subscribe.{Subscribe}
use Rattle.dpc_model.specs.declared.messages.Message.TheVariants as message
use Rattle.node_model.specs.Mails.{Packet, Plain, Mail, Stepped}
use Rattle.node_model.specs.Nodes.{Home, PlainNode, own_readers}
use Rattle.node_model.specs.NodeSteps.{packet_step, mill_step, tick_step}
use Rattle.world_model.specs.Worlds.{World, Envelope, home_of, slot_of, from}
use Rattle.law_safety.proofs.Histories.{AreDistinct}
use Rattle.law_safety.proofs.Happening.{IsFine}
use Rattle.dpc_lists.proofs.Each.{Each}
use Rattle.node_model.proofs.Mailed.{mill-ports}
use Rattle.law_granting.specs.Taken.{node_port}
use Rattle.law_granting.proofs.Slots.{got-sent}
use Rattle.law_readers.proofs.Going.{TicksTo, chosen-ticks}
use Rattle.law_readers.proofs.Sessions.{AsksAs, AsksOf, delivered-reader, milled-reader, ticked-reader}
use Rattle.law_calm.proofs.Taking.{TakesBatch, packet-took}
use Rattle.law_calm.proofs.Ticking.{ticked-ports, IsAckOf, AcksOf, Acks, packet-acks, ticked-acks, milled-acks}
use Rattle.law_calm.proofs.Refusing.{RefusesBy, IsRefused, RefusesTo, packet-refuses, milled-refuses, ticked-refuses}
use Rattle.law_calm.proofs.Doing.{AreCalmSlots, up-calm, NoneHarms, HasStepped, NodeDoes}

-- a port of a node that is up
abbrev pub port_at : World → ℕ → ℕ → Option Port
port_at w x p = node_port p (slot_of w x).node

-- a batch of the port's session came from the replica that it reads
pub record Came (w : World) (home : Home) (x p : ℕ) (q r : Port) : Type 0 where
  pub place : ℕ
  pub envelope : Envelope
  pub there : slice_get w.envelopes place ≡ Some envelope
  pub to : envelope.to ≡ x
  pub took : TakesBatch home envelope.sender envelope.packet p q r

-- the session stays
pub record Stays (w : World) (home : Home) (x p : ℕ) (q r : Port) : Type 0 where
  pub sess : r.inlet.sess ≡ q.inlet.sess
  pub chosen : r.chosen ≡ q.chosen
  pub held : (r.inlet.held ≡ q.inlet.held) ⊎ Came w home x p q r

-- the next session is asked for
pub record Opens (q r : Port) : Type 0 where
  pub inlet : r.inlet ≡ with_next_session q.inlet
  pub chosen : r.chosen ≡ choice_at (port_after_tick (without_ended_marks q))

abbrev pub PortWent : World → World → Home → ℕ → ℕ → Port → Type 0
PortWent w next home x p r = (q : Port) × (port_at w x p ≡ Some q) × (Stays w home x p q r ⊎ Opens q r)

-- in neither case does the port hold less
pub went-longer : (w : World) (home : Home) (x p : ℕ) (q r : Port) → Stays w home x p q r ⊎ Opens q r → length q.inlet.held.stable ≤ length r.inlet.held.stable
went-longer w home x p q r (inl s) =
    elim s.held [
      | inl same ↦ subst (λ (z : _). length q.inlet.held.stable ≤ length z.stable) (sym same) (le-self (length q.inlet.held.stable))
      | inr came ↦ came.took.more
    ]
  where
    le-self : (n : ℕ) → n ≤ n
    le-self n = omega arith
went-longer w home x p q r (inr o) = subst (λ (z : InletState). length q.inlet.held.stable ≤ length z.held.stable) (sym o.inlet) (le-self (length q.inlet.held.stable))
  where
    le-self : (n : ℕ) → n ≤ n
    le-self n = omega arith

module _ (w next : World) (home : Home) (x : ℕ) where
  -- the port of a node that stepped
  stepped-port : (n : PlainNode) (t : Stepped PlainNode) (p : ℕ) (r : Port) → HasStepped w next x n t → port_at next x p ≡ Some r → slice_get t.after.ports p ≡ Some r
  stepped-port n t p r s e = sym (ap (λ (o : Option PlainNode). node_port p o) s.now) ∙ e

  stepped-was : (n : PlainNode) (t : Stepped PlainNode) (p : ℕ) (q : Port) → HasStepped w next x n t → slice_get n.ports p ≡ Some q → port_at w x p ≡ Some q
  stepped-was n t p q s e = ap (λ (o : Option PlainNode). node_port p o) s.up ∙ e

  rests-went : (p : ℕ) (q r : Port) → r ≡ q → Stays w home x p q r
  rests-went p q r same = record { sess = ap (λ (z : Port). z.inlet.sess) same; chosen = ap (λ (z : Port). z.chosen) same; held = inl (ap (λ (z : Port). z.inlet.held) same) }

  ticks-went : (p : ℕ) (q : Port) → Stays w home x p q (port_after_choice (port_after_tick (without_ended_marks q))) ⊎ Opens q (port_after_choice (port_after_tick (without_ended_marks q)))
  ticks-went p q = by-ticks (chosen-ticks (port_after_tick (without_ended_marks q)))
    where
      by-ticks : TicksTo (port_after_tick (without_ended_marks q)) (port_after_choice (port_after_tick (without_ended_marks q))) → Stays w home x p q (port_after_choice (port_after_tick (without_ended_marks q))) ⊎ Opens q (port_after_choice (port_after_tick (without_ended_marks q)))
      by-ticks (inl (inlet, chosen)) = inl (record { sess = ap (λ (z : InletState). z.sess) inlet; chosen = chosen; held = inl (ap (λ (z : InletState). z.held) inlet) })
      by-ticks (inr inlet) = inr (record { inlet = inlet; chosen = refl })

-- ---- a port

module _ (w next : World) (most : ℕ) (fine : IsFine w most) (calm : AreCalmSlots w.nodes) (harmless : NoneHarms w) (x g b : ℕ) (role : role_of w.plan x ≡ IsNode g b) where
  abbrev Here : Home
  Here = home_of w.plan (g, b)

  pub port-went : NodeDoes w Here x next → (p : ℕ) (r : Port) → port_at next x p ≡ Some r → PortWent w next Here x p r
  port-went (NodeDoes.Rests slot sends) p r e = (r, sym (ap (λ z. node_port p z.node) slot) ∙ e, inl (rests-went w next Here x p r r refl))
  port-went (NodeDoes.Takes k f n there to s) p r e =
      let whole = up-calm w most x g b n fine calm role s.up in
      let safe = harmless k g b f n there (ap (λ (z : ℕ). role_of w.plan z) to ∙ role) (ap (λ (z : ℕ). (slot_of w z).node) to ∙ s.up) in
      let k_took = packet-took Here f.sender f.packet n whole safe p r (stepped-port w next Here x n (packet_step Here f.sender f.packet n) p r s e) in
      let took = k_took.2 in (
        k_took.0,
        stepped-was w next Here x n (packet_step Here f.sender f.packet n) p k_took.0 s k_took.1,
        inl (record {
          sess = took.sess;
          chosen = took.chosen;
          held = elim took.held [ inl same ↦ inl same | inr batch ↦ inr (record { place = k; envelope = f; there = there; to = to; took = batch }) ];
        }),
      )
  port-went (NodeDoes.Ticks now n s) p r e =
      let whole = up-calm w most x g b n fine calm role s.up in
      let t = ticked-ports Here now n p r whole (stepped-port w next Here x n (tick_step Here now n) p r s e) in
      (t.0, stepped-was w next Here x n (tick_step Here now n) p t.0 s t.1, subst (λ (z : Port). Stays w Here x p t.0 z ⊎ Opens t.0 z) (sym t.2) (ticks-went w next Here x p t.0))
  port-went (NodeDoes.Mills m n s) p r e =
      let at = stepped-port w next Here x n (mill_step Here m n) p r s e in
      (r, stepped-was w next Here x n (mill_step Here m n) p r s (sym (ap (λ (ps : List Port). slice_get ps p) (mill-ports Here m n)) ∙ at), inl (rests-went w next Here x p r r refl))

  -- ---- what it sends

  -- an envelope of the node is an old one, or was sent now
  sent-now : (P : Mail → Type 0) (n : PlainNode) (t : Stepped PlainNode) (k : ℕ) (e : Envelope) → HasStepped w next x n t → Each P t.sends → slice_get next.envelopes k ≡ Some e → (slice_get w.envelopes k ≡ Some e) ⊎ ((m : Mail) × (e ≡ from x m) × P m)
  sent-now P n t k e s each there = got-sent P x w.envelopes t.sends k e each (sym (ap (λ (es : List Envelope). slice_get es k) s.sends) ∙ there)

  -- a subscription is of a port
  pub record AsksNow (to : ℕ) (asked : Subscribe) : Type 0 where
    pub node : PlainNode
    pub after : PlainNode
    pub up : (slot_of w x).node ≡ Some node
    pub now : (slot_of next x).node ≡ Some after
    pub asks : AsksAs Here node.ports after.ports to asked

  asks-of : (n : PlainNode) (t : Stepped PlainNode) (k : ℕ) (e : Envelope) (asked : Subscribe) → HasStepped w next x n t → Each (λ (m : Mail). AsksOf Here n.ports t.after.ports m.to m.packet) t.sends → slice_get next.envelopes k ≡ Some e →
      e.packet ≡ Plain (message.Subscribe asked) → (slice_get w.envelopes k ≡ Some e) ⊎ AsksNow e.to asked
  asks-of n t k e asked s each there packet =
      elim (sent-now (λ (m : Mail). AsksOf Here n.ports t.after.ports m.to m.packet) n t k e s each there) [
        | inl old ↦ inl old
        | inr (m, of, asks) ↦ inr (record {
          node = n;
          after = t.after;
          up = s.up;
          now = s.now;
          asks = subst (λ (z : Packet). AsksOf Here n.ports t.after.ports e.to z) packet (subst (λ (z : Envelope). AsksOf Here n.ports t.after.ports z.to z.packet) (sym of) asks);
        })
      ]

  pub asks-new : NodeDoes w Here x next → (k : ℕ) (e : Envelope) (asked : Subscribe) → slice_get next.envelopes k ≡ Some e → e.sender ≡ x → e.packet ≡ Plain (message.Subscribe asked) → (slice_get w.envelopes k ≡ Some e) ⊎ AsksNow e.to asked
  asks-new (NodeDoes.Rests slot sends) k e asked there mine packet = inl (sends k e there mine)
  asks-new (NodeDoes.Takes j f n at to s) k e asked there mine packet = asks-of n (packet_step Here f.sender f.packet n) k e asked s (delivered-reader Here f.sender f.packet n).asks there packet
  asks-new (NodeDoes.Ticks now n s) k e asked there mine packet = asks-of n (tick_step Here now n) k e asked s (ticked-reader Here now n).asks there packet
  asks-new (NodeDoes.Mills m n s) k e asked there mine packet = asks-of n (mill_step Here m n) k e asked s (milled-reader Here m n).asks there packet

  -- an acknowledgement is of a port of the node after the event
  pub record AcksNow (to count : ℕ) : Type 0 where
    pub after : PlainNode
    pub now : (slot_of next x).node ≡ Some after
    pub acks : IsAckOf Here after to count

  acks-of : (n : PlainNode) (t : Stepped PlainNode) (k i count : ℕ) (e : Envelope) → HasStepped w next x n t → Each (Acks Here t.after) t.sends → slice_get next.envelopes k ≡ Some e → e.packet ≡ Plain (message.Ack i count) → (slice_get w.envelopes k ≡ Some e) ⊎ AcksNow e.to count
  acks-of n t k i count e s each there packet =
      elim (sent-now (Acks Here t.after) n t k e s each there) [
        | inl old ↦ inl old
        | inr (m, of, acks) ↦ inr (record { after = t.after; now = s.now; acks = subst (λ (z : Packet). AcksOf Here t.after e.to z) packet (subst (λ (z : Envelope). AcksOf Here t.after z.to z.packet) (sym of) acks) })
      ]

  pub acks-new : NodeDoes w Here x next → (k i count : ℕ) (e : Envelope) → slice_get next.envelopes k ≡ Some e → e.sender ≡ x → e.packet ≡ Plain (message.Ack i count) → (slice_get w.envelopes k ≡ Some e) ⊎ AcksNow e.to count
  acks-new (NodeDoes.Rests slot sends) k i count e there mine packet = inl (sends k e there mine)
  acks-new (NodeDoes.Takes j f n at to s) k i count e there mine packet = acks-of n (packet_step Here f.sender f.packet n) k i count e s (packet-acks Here _ f.sender f.packet n) there packet
  acks-new (NodeDoes.Ticks now n s) k i count e there mine packet = acks-of n (tick_step Here now n) k i count e s (ticked-acks Here now n (up-calm w most x g b n fine calm role s.up)) there packet
  acks-new (NodeDoes.Mills m n s) k i count e there mine packet = acks-of n (mill_step Here m n) k i count e s (milled-acks Here _ m n) there packet

  -- a truncation answers a subscription of its reader, which is y and has place d
  pub record RefusesNow (y d : ℕ) (u : Sess) : Type 0 where
    pub node : PlainNode
    pub up : (slot_of w x).node ≡ Some node
    pub place : ℕ
    pub envelope : Envelope
    pub there : slice_get w.envelopes place ≡ Some envelope
    pub reader : envelope.sender ≡ y
    pub to : envelope.to ≡ x
    pub asked : Subscribe
    pub packet : envelope.packet ≡ Plain (message.Subscribe asked)
    pub newer : is_newer_than_kept asked.sess (nth no_session node.subs d).kept ≡ true
    pub below : asked.n < node.base
    pub session : asked.sess ≡ u

  module _ (y d : ℕ) (distinct : AreDistinct (own_readers Here)) (low : d < length (own_readers Here)) (it : nth 0 (own_readers Here) d ≡ y) where
    refuses-of : (A : Subscribe → Type 0) (n : PlainNode) (t : Stepped PlainNode) (k base : ℕ) (e : Envelope) (u : Sess) → HasStepped w next x n t → Each (RefusesTo y A) t.sends → slice_get next.envelopes k ≡ Some e → e.to ≡ y →
        e.packet ≡ Plain (message.Truncated u base) → (slice_get w.envelopes k ≡ Some e) ⊎ ((asked : Subscribe) × A asked × (asked.sess ≡ u))
    refuses-of A n t k base e u s each there to packet =
        elim (sent-now (RefusesTo y A) n t k e s each there) [
          | inl old ↦ inl old
          | inr (m, of, refuses) ↦ inr (subst (λ (z : Packet). RefusesBy A z) (sym (ap (λ (z : Envelope). z.packet) of) ∙ packet) (refuses (sym (ap (λ (z : Envelope). z.to) of) ∙ to)))
        ]

    none-so : (k : ℕ) (e : Envelope) (u : Sess) → (slice_get w.envelopes k ≡ Some e) ⊎ ((asked : Subscribe) × ⊥ × (asked.sess ≡ u)) → (slice_get w.envelopes k ≡ Some e) ⊎ RefusesNow y d u
    none-so k e u (inl old) = inl old
    none-so k e u (inr (asked, never, same)) = absurd never

    pub refuses-new : NodeDoes w Here x next → (k base : ℕ) (e : Envelope) (u : Sess) → slice_get next.envelopes k ≡ Some e → e.sender ≡ x → e.to ≡ y → e.packet ≡ Plain (message.Truncated u base) → (slice_get w.envelopes k ≡ Some e) ⊎ RefusesNow y d u
    refuses-new (NodeDoes.Rests slot sends) k base e u there mine to packet = inl (sends k e there mine)
    refuses-new (NodeDoes.Takes j f n at to_x s) k base e u there mine to packet =
        elim (refuses-of (IsRefused y d f.sender f.packet n) n (packet_step Here f.sender f.packet n) k base e u s (packet-refuses Here y d distinct low it f.sender f.packet n) there to packet) [
          | inl old ↦ inl old
          | inr (asked, r, same) ↦ inr (record { node = n; up = s.up; place = j; envelope = f; there = at; reader = r.reader; to = to_x; asked = asked; packet = r.packet_is; newer = r.newer; below = r.below; session = same })
        ]
    refuses-new (NodeDoes.Ticks now n s) k base e u there mine to packet = none-so k e u (refuses-of (λ asked. ⊥) n (tick_step Here now n) k base e u s (ticked-refuses Here y (λ asked. ⊥) now n) there to packet)
    refuses-new (NodeDoes.Mills m n s) k base e u there mine to packet = none-so k e u (refuses-of (λ asked. ⊥) n (mill_step Here m n) k base e u s (milled-refuses Here y (λ asked. ⊥) m n) there to packet)
