-- What a replica acknowledged since its last start another one, which stands whole, has processed, as long as the first one recovers.
use Rattle.std.proofs.Common.{◌≡◌, ℕ, ◌+◌, ◌*◌, ◌<◌, ◌≤◌, max, Bool, true, false, List, length, refl, sym, ap, subst, ◌∙◌, arith, Option, Some, None, slice_get, ◌⊎◌, inl, inr}
use Rattle.dpc_lists.specs.Lists.{nth}
use Rattle.dpc_model.specs.Fragments.{ideal_upto}
use Rattle.dpc_model.specs.Inlets.{InletState, same_sess}
use Rattle.dpc_model.specs.Actors.{role_of, inputs_of, sends_stream}
use Rattle.dpc_model.specs.Ports.{Port, no_port, without_ended_marks, port_after_tick, port_after_choice}
use Rattle.dpc_model.specs.declared.actors.Role.{Role}
use Rattle.dpc_model.specs.declared.actors.Role.TheVariants.{Source as IsSource, Node as IsNode, Client as IsClient, Nobody}
use Rattle.dpc_model.specs.declared.messages.Event.{Event}
use Rattle.dpc_model.specs.declared.messages.Sess.{Sess}
use Rattle.dpc_model.specs.declared.messages.Subscribe.{Subscribe}
use Rattle.dpc_model.specs.declared.messages.Message.TheVariants as message
use Rattle.dpc_model.specs.declared.plans.Plan.{Plan}
use Rattle.dpc_model.specs.declared.plans.StreamRef.{StreamRef}
use Rattle.dpc_model.specs.declared.plans.StreamRef.TheVariants.{Source, Frag}
use Rattle.dpc_model.proofs.Numbers.{le-or, times-le}
use Rattle.dpc_model.proofs.Subs.{nth-there}
use Rattle.dpc_lists.proofs.Elements.{get-first}
use Rattle.dpc_lists.proofs.Truths.{eq-of, lt-of}
use Rattle.dpc_lists.proofs.Somes.{some-same}
use Rattle.dpc_lists.proofs.Each.{Each}
use Rattle.node_model.specs.Mails.{Packet, Plain, Mail, Stepped}
use Rattle.node_model.specs.Nodes.{Home, PlainNode, streams_of, restarted_node}
use Rattle.node_model.specs.NodeSteps.{packet_step, mill_step, tick_step}
use Rattle.node_model.proofs.Mailed.{mill-ports}
use Rattle.world_model.specs.Worlds.{World, Envelope, Slot, home_of, slot_of, happens, from}
use Rattle.law_safety.proofs.Distinct.{readers-distinct}
use Rattle.law_safety.proofs.Frames.{IsGood}
use Rattle.law_safety.proofs.Milling.{upto_le}
use Rattle.law_safety.proofs.Senders.{sender_sends}
use Rattle.law_safety.proofs.Pointwise.{sender-of, port-at}
use Rattle.law_safety.proofs.Numbering.{home-inputs}
use Rattle.law_safety.proofs.Growing.{event-grows}
use Rattle.law_safety.proofs.Happening.{IsFine, happens-next, node-here}
use Rattle.law_granting.specs.Taken.{node_port}
use Rattle.law_granting.proofs.Slots.{got-sent}
use Rattle.law_granting.proofs.Saying.{own-delivered, own-milled, own-ticked}
use Rattle.law_granting.proofs.Prefix.{IsReader}
use Rattle.law_readers.specs.Newest.{IsPortOf, KnowsNoNewer}
use Rattle.law_readers.specs.Sure.{SourcesSendSurely, SendsSurely}
use Rattle.law_readers.proofs.Known.{sends-one}
use Rattle.law_readers.proofs.Going.{TicksTo, chosen-ticks}
use Rattle.law_calm.proofs.Whole.{milled-whole, ticked-whole}
use Rattle.law_calm.proofs.Ticking.{AcksOf, Acks, packet-acks, milled-acks}
use Rattle.law_calm.proofs.Steps.{port_at, Stays, Opens}
use Rattle.law_calm.proofs.Kept.{WasAnswered, done-few}
use Rattle.law_survivors.specs.Spared.{StandsWhole}
use Rattle.law_survivors.proofs.Doing.{HasStepped, SendsNone, ReplicaDoes, replica-does}
use Rattle.law_survivors.proofs.Steps.{RefusesNow, refuses-new}
use Rattle.law_survivors.proofs.Asking.{not-itself, IsAskedAt, asked-next}
use Rattle.law_survivors.proofs.Levels.{IsLevel}
use Rattle.law_survivors.proofs.Cursors.{cursor-grows}
use Rattle.law_survivors.proofs.Done.{acked-is}
use Rattle.law_survivors.proofs.Peers.{SaysOf, SaysMail, packet-says, milled-says, ticked-says}
use Rattle.law_survivors.proofs.Broken.{AreBroken, packet-broken, restarted-broken, IsLost, is-lost, loss-broken, OfNone, MailOfNone, StillRecovers, GoesOn, tick-splits, broken-opens}
use Rattle.law_survivors.proofs.Taken.{still-took}

-- how many tuples of a fragment lie below a cursor
abbrev pub done_upto : Plan → ℕ → ℕ → ℕ
done_upto plan f c = length (ideal_upto plan (Frag f) (c * plan.width))

-- each port of a was asked for so
abbrev pub AllAsked : Plan → ℕ → World → Type 0
AllAsked plan a w = (p f : ℕ) (q : Port) → IsPortOf plan a p (Frag f) → port_at w a p ≡ Some q → IsAskedAt plan a f w q

-- how a node stands: it lost what it held and asked for nothing since, and c lies no further than s; or it goes on, and c lies no further than s or its cursor
abbrev pub Standing : Plan → ℕ → World → ℕ → ℕ → PlainNode → Type 0
Standing plan a w c s m = (AreBroken m.ports × (c ≤ s)) ⊎ ((m.recovering ≡ false) × AllAsked plan a w × ((c ≤ s) ⊎ (c ≤ m.cursor)))

-- up to the bucket c at most it acknowledged in its present incarnation
pub record IsBehind (plan : Plan) (a s : ℕ) (w : World) : Type 0 where
  pub top : ℕ
  pub acked : (k i count p f : ℕ) (e : Envelope) (m : PlainNode) → (slot_of w a).node ≡ Some m → i ≡ m.grants.inc → IsPortOf plan a p (Frag f) → slice_get w.envelopes k ≡ Some e → e.sender ≡ a → sends_stream (Frag f) (role_of plan e.to) ≡ true →
      e.packet ≡ Plain (message.Ack i count) → count ≤ done_upto plan f top
  pub state : (m : PlainNode) → (slot_of w a).node ≡ Some m → Standing plan a w top s m
  -- none of its acknowledgements is of a later incarnation than its last
  pub incs : (k i count : ℕ) (e : Envelope) → slice_get w.envelopes k ≡ Some e → e.sender ≡ a → e.packet ≡ Plain (message.Ack i count) → i ≤ (slot_of w a).last_inc

-- a refusal answers a subscription that lies below what s has done
pub record IsRefusedBelow (plan : Plan) (a f s : ℕ) (w : World) (u : Sess) (to : ℕ) : Type 0 where
  pub place : ℕ
  pub envelope : Envelope
  pub asked : Subscribe
  pub there : slice_get w.envelopes place ≡ Some envelope
  pub reader : envelope.sender ≡ a
  pub sent_to : envelope.to ≡ to
  pub packet : envelope.packet ≡ Plain (message.Subscribe asked)
  pub session : asked.sess ≡ u
  pub below : asked.n < done_upto plan f s

abbrev pub AreRefusedBelow : Plan → ℕ → ℕ → World → Type 0
AreRefusedBelow plan a s w =
    (j base p f : ℕ) (e : Envelope) (u : Sess) → IsPortOf plan a p (Frag f) → slice_get w.envelopes j ≡ Some e → e.to ≡ a → sends_stream (Frag f) (role_of plan e.sender) ≡ true → e.packet ≡ Plain (message.Truncated u base) → IsRefusedBelow plan a f s w u e.sender

module _ (w : World) (most : ℕ) (d : Event) (fine : IsFine w most) (x g b : ℕ) (role_x : role_of w.plan x ≡ IsNode g b) (stands : StandsWhole w x) (later : StandsWhole (happens w d) x) (a r : ℕ) (role_a : role_of w.plan a ≡ IsNode g r)
    (level : (p f : ℕ) → IsPortOf w.plan x p (Frag f) → IsLevel w.plan x f (done_upto w.plan f stands.node.cursor) w) (known : (p : ℕ) (s : StreamRef) → IsPortOf w.plan a p s → KnowsNoNewer w.plan w a p s) (sure : SourcesSendSurely w.plan w.envelopes)
    (once : (p q : ℕ) (s : StreamRef) → slice_get (inputs_of w.plan (role_of w.plan a)) p ≡ Some s → slice_get (inputs_of w.plan (role_of w.plan a)) q ≡ Some s → p ≡ q) (reader : (p f : ℕ) → IsPortOf w.plan a p (Frag f) → IsReader w.plan (Frag f) a)
    (unanswered : (p f c t j base : ℕ) (e : Envelope) (u v : Sess) → IsPortOf w.plan a p (Frag f) → role_of w.plan t ≡ IsNode f c → slice_get w.envelopes j ≡ Some e → e.sender ≡ t → e.to ≡ a → e.packet ≡ Plain (message.Truncated v base) → same_sess v u ≡ true → WasAnswered w t a u → ⊥)
    (inc-last : (n : PlainNode) → (slot_of w a).node ≡ Some n → n.grants.inc ≡ (slot_of w a).last_inc) (h : IsBehind w.plan a stands.node.cursor w) (refused : AreRefusedBelow w.plan a stands.node.cursor w) where
  abbrev next : World
  next = happens w d

  abbrev Here : Home
  Here = home_of w.plan (g, r)

  abbrev old_cursor : ℕ
  old_cursor = stands.node.cursor

  abbrev new_cursor : ℕ
  new_cursor = later.node.cursor

  cursor-on : old_cursor ≤ new_cursor
  cursor-on = cursor-grows w next (home_of w.plan (g, b)) x d (replica-does w most fine x g b role_x d) stands.node later.node stands.up later.up stands.whole later.whole

  done-le : (f c e : ℕ) → c ≤ e → done_upto w.plan f c ≤ done_upto w.plan f e
  done-le f c e more = upto_le w.plan (Frag f) (c * w.plan.width) (e * w.plan.width) fine.checked.checked.sound (times-le c e w.plan.width more)

  -- the same port is of x, which reads the same streams
  same-port : (p : ℕ) (s : StreamRef) → IsPortOf w.plan a p s → IsPortOf w.plan x p s
  same-port p s port =
      let inputs : inputs_of w.plan (role_of w.plan a) ≡ inputs_of w.plan (role_of w.plan x) = ap (λ (z : Role). inputs_of w.plan z) role_a ∙ sym (ap (λ (z : Role). inputs_of w.plan z) role_x) in
      record { there = ap (λ (ss : List StreamRef). slice_get ss p) (sym inputs) ∙ port.there; only = λ q e. port.only q (ap (λ (ss : List StreamRef). slice_get ss q) inputs ∙ e) }

  does : ReplicaDoes w Here a d next
  does = replica-does w most fine a g r role_a d

  -- ---- refusals

  by-replica : (T : Type 0) (f t : ℕ) → sends_stream (Frag f) (role_of w.plan t) ≡ true → ((c : ℕ) → role_of w.plan t ≡ IsNode f c → T) → T
  by-replica T f t sends then = by-role (role_of w.plan t) refl sends
    where
      by-role : (is : Role) → role_of w.plan t ≡ is → sends_stream (Frag f) is ≡ true → T
      by-role (IsSource v) is e = cc
      by-role (IsClient v) is e = cc
      by-role Nobody is e = cc
      by-role (IsNode v c) is e = then c (is ∙ ap (λ (z : ℕ). IsNode z c) (sym (eq-of f v e)))

  still-there : (k : ℕ) (e : Envelope) → slice_get w.envelopes k ≡ Some e → slice_get next.envelopes k ≡ Some e
  still-there k e there = ap (λ (es : List Envelope). slice_get es k) (event-grows w d).envelopes ∙ get-first w.envelopes (event-grows w d).more k e there

  refused-on : (f : ℕ) (u : Sess) (to : ℕ) → IsRefusedBelow w.plan a f old_cursor w u to → IsRefusedBelow w.plan a f new_cursor next u to
  refused-on f u to k =
      let below = k.below in
      let more = done-le f old_cursor new_cursor cursor-on in
      record { place = k.place; envelope = k.envelope; asked = k.asked; there = still-there k.place k.envelope k.there; reader = k.reader; sent_to = k.sent_to; packet = k.packet; session = k.session; below = omega (arith, below, more) }

  pub refused-next : AreRefusedBelow w.plan a new_cursor next
  refused-next j base p f e u port there to sends packet =
      by-replica (IsRefusedBelow w.plan a f new_cursor next u e.sender) f e.sender sends (λ c role_c.
      let place = reader p f port in
      by-cases c role_c (refuses-new w next (home_of w.plan (f, c)) e.sender d a place.place (readers-distinct w.plan (Frag f)) place.low place.it (replica-does w most fine e.sender f c role_c d) j base e u there refl to packet))
    where
      by-cases : (c : ℕ) → role_of w.plan e.sender ≡ IsNode f c → (slice_get w.envelopes j ≡ Some e) ⊎ RefusesNow w e.sender d a (reader p f port).place u → IsRefusedBelow w.plan a f new_cursor next u e.sender
      by-cases c role_c (inl old) = refused-on f u e.sender (refused j base p f e u port old to sends packet)
      by-cases c role_c (inr n) =
          let low = ((level p f (same-port p (Frag f) port)).nodes e.sender c n.node role_c n.up).base in
          let less = n.below in
          let more = done-le f old_cursor new_cursor cursor-on in
          record { place = n.place; envelope = n.envelope; asked = n.asked; there = still-there n.place n.envelope n.there; reader = n.reader; sent_to = n.to; packet = n.packet; session = n.session; below = omega (arith, low, less, more) }

  -- ---- a loss

  stream-of : (p : ℕ) (s : StreamRef) → slice_get (streams_of Here) p ≡ Some s → slice_get (inputs_of w.plan (role_of w.plan a)) p ≡ Some s
  stream-of p s at = ap (λ (z : Role). slice_get (inputs_of w.plan z) p) role_a ∙ ap (λ (ss : List StreamRef). slice_get ss p) (home-inputs Here r) ∙ at

  -- whose present session was refused lies below x
  loss-below : (k : ℕ) (e : Envelope) (n : PlainNode) → slice_get w.envelopes k ≡ Some e → e.to ≡ a → (slot_of w a).node ≡ Some n → n.recovering ≡ false → AllAsked w.plan a w → IsLost Here e.sender e.packet n → n.cursor < old_cursor
  loss-below k e n there to up whole asked lost =
      let it = sender-of w.plan (streams_of Here) e.sender lost.port lost.replica lost.sender in
      let sends = sender_sends w.plan it.stream e.sender lost.replica it.place in
      let good = node-here w most a g r n fine role_a up in
      let port = port-at w.plan n.grants.inc most lost.port it.stream (streams_of Here) n.ports good.orderly.ports it.at in
      by-stream it.stream it.at sends port.0 port.1
    where
      source-harmless : (v : ℕ) → role_of w.plan e.sender ≡ IsSource v → ⊥
      source-harmless v is = subst (λ (p : Packet). SendsSurely w.envelopes e.sender e.to p) lost.packet_is (sure k v e there is)

      less-or : (f : ℕ) → done_upto w.plan f n.cursor < done_upto w.plan f old_cursor → (old_cursor ≤ n.cursor) ⊎ (n.cursor < old_cursor) → n.cursor < old_cursor
      less-or f low (inr less) = less
      less-or f low (inl more) = let le = done-le f old_cursor n.cursor more in absurd (omega (arith, low, le))

      at-fragment : (f : ℕ) → slice_get (streams_of Here) lost.port ≡ Some (Frag f) → sends_stream (Frag f) (role_of w.plan e.sender) ≡ true → (q : Port) → slice_get n.ports lost.port ≡ Some q → (c : ℕ) → role_of w.plan e.sender ≡ IsNode f c → n.cursor < old_cursor
      at-fragment f at sends q here c role_c =
          let port : IsPortOf w.plan a lost.port (Frag f) = record { there = stream-of lost.port (Frag f) at; only = λ j e_j. once j lost.port (Frag f) e_j (stream-of lost.port (Frag f) at) } in
          let is : nth no_port n.ports lost.port ≡ q = nth-there n.ports lost.port q here in
          let named : same_sess lost.sess q.inlet.sess ≡ true = ap (λ (z : Port). same_sess lost.sess z.inlet.sess) (sym is) ∙ lost.named in
          let below = refused k lost.base lost.port f e lost.sess port there to sends lost.packet_is in
          let port_is : port_at w a lost.port ≡ Some q = ap (λ (o : Option PlainNode). node_port lost.port o) up ∙ here in
          let waiting = asked lost.port f q port port_is below.place below.envelope below.asked below.there below.reader (ap (λ (z : ℕ). sends_stream (Frag f) (role_of w.plan z)) below.sent_to ∙ sends) below.packet (ap (λ (s : Sess). same_sess s q.inlet.sess) below.session ∙ named) in
          by-waits port q here named below waiting.waits
        where
          by-waits : IsPortOf w.plan a lost.port (Frag f) → (q : Port) → slice_get n.ports lost.port ≡ Some q → same_sess lost.sess q.inlet.sess ≡ true → (below : IsRefusedBelow w.plan a f old_cursor w lost.sess e.sender) → (length q.inlet.held.stable ≤ below.asked.n) ⊎ WasAnswered w below.envelope.to a q.inlet.sess → n.cursor < old_cursor
          by-waits port q here named below (inr answered) =
              absurd (unanswered lost.port f c e.sender k lost.base e q.inlet.sess lost.sess port role_c there refl to lost.packet_is named (subst (λ (t : ℕ). WasAnswered w t a q.inlet.sess) below.sent_to answered))
          by-waits port q here named below (inl low) =
              let good = node-here w most a g r n fine role_a up in
              let few = done-few Here n q in
              let is = acked-is Here most n fine.checked.checked good whole lost.port (Frag f) q at here in
              let less = below.below in
              less-or f (omega (arith, low, few, is, less)) (le-or old_cursor n.cursor)

      by-stream : (s : StreamRef) → slice_get (streams_of Here) lost.port ≡ Some s → sends_stream s (role_of w.plan e.sender) ≡ true → (q : Port) → slice_get n.ports lost.port ≡ Some q → n.cursor < old_cursor
      by-stream (Frag f) at sends q here = by-replica (n.cursor < old_cursor) f e.sender sends (λ c role_c. at-fragment f at sends q here c role_c)
      by-stream (Source v) at sends q here = absurd (by-role (role_of w.plan e.sender) refl sends)
        where
          by-role : (is : Role) → role_of w.plan e.sender ≡ is → sends_stream (Source v) is ≡ true → ⊥
          by-role (IsSource y) is t = source-harmless y is
          by-role (IsNode f c) is t = cc
          by-role (IsClient c) is t = cc
          by-role Nobody is t = cc

  -- ---- what is acknowledged

  old-inc : (k i count : ℕ) (e : Envelope) → slice_get w.envelopes k ≡ Some e → e.sender ≡ a → e.packet ≡ Plain (message.Ack i count) → (slot_of w a).last_inc ≤ (slot_of next a).last_inc → i ≤ (slot_of next a).last_inc
  old-inc k i count e there mine packet more = let low = h.incs k i count e there mine packet in omega (arith, low, more)

  -- an envelope of a step is old, or has what the step's mails have
  new-mail : (P : Mail → Type 0) (n : PlainNode) (t : Stepped PlainNode) → HasStepped w next a n t → Each P t.sends → (k : ℕ) (e : Envelope) → slice_get next.envelopes k ≡ Some e → (slice_get w.envelopes k ≡ Some e) ⊎ ((m : Mail) × (e ≡ from a m) × P m)
  new-mail P n t s each k e there = got-sent P a w.envelopes t.sends k e each (sym (ap (λ (es : List Envelope). slice_get es k) s.sends) ∙ there)

  le-equal : (i j : ℕ) → i ≡ j → i ≤ j
  le-equal i j e = omega (arith, e)

  stepped-incs : (n : PlainNode) (t : Stepped PlainNode) → HasStepped w next a n t → t.after.grants.inc ≡ n.grants.inc → Each (SaysMail Here t.after) t.sends → (k i count : ℕ) (e : Envelope) → slice_get next.envelopes k ≡ Some e → e.sender ≡ a → e.packet ≡ Plain (message.Ack i count) → i ≤ (slot_of next a).last_inc
  stepped-incs n t s inc each k i count e there mine packet =
      elim (new-mail (SaysMail Here t.after) n t s each k e there) [
        | inl old ↦ old-inc k i count e old mine packet (le-equal (slot_of w a).last_inc (slot_of next a).last_inc (sym s.last))
        | inr (m, of, says) ↦
            let is : i ≡ t.after.grants.inc = subst (λ (z : Packet). SaysOf t.after z) packet (subst (λ (z : Envelope). SaysOf t.after z.packet) (sym of) says) in
            le-equal i (slot_of next a).last_inc (is ∙ inc ∙ inc-last n s.up ∙ sym s.last)
      ]

  -- the count of an acknowledgement that is new
  abbrev NewCounts : ℕ → Type 0
  NewCounts top = (k i count p f : ℕ) (e : Envelope) → IsPortOf w.plan a p (Frag f) → slice_get next.envelopes k ≡ Some e → e.sender ≡ a → sends_stream (Frag f) (role_of w.plan e.to) ≡ true → e.packet ≡ Plain (message.Ack i count) → (slice_get w.envelopes k ≡ Some e) ⊎ (count ≤ done_upto w.plan f top)

  stepped-acked : (n : PlainNode) (t : Stepped PlainNode) (top : ℕ) → HasStepped w next a n t → t.after.grants.inc ≡ n.grants.inc → h.top ≤ top → NewCounts top → (k i count p f : ℕ) (e : Envelope) (m : PlainNode) → (slot_of next a).node ≡ Some m → i ≡ m.grants.inc → IsPortOf w.plan a p (Frag f) →
      slice_get next.envelopes k ≡ Some e → e.sender ≡ a → sends_stream (Frag f) (role_of w.plan e.to) ≡ true → e.packet ≡ Plain (message.Ack i count) → count ≤ done_upto w.plan f top
  stepped-acked n t top s inc more new k i count p f e m up is port there mine sends packet =
      elim (new k i count p f e port there mine sends packet) [
        | inr low ↦ low
        | inl old ↦
            let same : i ≡ n.grants.inc = is ∙ ap (λ (z : PlainNode). z.grants.inc) (some-same m t.after (sym up ∙ s.now)) ∙ inc in
            let low = h.acked k i count p f e n s.up same port old mine sends packet in
            let le = done-le f h.top top more in omega (arith, low, le)
      ]

  -- nothing is acknowledged by packets, nor by milling
  none-new : (n : PlainNode) (t : Stepped PlainNode) (top : ℕ) → HasStepped w next a n t → Each (Acks Here (record n { recovering = true })) t.sends → NewCounts top
  none-new n t top s each k i count p f e port there mine sends packet =
      elim (new-mail (Acks Here (record n { recovering = true })) n t s each k e there) [
        | inl old ↦ inl old
        | inr (m, of, acks) ↦
            let z : PlainNode = record n { recovering = true } in
            let is = subst (λ (y : Packet). AcksOf Here z e.to y) packet (subst (λ (y : Envelope). AcksOf Here z y.to y.packet) (sym of) acks) in
            inr (zero-le count (done_upto w.plan f top) is.count_is)
      ]
    where
      zero-le : (c k : ℕ) → c ≡ 0 → c ≤ k
      zero-le c k none = omega (arith, none)

  none-ticked : (n : PlainNode) (t : Stepped PlainNode) (top : ℕ) → HasStepped w next a n t → Each (MailOfNone Here) t.sends → NewCounts top
  none-ticked n t top s each k i count p f e port there mine sends packet =
      elim (new-mail (MailOfNone Here) n t s each k e there) [
        | inl old ↦ inl old
        | inr (m, of, none) ↦
            let is : count ≡ 0 = subst (λ (z : Packet). OfNone Here z) packet (subst (λ (z : Envelope). OfNone Here z.packet) (sym of) none) in
            inr (zero-le count (done_upto w.plan f top) is)
      ]
    where
      zero-le : (c k : ℕ) → c ≡ 0 → c ≤ k
      zero-le c k none = omega (arith, none)

  -- a tick acknowledges what lies below the cursor
  ticked-new : (n : PlainNode) (t : Stepped PlainNode) (top : ℕ) → HasStepped w next a n t → t.after.recovering ≡ false → t.after.cursor ≤ top → Each (Acks Here t.after) t.sends → NewCounts top
  ticked-new n t top s whole low each k i count p f e port there mine sends packet =
      elim (new-mail (Acks Here t.after) n t s each k e there) [
        | inl old ↦ inl old
        | inr (m, of, acks) ↦
            let y = subst (λ (z : Packet). AcksOf Here t.after e.to z) packet (subst (λ (z : Envelope). AcksOf Here t.after z.to z.packet) (sym of) acks) in
            let same : y.stream ≡ Frag f = sends-one (Frag f) y.stream (role_of w.plan e.to) sends y.sends in
            let step = happens-next w most d fine in
            let good = subst (λ (z : Plan). IsGood (home_of z (g, r)) (most + 1) t.after) step.plan (node-here next (most + 1) a g r t.after step.fine (ap (λ (z : Plan). role_of z a) step.plan ∙ role_a) s.now) in
            let is = acked-is Here (most + 1) t.after fine.checked.checked good whole y.place (Frag f) y.port (y.reads ∙ ap {B = Option StreamRef} Some same) y.there in
            let le = done-le f t.after.cursor top low in
            inr (le-then count (done_upto w.plan f t.after.cursor) (done_upto w.plan f top) (y.count_is ∙ is) le)
      ]
    where
      le-then : (c i j : ℕ) → c ≡ i → i ≤ j → c ≤ j
      le-then c i j same more = omega (arith, same, more)

  -- ---- how it stands

  port-then : (t : Stepped PlainNode) (n : PlainNode) (p : ℕ) (q : Port) → HasStepped w next a n t → port_at next a p ≡ Some q → slice_get t.after.ports p ≡ Some q
  port-then t n p q s e = sym (ap (λ (o : Option PlainNode). node_port p o) s.now) ∙ e

  port-was : (n : PlainNode) (p : ℕ) (q : Port) → (slot_of w a).node ≡ Some n → slice_get n.ports p ≡ Some q → port_at w a p ≡ Some q
  port-was n p q up e = ap (λ (o : Option PlainNode). node_port p o) up ∙ e

  asked-on : (moved : (p : ℕ) (q : Port) → port_at next a p ≡ Some q → (o : Port) × (port_at w a p ≡ Some o) × (Stays w Here a p o q ⊎ Opens o q)) → ((p f : ℕ) (o q : Port) → IsPortOf w.plan a p (Frag f) → port_at next a p ≡ Some q → port_at w a p ≡ Some o → Stays w Here a p o q → IsAskedAt w.plan a f w o) → AllAsked w.plan a next
  asked-on moved before p f q port there =
      let k = moved p q there in
      asked-next w next most d fine a g r role_a (event-grows w d) does p f port (known p (Frag f) port) q there k.0 k.1 k.2 (λ s. before p f k.0 q port there k.1 s)

  low-on : h.top ≤ old_cursor → h.top ≤ new_cursor
  low-on low = let more = cursor-on in omega (arith, low, more)

  -- where the cursor did not fall and nothing more was acknowledged
  still-so : (n m : PlainNode) → n.cursor ≤ m.cursor → (h.top ≤ old_cursor) ⊎ (h.top ≤ n.cursor) → (h.top ≤ new_cursor) ⊎ (h.top ≤ m.cursor)
  still-so n m more (inl low) = inl (low-on low)
  still-so n m more (inr low) = inr (omega (arith, low, more))

  -- where up to the cursor it was
  ticked-so : (n m : PlainNode) → (h.top ≤ old_cursor) ⊎ ((n.cursor ≤ m.cursor) × (h.top ≤ n.cursor)) → (max h.top m.cursor ≤ new_cursor) ⊎ (max h.top m.cursor ≤ m.cursor)
  ticked-so n m (inr (more, low)) = inr (omega (arith, more, low))
  ticked-so n m (inl low) =
      elim (le-or m.cursor new_cursor) [
        | inl few ↦ (let on = low-on low in inl (omega (arith, few, on)))
        | inr far ↦ (let on = low-on low in inr (omega (arith, far, on)))
      ]

  -- ---- one event

  rests-behind : slot_of next a ≡ slot_of w a → SendsNone w next a → IsBehind w.plan a new_cursor next
  rests-behind slot sends =
      let node = ap (λ (z : Slot). z.node) slot in
      record {
        top = h.top;
        acked = λ k i count p f e m up is port there mine to packet. h.acked k i count p f e m (sym node ∙ up) is port (sends k e there mine) mine to packet;
        state = λ m up. by-state m (sym node ∙ up) (h.state m (sym node ∙ up));
        incs = λ k i count e there mine packet. old-inc k i count e (sends k e there mine) mine packet (le-equal (slot_of w a).last_inc (slot_of next a).last_inc (sym (ap (λ (z : Slot). z.last_inc) slot)));
      }
    where
      by-state : (m : PlainNode) → (slot_of w a).node ≡ Some m → Standing w.plan a w h.top old_cursor m → Standing w.plan a next h.top new_cursor m
      by-state m up (inl (broken, low)) = inl (broken, low-on low)
      by-state m up (inr (whole, asked, so)) =
          inr (whole, asked-on (λ p q there. (q, sym (ap (λ (z : Slot). node_port p z.node) slot) ∙ there, inl (record { sess = refl; chosen = refl; held = inl refl }))) (λ p f o q port at was s. asked p f o port was), still-so m m (le-equal m.cursor m.cursor refl) so)

  falls-behind : (slot_of next a).node ≡ None → (slot_of next a).last_inc ≡ (slot_of w a).last_inc → SendsNone w next a → IsBehind w.plan a new_cursor next
  falls-behind down last sends =
      record {
        top = h.top;
        acked = λ k i count p f e m up is port there mine to packet. absurd (gone m up);
        state = λ m up. absurd (gone m up);
        incs = λ k i count e there mine packet. old-inc k i count e (sends k e there mine) mine packet (le-equal (slot_of w a).last_inc (slot_of next a).last_inc (sym last));
      }
    where
      gone : (m : PlainNode) → (slot_of next a).node ≡ Some m → ⊥
      gone m up = let clash : ◌≡◌ {A = Option PlainNode} None (Some m) = sym down ∙ up in cc

  restarted-inc : (home : Home) (i : ℕ) → (restarted_node home i).grants.inc ≡ i
  unfolding restarted_node
  restarted-inc home i = refl

  starts-behind : (j : ℕ) → (slot_of w a).last_inc < j → (slot_of next a).node ≡ Some (restarted_node Here j) → (slot_of next a).last_inc ≡ j → SendsNone w next a → IsBehind w.plan a new_cursor next
  starts-behind j newer now last sends =
      record {
        top = 0;
        acked = λ k i count p f e m up is port there mine to packet.
            let inc : i ≡ j = is ∙ ap (λ (z : PlainNode). z.grants.inc) (some-same m (restarted_node Here j) (sym up ∙ now)) ∙ restarted-inc Here j in
            let low = h.incs k i count e (sends k e there mine) mine packet in absurd (omega (arith, inc, low, newer));
        state = λ m up. inl (subst (λ (z : PlainNode). AreBroken z.ports) (some-same (restarted_node Here j) m (sym now ∙ up)) (restarted-broken Here j), omega arith);
        incs = λ k i count e there mine packet. old-inc k i count e (sends k e there mine) mine packet (omega (arith, newer, last));
      }

  takes-behind : (k : ℕ) (e : Envelope) (n : PlainNode) → slice_get w.envelopes k ≡ Some e → e.to ≡ a → HasStepped w next a n (packet_step Here e.sender e.packet n) → IsBehind w.plan a new_cursor next
  takes-behind k e n there to s =
      let t = packet_step Here e.sender e.packet n in
      let inc = (own-delivered Here e.sender e.packet n).grants.inc in
      record {
        top = h.top;
        acked = stepped-acked n t h.top s inc (le-equal h.top h.top refl) (none-new n t h.top s (packet-acks Here (record n { recovering = true }) e.sender e.packet n));
        state = λ m up. subst (λ (z : PlainNode). Standing w.plan a next h.top new_cursor z) (some-same t.after m (sym s.now ∙ up)) (by-state (h.state n s.up));
        incs = stepped-incs n t s inc (packet-says Here t.after e.sender e.packet n);
      }
    where
      low-then : (n : PlainNode) → n.cursor < old_cursor → (h.top ≤ old_cursor) ⊎ (h.top ≤ n.cursor) → h.top ≤ old_cursor
      low-then n less (inl low) = low
      low-then n less (inr low) = omega (arith, less, low)

      by-recovering : n.recovering ≡ false → AllAsked w.plan a w → (h.top ≤ old_cursor) ⊎ (h.top ≤ n.cursor) → (c : Bool) → (packet_step Here e.sender e.packet n).after.recovering ≡ c → Standing w.plan a next h.top new_cursor (packet_step Here e.sender e.packet n).after
      by-recovering whole asked so true recovers =
          let lost = is-lost Here e.sender e.packet n whole recovers in
          let less = loss-below k e n there to s.up whole asked lost in
          let broken : AreBroken (packet_step Here e.sender e.packet n).after.ports =
          subst (λ (p : Packet). AreBroken (packet_step Here e.sender p n).after.ports) (sym lost.packet_is) (loss-broken Here e.sender lost.sess lost.base n whole (ap (λ (p : Packet). (packet_step Here e.sender p n).after.recovering) (sym lost.packet_is) ∙ recovers)) in
          inl (broken, low-on (low-then n less so))
      by-recovering whole asked so false still =
          let t = packet_step Here e.sender e.packet n in
          inr (
            still,
            asked-on (λ p q at.
                let y = still-took Here e.sender e.packet n whole still p q (port-then t n p q s at) in
                let took = y.2 in (
                  y.0,
                  port-was n p y.0 s.up y.1,
                  inl (record { sess = took.sess; chosen = took.chosen; held = elim took.held [ inl same ↦ inl same | inr batch ↦ inr (record { place = k; envelope = e; there = there; to = to; took = batch }) ] }),
                )) (λ p f o q port at was st. asked p f o port was),
            still-so n t.after (cursor-grows w next Here a d does n t.after s.up s.now whole still) so,
          )

      by-state : Standing w.plan a w h.top old_cursor n → Standing w.plan a next h.top new_cursor (packet_step Here e.sender e.packet n).after
      by-state (inl (broken, low)) = inl (packet-broken Here e.sender e.packet n broken, low-on low)
      by-state (inr (whole, asked, so)) = by-recovering whole asked so (packet_step Here e.sender e.packet n).after.recovering refl

  mills-behind : (m : ℕ) (n : PlainNode) → HasStepped w next a n (mill_step Here m n) → IsBehind w.plan a new_cursor next
  mills-behind m n s =
      let t = mill_step Here m n in
      let inc = (own-milled Here m n).grants.inc in
      record {
        top = h.top;
        acked = stepped-acked n t h.top s inc (le-equal h.top h.top refl) (none-new n t h.top s (milled-acks Here (record n { recovering = true }) m n));
        state = λ z up. subst (λ (y : PlainNode). Standing w.plan a next h.top new_cursor y) (some-same t.after z (sym s.now ∙ up)) (by-state (h.state n s.up));
        incs = stepped-incs n t s inc (milled-says Here t.after m n);
      }
    where
      by-state : Standing w.plan a w h.top old_cursor n → Standing w.plan a next h.top new_cursor (mill_step Here m n).after
      by-state (inl (broken, low)) = inl (λ p q e. broken p q (sym (ap (λ (ps : List Port). slice_get ps p) (mill-ports Here m n)) ∙ e), low-on low)
      by-state (inr (whole, asked, so)) =
          let t = mill_step Here m n in
          let still = milled-whole Here a m n ∙ whole in
          inr (
            still,
            asked-on (λ p q at. (q, port-was n p q s.up (sym (ap (λ (ps : List Port). slice_get ps p) (mill-ports Here m n)) ∙ port-then t n p q s at), inl (record { sess = refl; chosen = refl; held = inl refl }))) (λ p f o q port at was st. asked p f o port was),
            still-so n t.after (cursor-grows w next Here a d does n t.after s.up s.now whole still) so,
          )

  ticks-went : (p : ℕ) (q : Port) → Stays w Here a p q (port_after_choice (port_after_tick (without_ended_marks q))) ⊎ Opens q (port_after_choice (port_after_tick (without_ended_marks q)))
  ticks-went p q = by-ticks (chosen-ticks (port_after_tick (without_ended_marks q)))
    where
      by-ticks : TicksTo (port_after_tick (without_ended_marks q)) (port_after_choice (port_after_tick (without_ended_marks q))) → Stays w Here a p q (port_after_choice (port_after_tick (without_ended_marks q))) ⊎ Opens q (port_after_choice (port_after_tick (without_ended_marks q)))
      by-ticks (inl (inlet, chosen)) = inl (record { sess = ap (λ (z : InletState). z.sess) inlet; chosen = chosen; held = inl (ap (λ (z : InletState). z.held) inlet) })
      by-ticks (inr inlet) = inr (record { inlet = inlet; chosen = refl })

  late-behind : (now : ℕ) (n : PlainNode) → HasStepped w next a n (tick_step Here now n) → StillRecovers Here (tick_step Here now n) n → IsBehind w.plan a new_cursor next
  late-behind now n s k =
      let t = tick_step Here now n in
      let inc = (own-ticked Here now n).grants.inc in
      record {
        top = h.top;
        acked = stepped-acked n t h.top s inc (le-equal h.top h.top refl) (none-ticked n t h.top s k.acks);
        state = λ z up. subst (λ (y : PlainNode). Standing w.plan a next h.top new_cursor y) (some-same t.after z (sym s.now ∙ up)) (by-state (h.state n s.up));
        incs = stepped-incs n t s inc (ticked-says Here now n);
      }
    where
      by-state : Standing w.plan a w h.top old_cursor n → Standing w.plan a next h.top new_cursor (tick_step Here now n).after
      by-state (inl (broken, low)) = inl (λ p q e. let y = k.ports p q e in ap (λ (i : InletState). i.broken) y.2 ∙ broken p y.0 y.1, low-on low)
      by-state (inr (whole, asked, so)) = let clash : true ≡ false = sym k.recovers ∙ ticked-whole Here a now n whole in cc

  serves-behind : (now : ℕ) (n : PlainNode) → HasStepped w next a n (tick_step Here now n) → GoesOn Here (tick_step Here now n) n → IsBehind w.plan a new_cursor next
  serves-behind now n s k =
      let t = tick_step Here now n in
      let inc = (own-ticked Here now n).grants.inc in
      let top = max h.top t.after.cursor in
      record {
        top = top;
        acked = stepped-acked n t top s inc (omega arith) (ticked-new n t top s k.whole (omega arith) k.acks);
        state = λ z up. subst (λ (y : PlainNode). Standing w.plan a next top new_cursor y) (some-same t.after z (sym s.now ∙ up)) (by-state (h.state n s.up));
        incs = stepped-incs n t s inc (ticked-says Here now n);
      }
    where
      not-both : (p : ℕ) (o q : Port) → port_at next a p ≡ Some q → port_at w a p ≡ Some o → Stays w Here a p o q → AreBroken n.ports → ⊥
      not-both p o q at was st broken =
          let y = k.ports p q (port-then (tick_step Here now n) n p q s at) in
          let one : y.0 ≡ o = some-same y.0 o (sym (port-was n p y.0 s.up y.1) ∙ was) in
          let opens : Opens o q = subst (λ (z : Port). Opens z q) one (subst (λ (z : Port). Opens y.0 z) (sym y.2) (broken-opens y.0 (broken p y.0 y.1))) in
          not-itself o.inlet.sess (sym st.sess ∙ ap (λ (z : InletState). z.sess) opens.inlet)

      by-state : Standing w.plan a w h.top old_cursor n → Standing w.plan a next (max h.top (tick_step Here now n).after.cursor) new_cursor (tick_step Here now n).after
      by-state (inl (broken, low)) =
          let t = tick_step Here now n in
          inr (
            k.whole,
            asked-on (λ p q at.
                let y = k.ports p q (port-then t n p q s at) in
                (y.0, port-was n p y.0 s.up y.1, inr (subst (λ (z : Port). Opens y.0 z) (sym y.2) (broken-opens y.0 (broken p y.0 y.1))))) (λ p f o q port at was st. absurd (not-both p o q at was st broken)),
            ticked-so n t.after (inl low),
          )
      by-state (inr (whole, asked, so)) =
          let t = tick_step Here now n in
          inr (
            k.whole,
            asked-on (λ p q at.
                let y = k.ports p q (port-then t n p q s at) in
                (y.0, port-was n p y.0 s.up y.1, subst (λ (z : Port). Stays w Here a p y.0 z ⊎ Opens y.0 z) (sym y.2) (ticks-went p y.0))) (λ p f o q port at was st. asked p f o port was),
            ticked-so n t.after (elim so [ inl low ↦ inl low | inr low ↦ inr (cursor-grows w next Here a d does n t.after s.up s.now whole k.whole, low) ]),
          )

  pub behind-next : IsBehind w.plan a new_cursor next
  behind-next = by-does does
    where
      by-does : ReplicaDoes w Here a d next → IsBehind w.plan a new_cursor next
      by-does (ReplicaDoes.Rests slot sends) = rests-behind slot sends
      by-does (ReplicaDoes.Falls crash down last sends) = falls-behind down last sends
      by-does (ReplicaDoes.Starts j newer down now last sends) = starts-behind j (lt-of (slot_of w a).last_inc j newer) now last sends
      by-does (ReplicaDoes.Takes k e n event there can to s) = takes-behind k e n there to s
      by-does (ReplicaDoes.Ticks now n event s) = elim (tick-splits Here now n) [ inl late ↦ late-behind now n s late | inr goes ↦ serves-behind now n s goes ]
      by-does (ReplicaDoes.Mills m n s) = mills-behind m n s
