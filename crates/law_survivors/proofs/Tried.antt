-- In every run: each ask of a node for a snapshot, and each snapshot that was sent to it, names a try that it has reached.
use Rattle.std.proofs.Common.{◌≡◌, ℕ, ◌+◌, ◌≤◌, List, length, refl, sym, ap, subst, ◌∙◌, arith, Option, Some, None, slice_get, ◌⊎◌, inl, inr}
use Rattle.dpc_lists.proofs.Each.{Each}
use Rattle.dpc_lists.proofs.Somes.{some-same}
use Rattle.dpc_lists.proofs.Truths.{lt-of}
use Rattle.dpc_model.specs.Actors.{role_of}
use Rattle.dpc_model.specs.declared.actors.Role.TheVariants.{Node as IsNode}
use Rattle.dpc_model.specs.declared.messages.Event.{Event}
use Rattle.dpc_model.specs.declared.messages.Event.TheVariants.{Deliver, Tick}
use Rattle.dpc_model.specs.declared.messages.Message.TheVariants as message
use Rattle.dpc_model.specs.declared.plans.Plan.{Plan}
use Rattle.node_model.specs.Mails.{Packet, Plain, SnapFor, Snap, Stepped}
use Rattle.node_model.specs.Nodes.{Home, PlainNode, restarted_node}
use Rattle.node_model.specs.NodeSteps.{packet_step, mill_step, tick_step}
use Rattle.world_model.specs.Worlds.{World, Envelope, Slot, home_of, slot_of, happens, run}
use Rattle.law_granting.proofs.Saying.{own-delivered, own-milled, own-ticked}
use Rattle.law_granting.proofs.Slots.{got-sent}
use Rattle.law_readers.proofs.Running.{every-run}
use Rattle.law_safety.specs.Plans.{IsCheckedPlan}
use Rattle.law_safety.proofs.Law.{run-good}
use Rattle.law_safety.proofs.Growing.{run-plan}
use Rattle.law_survivors.proofs.Doing.{HasStepped, ReplicaDoes, replica-does}
use Rattle.law_survivors.proofs.Refused.{asking-run}
use Rattle.law_survivors.proofs.Running.{never-sent}
use Rattle.law_survivors.proofs.Tries.{TriesGo, packet-tries, milled-status, ticked-tries, PacketSays, MailSays, IsAnswer, packet-says, milled-says, ticked-says}

-- the node has reached this try of this incarnation
pub record IsTriedAt (slot : Slot) (i try : ℕ) : Type 0 where
  pub came : i ≤ slot.last_inc
  pub tried : (n : PlainNode) → slot.node ≡ Some n → n.grants.inc ≡ i → try ≤ n.tries

-- so it is of what a asked, and of what a peer sent it
pub record AreTried (plan : Plan) (a g : ℕ) (w : World) : Type 0 where
  pub asks : (k i try : ℕ) (e : Envelope) → slice_get w.envelopes k ≡ Some e → e.sender ≡ a → e.packet ≡ Plain (message.SnapAsk i try) → IsTriedAt (slot_of w a) i try
  pub snaps : (k i try c : ℕ) (e : Envelope) (s : Snap) → slice_get w.envelopes k ≡ Some e → role_of plan e.sender ≡ IsNode g c → e.to ≡ a → e.packet ≡ SnapFor i try s → IsTriedAt (slot_of w a) i try

abbrev Anything : Type 0
Anything = Unit {0}

restarted-inc : (home : Home) (i : ℕ) → (restarted_node home i).grants.inc ≡ i
unfolding restarted_node
restarted-inc home i = refl

-- ---- asks

module _ (w next : World) (d : Event) (a g r : ℕ) (plan : Plan) where
  abbrev There : Home
  There = home_of plan (g, r)

  abbrev NoSnap : ℕ → ℕ → ℕ → Snap → Type 0
  NoSnap to i try s = Unit {0}

  abbrev NoAsk : ℕ → ℕ → Type 0
  NoAsk i try = ⊥

  asked-by : (A : ℕ → ℕ → Type 0) (S : ℕ → ℕ → ℕ → Snap → Type 0) (n : PlainNode) (t : Stepped PlainNode) → HasStepped w next a n t → Each (MailSays Anything A S) t.sends → (k i try : ℕ) (e : Envelope) → slice_get next.envelopes k ≡ Some e → e.packet ≡ Plain (message.SnapAsk i try) →
      (slice_get w.envelopes k ≡ Some e) ⊎ A i try
  asked-by A S n t s each k i try e there packet =
      elim (got-sent (MailSays Anything A S) a w.envelopes t.sends k e each (sym (ap (λ (es : List Envelope). slice_get es k) s.sends) ∙ there)) [
        | inl old ↦ inl old
        | inr (m, of, says) ↦ inr (subst (λ (z : Packet). PacketSays Anything A (S e.to) z) packet (subst (λ (z : Envelope). PacketSays Anything A (S z.to) z.packet) (sym of) says))
      ]

  -- a new ask is of the present try, and whoever sends it recovers
  pub record AsksTry (i try : ℕ) : Type 0 where
    pub node : PlainNode
    pub clock : ℕ
    pub tick : d ≡ Tick a clock
    pub step : HasStepped w next a node (tick_step There clock node)
    pub inc : i ≡ node.grants.inc
    pub try_is : try ≡ node.tries

  no-ask : (T : Type 0) (i try : ℕ) → T ⊎ NoAsk i try → T ⊎ AsksTry i try
  no-ask T i try (inl old) = inl old
  no-ask T i try (inr never) = absurd never

  pub ask-new : ReplicaDoes w There a d next → (k i try : ℕ) (e : Envelope) → slice_get next.envelopes k ≡ Some e → e.sender ≡ a → e.packet ≡ Plain (message.SnapAsk i try) → (slice_get w.envelopes k ≡ Some e) ⊎ AsksTry i try
  ask-new (ReplicaDoes.Rests slot sends) k i try e there mine packet = inl (sends k e there mine)
  ask-new (ReplicaDoes.Falls crash down last sends) k i try e there mine packet = inl (sends k e there mine)
  ask-new (ReplicaDoes.Starts j newer down now last sends) k i try e there mine packet = inl (sends k e there mine)
  ask-new (ReplicaDoes.Takes j f n event at can to s) k i try e there mine packet =
      no-ask (slice_get w.envelopes k ≡ Some e) i try (asked-by NoAsk NoSnap n (packet_step There f.sender f.packet n) s (packet-says There Anything NoAsk NoSnap f.sender f.packet n (λ t u v x y. tt)) k i try e there packet)
  ask-new (ReplicaDoes.Ticks clock n event s) k i try e there mine packet =
      elim (asked-by (λ i try. (i ≡ n.grants.inc) × (try ≡ n.tries)) NoSnap n (tick_step There clock n) s (ticked-says There Anything (λ i try. (i ≡ n.grants.inc) × (try ≡ n.tries)) NoSnap clock n (λ r. (refl, refl)) (λ r. tt)) k i try e there packet) [
        | inl old ↦ inl old
        | inr new ↦ inr (record { node = n; clock = clock; tick = event; step = s; inc = new.0; try_is = new.1 })
      ]
  ask-new (ReplicaDoes.Mills j n s) k i try e there mine packet =
      no-ask (slice_get w.envelopes k ≡ Some e) i try (asked-by NoAsk NoSnap n (mill_step There j n) s (milled-says There Anything NoAsk NoSnap j n) k i try e there packet)

-- ---- snapshots

module _ (w next : World) (d : Event) (g : ℕ) (plan : Plan) where
  -- a new snapshot answers an ask that came
  pub record SnapsNow (t c : ℕ) (home : Home) (to i try : ℕ) (s : Snap) : Type 0 where
    pub node : PlainNode
    pub place : ℕ
    pub envelope : Envelope
    pub event : d ≡ Deliver place
    pub there : slice_get w.envelopes place ≡ Some envelope
    pub step : HasStepped w next t node (packet_step home envelope.sender envelope.packet node)
    pub answer : IsAnswer home envelope.sender envelope.packet node to i try s

  pub snap-new : (t c : ℕ) → ReplicaDoes w (home_of plan (g, c)) t d next → (k i try : ℕ) (e : Envelope) (s : Snap) → slice_get next.envelopes k ≡ Some e → e.sender ≡ t → e.packet ≡ SnapFor i try s → (slice_get w.envelopes k ≡ Some e) ⊎ SnapsNow t c (home_of plan (g, c)) e.to i try s
  snap-new t c (ReplicaDoes.Rests slot sends) k i try e s there mine packet = inl (sends k e there mine)
  snap-new t c (ReplicaDoes.Falls crash down last sends) k i try e s there mine packet = inl (sends k e there mine)
  snap-new t c (ReplicaDoes.Starts j newer down now last sends) k i try e s there mine packet = inl (sends k e there mine)
  snap-new t c (ReplicaDoes.Takes j f n event at can to step) k i try e s there mine packet =
      let A : ℕ → ℕ → Type 0 = λ i try. Unit {0} in
      let S = λ (to i try : ℕ) (s : Snap). IsAnswer (home_of plan (g, c)) f.sender f.packet n to i try s in
      elim (got-sent (MailSays Anything A S) t w.envelopes (packet_step (home_of plan (g, c)) f.sender f.packet n).sends k e (packet-says (home_of plan (g, c)) Anything A S f.sender f.packet n (λ to i try s y. y)) (sym (ap (λ (es : List Envelope). slice_get es k) step.sends) ∙ there)) [
        | inl old ↦ inl old
        | inr (m, of, says) ↦ inr (record {
          node = n;
          place = j;
          envelope = f;
          event = event;
          there = at;
          step = step;
          answer = subst (λ (z : Packet). PacketSays Anything A (S e.to) z) packet (subst (λ (z : Envelope). PacketSays Anything A (S z.to) z.packet) (sym of) says);
        })
      ]
  snap-new t c (ReplicaDoes.Ticks clock n event step) k i try e s there mine packet =
      let A : ℕ → ℕ → Type 0 = λ i try. Unit {0} in
      let S : ℕ → ℕ → ℕ → Snap → Type 0 = λ to i try s. ⊥ in
      elim (got-sent (MailSays Anything A S) t w.envelopes (tick_step (home_of plan (g, c)) clock n).sends k e (ticked-says (home_of plan (g, c)) Anything A S clock n (λ y. tt) (λ y. tt)) (sym (ap (λ (es : List Envelope). slice_get es k) step.sends) ∙ there)) [
        | inl old ↦ inl old
        | inr (m, of, says) ↦ absurd (subst (λ (z : Packet). PacketSays Anything A (S e.to) z) packet (subst (λ (z : Envelope). PacketSays Anything A (S z.to) z.packet) (sym of) says))
      ]
  snap-new t c (ReplicaDoes.Mills j n step) k i try e s there mine packet =
      let A : ℕ → ℕ → Type 0 = λ i try. Unit {0} in
      let S : ℕ → ℕ → ℕ → Snap → Type 0 = λ to i try s. ⊥ in
      elim (got-sent (MailSays Anything A S) t w.envelopes (mill_step (home_of plan (g, c)) j n).sends k e (milled-says (home_of plan (g, c)) Anything A S j n) (sym (ap (λ (es : List Envelope). slice_get es k) step.sends) ∙ there)) [
        | inl old ↦ inl old
        | inr (m, of, says) ↦ absurd (subst (λ (z : Packet). PacketSays Anything A (S e.to) z) packet (subst (λ (z : Envelope). PacketSays Anything A (S z.to) z.packet) (sym of) says))
      ]

-- ---- what was reached stays so

module _ (w next : World) (d : Event) (a g r : ℕ) (plan : Plan) where
  abbrev Here : Home
  Here = home_of plan (g, r)

  stepped-tried : (n : PlainNode) (t : Stepped PlainNode) (i try : ℕ) → HasStepped w next a n t → t.after.grants.inc ≡ n.grants.inc → n.tries ≤ t.after.tries → IsTriedAt (slot_of w a) i try → IsTriedAt (slot_of next a) i try
  stepped-tried n t i try s inc more k =
      let came = k.came in
      let last = s.last in
      record {
        came = omega (arith, came, last);
        tried = λ m up is.
            let one = some-same t.after m (sym s.now ∙ up) in
            let low = k.tried n s.up (sym inc ∙ ap (λ (z : PlainNode). z.grants.inc) one ∙ is) in
            subst (λ (z : PlainNode). try ≤ z.tries) one (omega (arith, low, more));
      }

  tries-more : (n m : PlainNode) → TriesGo n m → n.tries ≤ m.tries
  tries-more n m (inl k) = let e = k.0 in omega (arith, e)
  tries-more n m (inr k) = let e = k.0 in omega (arith, e)

  same-more : (n m : PlainNode) → m.tries ≡ n.tries → n.tries ≤ m.tries
  same-more n m e = omega (arith, e)

  pub tried-on : ReplicaDoes w Here a d next → (i try : ℕ) → IsTriedAt (slot_of w a) i try → IsTriedAt (slot_of next a) i try
  tried-on (ReplicaDoes.Rests slot sends) i try k = subst (λ (z : Slot). IsTriedAt z i try) (sym slot) k
  tried-on (ReplicaDoes.Falls crash down last sends) i try k =
      let came = k.came in
      record { came = omega (arith, came, last); tried = λ m up is. let clash : ◌≡◌ {A = Option PlainNode} None (Some m) = sym down ∙ up in cc }
  tried-on (ReplicaDoes.Starts j newer down now last sends) i try k =
      let came = k.came in
      let less = lt-of (slot_of w a).last_inc j newer in
      record {
        came = omega (arith, came, last, less);
        tried = λ m up is.
            let inc : j ≡ i = sym (restarted-inc Here j) ∙ ap (λ (z : PlainNode). z.grants.inc) (some-same (restarted_node Here j) m (sym now ∙ up)) ∙ is in
            absurd (omega (arith, came, less, inc));
      }
  tried-on (ReplicaDoes.Takes j e n event there can to s) i try k =
      stepped-tried n (packet_step Here e.sender e.packet n) i try s (own-delivered Here e.sender e.packet n).grants.inc (tries-more n (packet_step Here e.sender e.packet n).after (packet-tries Here e.sender e.packet n)) k
  tried-on (ReplicaDoes.Ticks clock n event s) i try k = stepped-tried n (tick_step Here clock n) i try s (own-ticked Here clock n).grants.inc (same-more n (tick_step Here clock n).after (ticked-tries Here clock n).0) k
  tried-on (ReplicaDoes.Mills j n s) i try k =
      stepped-tried n (mill_step Here j n) i try s (own-milled Here j n).grants.inc (same-more n (mill_step Here j n).after (ap (λ (z : _). z.0) (milled-status Here j n))) k

-- ---- an event

module _ (w next : World) (d : Event) (a g r : ℕ) (plan : Plan) (does : (t c : ℕ) → role_of plan t ≡ IsNode g c → ReplicaDoes w (home_of plan (g, c)) t d next) (role : role_of plan a ≡ IsNode g r) (inc-last : (n : PlainNode) → (slot_of w a).node ≡ Some n → n.grants.inc ≡ (slot_of w a).last_inc) (h : AreTried plan a g w) where
  next-asks : (k i try : ℕ) (e : Envelope) → slice_get next.envelopes k ≡ Some e → e.sender ≡ a → e.packet ≡ Plain (message.SnapAsk i try) → IsTriedAt (slot_of next a) i try
  next-asks k i try e there mine packet =
      elim (ask-new w next d a g r plan (does a r role) k i try e there mine packet) [
        | inl old ↦ tried-on w next d a g r plan (does a r role) i try (h.asks k i try e old mine packet)
        | inr new ↦
            let n = new.node in
            let inc = new.inc in
            let last = inc-last n new.step.up in
            let same = new.try_is in
            let at : IsTriedAt (slot_of w a) i try = record {
              came = omega (arith, inc, last);
              tried = λ m up is. subst (λ (z : PlainNode). try ≤ z.tries) (some-same n m (sym new.step.up ∙ up)) (omega (arith, same));
            } in
            tried-on w next d a g r plan (does a r role) i try at
      ]

  next-snaps : (k i try c : ℕ) (e : Envelope) (s : Snap) → slice_get next.envelopes k ≡ Some e → role_of plan e.sender ≡ IsNode g c → e.to ≡ a → e.packet ≡ SnapFor i try s → IsTriedAt (slot_of next a) i try
  next-snaps k i try c e s there from to packet =
      elim (snap-new w next d g plan e.sender c (does e.sender c from) k i try e s there refl packet) [
        | inl old ↦ tried-on w next d a g r plan (does a r role) i try (h.snaps k i try c e s old from to packet)
        | inr new ↦ tried-on w next d a g r plan (does a r role) i try (h.asks new.place i try new.envelope new.there (sym new.answer.to_is ∙ to) new.answer.asked)
      ]

  pub tried-next : AreTried plan a g next
  tried-next = record { asks = next-asks; snaps = next-snaps }

-- ---- every run

pub tried-run : (plan : Plan) (events : List Event) → IsCheckedPlan plan → (a g r : ℕ) → role_of plan a ≡ IsNode g r → AreTried plan a g (run plan events)
tried-run plan events checked a g r role =
    every-run plan (λ w. AreTried plan a g w) (record { asks = λ k i try e there mine packet. absurd (never-sent plan k e there); snaps = λ k i try c e s there from to packet. absurd (never-sent plan k e there) }) (λ before e h.
    let w = run plan before in
    let same = run-plan plan before in
    let good = run-good plan before checked in
    let asking = asking-run plan before checked in
    tried-next w (happens w e) e a g r plan
    (λ t c is. subst (λ (z : Plan). ReplicaDoes w (home_of z (g, c)) t e (happens w e)) same (replica-does w (1 + length before) good.fine t g c (ap (λ (z : Plan). role_of z t) same ∙ is) e)) role
    (λ n up. (asking.nodes a g r n (ap (λ (z : Plan). role_of z a) same ∙ role) up).inc) h) events
