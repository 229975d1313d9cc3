-- The tick of a node whose ports are all broken opens each of them: no sender has heard of the new sessions, so what is kept holds anew.
use Rattle.std.proofs.Common.{◌≡◌, ℕ, ◌≤◌, true, false, List, length, refl, sym, ap, subst, ◌∙◌, arith, Option, Some, slice_get, ◌⊎◌, inl, inr}
use Rattle.dpc_model.specs.Inlets.{InletState, same_sess}
use Rattle.dpc_model.specs.Actors.{role_of, inputs_of, sends_stream}
use Rattle.dpc_model.specs.Ports.{Port}
use Rattle.dpc_model.specs.declared.actors.Role.{Role}
use Rattle.dpc_model.specs.declared.actors.Role.TheVariants.{Source as IsSource, Node as IsNode, Client as IsClient, Nobody}
use Rattle.dpc_model.specs.declared.messages.Event.{Event}
use Rattle.dpc_model.specs.declared.messages.Event.TheVariants.{Deliver, Tick}
use Rattle.dpc_model.specs.declared.messages.Sess.{Sess}
use Rattle.dpc_model.specs.declared.messages.Message.TheVariants as message
use Rattle.dpc_model.specs.declared.plans.StreamRef.{StreamRef}
use Rattle.dpc_model.specs.declared.plans.StreamRef.TheVariants.{Frag}
use Rattle.dpc_lists.proofs.Truths.{eq-of}
use Rattle.dpc_lists.proofs.Somes.{some-same}
use Rattle.node_model.specs.Mails.{Packet, Plain}
use Rattle.node_model.specs.Nodes.{Home, PlainNode, streams_of}
use Rattle.node_model.specs.NodeSteps.{tick_step}
use Rattle.world_model.specs.Worlds.{World, Envelope, home_of}
use Rattle.law_safety.proofs.Distinct.{readers-distinct}
use Rattle.law_safety.proofs.Numbering.{home-inputs}
use Rattle.law_safety.proofs.Growing.{Grows}
use Rattle.law_safety.proofs.Happening.{IsFine}
use Rattle.law_granting.specs.Taken.{node_port, role_port}
use Rattle.law_granting.proofs.Prefix.{IsReader}
use Rattle.law_granting.proofs.Slots.{got-sent}
use Rattle.law_readers.specs.Newest.{IsPortOf, KnowsNoNewer}
use Rattle.law_readers.proofs.Known.{sends-one}
use Rattle.law_readers.proofs.Read.{reached-port}
use Rattle.law_calm.proofs.Kept.{done-few}
use Rattle.law_calm.proofs.Steps.{port_at, Stays, Opens}
use Rattle.law_calm.proofs.Ticking.{IsAckOf, AcksOf, Acks}
use Rattle.law_survivors.proofs.Asking.{never-next, not-itself, IsAskedAt, asked-next}
use Rattle.law_survivors.proofs.Broken.{AreBroken, tick-goes, broken-opens}
use Rattle.law_survivors.proofs.Doing.{HasStepped, ReplicaDoes}
use Rattle.law_survivors.proofs.Kept.{IsKept}
use Rattle.law_survivors.proofs.Levels.{IsLevelIn, level-next}
use Rattle.law_survivors.proofs.Steps.{RefusesNow, refuses-new}

module _ (w next : World) (most : ℕ) (d : Event) (fine : IsFine w most) (a g r : ℕ) (role : role_of w.plan a ≡ IsNode g r) (grows : Grows w next) (does : (t f c : ℕ) → role_of w.plan t ≡ IsNode f c → ReplicaDoes w (home_of w.plan (f, c)) t d next) (clock : ℕ) (n : PlainNode) (event : d ≡ Tick a clock)
    (step : HasStepped w next a n (tick_step (home_of w.plan (g, r)) clock n)) (whole : n.recovering ≡ false) (broken : AreBroken n.ports) (counts : ℕ → Type 0)
    (came : (k i count : ℕ) (e : Envelope) → d ≡ Deliver k → slice_get w.envelopes k ≡ Some e → e.sender ≡ a → e.packet ≡ Plain (message.Ack i count) → counts i) (p f : ℕ) (port : IsPortOf w.plan a p (Frag f)) (reader : IsReader w.plan (Frag f) a) (known : KnowsNoNewer w.plan w a p (Frag f))
    (level : (q : Port) → port_at w a p ≡ Some q → IsLevelIn counts w.plan a f (length q.inlet.held.stable) w) where
  abbrev Here : Home
  Here = home_of w.plan (g, r)

  abbrev after : PlainNode
  after = (tick_step Here clock n).after

  at-role : (q : Port) → port_at w a p ≡ Some q → role_port w a p (role_of w.plan a) ≡ Some q
  at-role q was = ap (λ (z : Role). role_port w a p z) role ∙ was

  opens : (s : Port) → port_at next a p ≡ Some s → (q : Port) × (port_at w a p ≡ Some q) × Opens q s
  opens s there =
      let goes = tick-goes Here clock n whole in
      let k = goes.ports p s (sym (ap (λ (o : Option PlainNode). node_port p o) step.now) ∙ there) in
      (k.0, ap (λ (o : Option PlainNode). node_port p o) step.up ∙ k.1, subst (λ (z : Port). Opens k.0 z) (sym k.2) (broken-opens k.0 (broken p k.0 k.1)))

  stream-is : (t place : ℕ) (s : StreamRef) → slice_get (streams_of Here) place ≡ Some s → sends_stream s (role_of w.plan t) ≡ true → sends_stream (Frag f) (role_of w.plan t) ≡ true → place ≡ p
  stream-is t place s at sends to =
      let same : s ≡ Frag f = sends-one (Frag f) s (role_of w.plan t) to sends in
      port.only place (ap (λ (z : Role). slice_get (inputs_of w.plan z) place) role ∙ ap (λ (ss : List StreamRef). slice_get ss place) (home-inputs Here r) ∙ at ∙ ap {B = Option StreamRef} Some same)

  -- ---- the level

  acked : (k i count : ℕ) (e : Envelope) → slice_get next.envelopes k ≡ Some e → e.packet ≡ Plain (message.Ack i count) → (slice_get w.envelopes k ≡ Some e) ⊎ IsAckOf Here after e.to count
  acked k i count e there packet =
      elim (got-sent (Acks Here after) a w.envelopes (tick_step Here clock n).sends k e (tick-goes Here clock n whole).acks (sym (ap (λ (es : List Envelope). slice_get es k) step.sends) ∙ there)) [
        | inl old ↦ inl old
        | inr (m, of, acks) ↦ inr (subst (λ (z : Packet). AcksOf Here after e.to z) packet (subst (λ (z : Envelope). AcksOf Here after z.to z.packet) (sym of) acks))
      ]

  opened-level : (s : Port) → port_at next a p ≡ Some s → IsLevelIn counts w.plan a f (length s.inlet.held.stable) next
  opened-level s there =
      let k = opens s there in
      let same : length s.inlet.held.stable ≡ length k.0.inlet.held.stable = ap (λ (z : InletState). length z.held.stable) k.2.inlet in
      level-next w next most d fine a f (length k.0.inlet.held.stable) (length s.inlet.held.stable) counts came reader (le-same (length s.inlet.held.stable) (length k.0.inlet.held.stable) same) (level k.0 k.1) (λ t c is. does t f c is)
      (λ j i count e counted at mine to packet. by-new count e to (acked j i count e at packet))
    where
      le-same : (i j : ℕ) → i ≡ j → j ≤ i
      le-same i j e = omega (arith, e)

      by-new : {T : Type 0} (count : ℕ) (e : Envelope) → sends_stream (Frag f) (role_of w.plan e.to) ≡ true → T ⊎ IsAckOf Here after e.to count → T ⊎ (count ≤ length s.inlet.held.stable)
      by-new count e to (inl old) = inl old
      by-new count e to (inr y) =
          let place = stream-is e.to y.place y.stream y.reads y.sends to in
          let is : y.port ≡ s = some-same y.port s (sym y.there ∙ ap (λ (z : ℕ). slice_get after.ports z) place ∙ sym (ap (λ (o : Option PlainNode). node_port p o) step.now) ∙ there) in
          let few = done-few Here after y.port in
          let it = y.count_is in
          inr (subst (λ (z : Port). count ≤ length z.inlet.held.stable) is (omega (arith, few, it)))

  -- ---- subscriptions and refusals

  opened-asked : (s : Port) → port_at next a p ≡ Some s → IsAskedAt w.plan a f next s
  opened-asked s there =
      let k = opens s there in
      asked-next w next most d fine a g r role grows (does a g r role) p f port known s there k.0 k.1 (inr k.2) (λ (y : Stays w Here a p k.0 s). absurd (not-itself k.0.inlet.sess (sym y.sess ∙ ap (λ (z : InletState). z.sess) k.2.inlet)))

  opened-truncated : (k base : ℕ) (e : Envelope) (u : Sess) (s : Port) → slice_get next.envelopes k ≡ Some e → e.to ≡ a → sends_stream (Frag f) (role_of w.plan e.sender) ≡ true → e.packet ≡ Plain (message.Truncated u base) → port_at next a p ≡ Some s → same_sess u s.inlet.sess ≡ false
  opened-truncated k base e u s at to sends packet there = by-role (role_of w.plan e.sender) refl sends
    where
      by-cases : (slice_get w.envelopes k ≡ Some e) ⊎ RefusesNow w e.sender d a reader.place u → same_sess u s.inlet.sess ≡ false
      by-cases (inl old) =
          let y = opens s there in
          subst (λ (z : InletState). same_sess u z.sess ≡ false) (sym y.2.inlet) (never-next y.0.inlet.sess u (reached-port w a p (role_of w.plan a) u y.0 (known.truncated k base e u old to sends packet) (at-role y.0 y.1)))
      by-cases (inr new) = let clash : Tick a clock ≡ Deliver new.place = sym event ∙ new.event in cc

      by-role : (is : Role) → role_of w.plan e.sender ≡ is → sends_stream (Frag f) is ≡ true → same_sess u s.inlet.sess ≡ false
      by-role (IsSource v) is t = cc
      by-role (IsClient v) is t = cc
      by-role Nobody is t = cc
      by-role (IsNode v c) is t =
          let one : v ≡ f = sym (eq-of f v t) in
          let role_t : role_of w.plan e.sender ≡ IsNode f c = is ∙ ap (λ (z : ℕ). IsNode z c) one in
          by-cases (refuses-new w next (home_of w.plan (f, c)) e.sender d a reader.place (readers-distinct w.plan (Frag f)) reader.low reader.it (does e.sender f c role_t) k base e u at refl to packet)

  pub opened-kept : IsKept counts w.plan a p f next
  opened-kept = record { level = opened-level; asked = λ k e asks s at mine to packet there same. opened-asked s there k e asks at mine to packet same; truncated = opened-truncated }
