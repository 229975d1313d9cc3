-- What a fragment's replicas forget the node that reads the fragment and stands whole holds, and its present session there is never truncated.
use Rattle.std.proofs.Common.{◌≡◌, ℕ, ◌≤◌, true, false, ◌&&◌, ◌==◌, List, length, refl, sym, ap, subst, ◌∙◌, arith, Option, Some, slice_get, ◌⊎◌, inl, inr}
use Rattle.dpc_lists.specs.Lists.{nth}
use Rattle.dpc_model.specs.Inlets.{InletState, same_sess, with_next_session}
use Rattle.dpc_model.specs.Actors.{role_of, inputs_of, sends_stream}
use Rattle.dpc_model.specs.Ports.{Port}
use Rattle.dpc_model.specs.Sessions.{no_session, is_newer_than_kept}
use Rattle.dpc_model.specs.declared.actors.Role.{Role}
use Rattle.dpc_model.specs.declared.actors.Role.TheVariants.{Source as IsSource, Node as IsNode, Client as IsClient, Nobody}
use Rattle.dpc_model.specs.declared.messages.Event.{Event}
use Rattle.dpc_model.specs.declared.messages.Event.TheVariants.{Deliver}
use Rattle.dpc_model.specs.declared.messages.Sess.{Sess}
use Rattle.dpc_model.specs.declared.messages.Subscribe.{Subscribe}
use Rattle.dpc_model.specs.declared.messages.Message.TheVariants as message
use Rattle.dpc_model.specs.declared.plans.Plan.{Plan}
use Rattle.dpc_model.specs.declared.plans.StreamRef.{StreamRef}
use Rattle.dpc_model.specs.declared.plans.StreamRef.TheVariants.{Frag}
use Rattle.node_model.specs.Mails.{Packet, Plain}
use Rattle.node_model.specs.Nodes.{Home, PlainNode, streams_of}
use Rattle.world_model.specs.Worlds.{World, Envelope, home_of, slot_of, can_come}
use Rattle.world_model.specs.SessionLaw.{Channel}
use Rattle.dpc_lists.proofs.Truths.{eq-of, eq-test, both-of}
use Rattle.dpc_model.proofs.Alike.{same_sess-eq}
use Rattle.dpc_lists.proofs.Somes.{some-same}
use Rattle.law_safety.proofs.Distinct.{readers-distinct}
use Rattle.law_safety.proofs.Numbering.{home-inputs}
use Rattle.law_safety.proofs.Growing.{Grows}
use Rattle.law_safety.proofs.Happening.{IsFine}
use Rattle.law_granting.specs.Taken.{node_port, role_port, subscribes, envelope_subscribes, subscribes_packet}
use Rattle.law_granting.proofs.Prefix.{IsReader}
use Rattle.law_readers.specs.Newest.{IsPortOf, KnowsNoNewer}
use Rattle.law_readers.proofs.Known.{sends-one}
use Rattle.law_readers.proofs.Read.{reached-port}
use Rattle.law_calm.proofs.Steps.{port_at, Stays, Opens, went-longer}
use Rattle.law_calm.proofs.Kept.{WasAnswered, IsWaiting, done-few}
use Rattle.law_survivors.specs.Spared.{StandsIn}
use Rattle.law_survivors.proofs.Doing.{ReplicaDoes, NoneHarms}
use Rattle.law_survivors.proofs.Steps.{port-went, AcksNow, acks-new, RefusesNow, refuses-new}
use Rattle.law_survivors.proofs.Asking.{never-next, asked-next}
use Rattle.law_survivors.proofs.Levels.{IsLevelIn, level-next}

-- ---- what is kept

-- no replica that answers x's subscription by this event sent a batch of the session before, where it keeps no session so new
abbrev pub NoneIsFresh : Plan → ℕ → ℕ → ℕ → World → Event → Type 0
NoneIsFresh plan x f k w d =
    (a r : ℕ) (s : Sess) (n : PlainNode) → role_of plan a ≡ IsNode f r → (slot_of w a).node ≡ Some n → is_newer_than_kept s (nth no_session n.subs k).kept ≡ true →
    subscribes (record { sender = a; reader = x; sess = s }) w d ≡ true → WasAnswered w a x s → ⊥

-- the acknowledgements of the incarnations that count stay below the level
pub record IsKept (counts : ℕ → Type 0) (plan : Plan) (x p f : ℕ) (w : World) : Type 0 where
  pub level : (q : Port) → port_at w x p ≡ Some q → IsLevelIn counts plan x f (length q.inlet.held.stable) w
  pub asked : (k : ℕ) (e : Envelope) (asks : Subscribe) (q : Port) → slice_get w.envelopes k ≡ Some e → e.sender ≡ x → sends_stream (Frag f) (role_of plan e.to) ≡ true → e.packet ≡ Plain (message.Subscribe asks) → port_at w x p ≡ Some q →
      same_sess asks.sess q.inlet.sess ≡ true → IsWaiting plan x f w q e.to asks.n
  pub truncated : (k base : ℕ) (e : Envelope) (u : Sess) (q : Port) → slice_get w.envelopes k ≡ Some e → e.to ≡ x → sends_stream (Frag f) (role_of plan e.sender) ≡ true → e.packet ≡ Plain (message.Truncated u base) → port_at w x p ≡ Some q →
      same_sess u q.inlet.sess ≡ false

module _ {incarnation : ℕ} (w next : World) (most : ℕ) (d : Event) (fine : IsFine w most) (x g b : ℕ) (role : role_of w.plan x ≡ IsNode g b) (stands : StandsIn incarnation w x) (harmless : NoneHarms w (home_of w.plan (g, b)) x) (grows : Grows w next)
    (does : (a f r : ℕ) → role_of w.plan a ≡ IsNode f r → ReplicaDoes w (home_of w.plan (f, r)) a d next)
    (counts : ℕ → Type 0) (came : (k i count : ℕ) (e : Envelope) → d ≡ Deliver k → slice_get w.envelopes k ≡ Some e → e.sender ≡ x → e.packet ≡ Plain (message.Ack i count) → counts i)
    (p f : ℕ) (port : IsPortOf w.plan x p (Frag f)) (reader : IsReader w.plan (Frag f) x) (known : KnowsNoNewer w.plan w x p (Frag f)) (fresh : NoneIsFresh w.plan x f reader.place w d) (h : IsKept counts w.plan x p f w) where
  abbrev Here : Home
  Here = home_of w.plan (g, b)

  -- what x acknowledges now
  abbrev Acks : ℕ → ℕ → Type 0
  Acks to count = AcksNow w next Here x d stands harmless to count

  went : (r : Port) → port_at next x p ≡ Some r → (q : Port) × (port_at w x p ≡ Some q) × (Stays w Here x p q r ⊎ Opens q r)
  went r there = port-went w next Here x d stands harmless (does x g b role) p r there

  at-role : (q : Port) → port_at w x p ≡ Some q → role_port w x p (role_of w.plan x) ≡ Some q
  at-role q was = ap (λ (z : Role). role_port w x p z) role ∙ was

  -- a stream of a port, where a replica of the fragment sends it
  stream-is : (a place : ℕ) (s : StreamRef) → slice_get (streams_of Here) place ≡ Some s → sends_stream s (role_of w.plan a) ≡ true → sends_stream (Frag f) (role_of w.plan a) ≡ true → place ≡ p
  stream-is a place s at sends to =
      let same : s ≡ Frag f = sends-one (Frag f) s (role_of w.plan a) to sends in
      port.only place (ap (λ (z : Role). slice_get (inputs_of w.plan z) place) role ∙ ap (λ (ss : List StreamRef). slice_get ss place) (home-inputs Here b) ∙ at ∙ ap {B = Option StreamRef} Some same)

  -- ---- the level

  kept-level : (r : Port) → port_at next x p ≡ Some r → IsLevelIn counts w.plan x f (length r.inlet.held.stable) next
  kept-level r there =
      let k = went r there in
      level-next w next most d fine x f (length k.0.inlet.held.stable) (length r.inlet.held.stable) counts came reader (went-longer w Here x p k.0 r k.2) (h.level k.0 k.1) (λ a c is. does a f c is)
      (λ j i count e counted at mine to packet. by-new count e to (acks-new w next Here x d stands harmless (does x g b role) j i count e at mine packet))
    where
      by-new : {T : Type 0} (count : ℕ) (e : Envelope) → sends_stream (Frag f) (role_of w.plan e.to) ≡ true → T ⊎ Acks e.to count → T ⊎ (count ≤ length r.inlet.held.stable)
      by-new count e to (inl old) = inl old
      by-new count e to (inr new) =
          let a = new.acks in
          let place = stream-is e.to a.place a.stream a.reads a.sends to in
          let is : a.port ≡ r = some-same a.port r (sym a.there ∙ ap (λ (z : ℕ). slice_get new.after.ports z) place ∙ sym (ap (λ (o : Option PlainNode). node_port p o) new.now) ∙ there) in
          let few = done-few Here new.after a.port in
          let it = a.count_is in
          inr (subst (λ (z : Port). count ≤ length z.inlet.held.stable) is (omega (arith, few, it)))

  -- ---- subscriptions

  kept-asked : (k : ℕ) (e : Envelope) (asks : Subscribe) (r : Port) → slice_get next.envelopes k ≡ Some e → e.sender ≡ x → sends_stream (Frag f) (role_of w.plan e.to) ≡ true → e.packet ≡ Plain (message.Subscribe asks) → port_at next x p ≡ Some r →
      same_sess asks.sess r.inlet.sess ≡ true → IsWaiting w.plan x f next r e.to asks.n
  kept-asked k e asks r at mine to packet there same =
      let wn = went r there in
      asked-next w next most d fine x g b role grows (does x g b role) p f port known r there wn.0 wn.1 wn.2 (λ s j y asked there_y mine_y to_y packet_y same_y. h.asked j y asked wn.0 there_y mine_y to_y packet_y wn.1 same_y) k e asks at mine to packet same

  -- ---- truncations

  kept-truncated : (k base : ℕ) (e : Envelope) (u : Sess) (r : Port) → slice_get next.envelopes k ≡ Some e → e.to ≡ x → sends_stream (Frag f) (role_of w.plan e.sender) ≡ true → e.packet ≡ Plain (message.Truncated u base) → port_at next x p ≡ Some r →
      same_sess u r.inlet.sess ≡ false
  kept-truncated k base e u r at to sends packet there = by-role (role_of w.plan e.sender) refl sends
    where
      -- the subscription comes to the replica by this event
      asks-it : (a : ℕ) (n : RefusesNow w a d x reader.place u) → subscribes (record { sender = a; reader = x; sess = n.asked.sess }) w d ≡ true
      asks-it a n =
          let l : Channel = record { sender = a; reader = x; sess = n.asked.sess } in
          let named : subscribes_packet n.asked.sess n.envelope.packet ≡ true = ap (λ (z : Packet). subscribes_packet n.asked.sess z) n.packet ∙ self-same n.asked.sess in
          ap (λ (z : Event). subscribes l w z) n.event ∙ ap (λ (o : Option Envelope). envelope_subscribes l w o) n.there
          ∙ both-of (n.envelope.sender == x && n.envelope.to == a && subscribes_packet n.asked.sess n.envelope.packet) (can_come w n.envelope)
          (both-of (n.envelope.sender == x && n.envelope.to == a) (subscribes_packet n.asked.sess n.envelope.packet) (both-of (n.envelope.sender == x) (n.envelope.to == a) (eq-test n.envelope.sender x n.reader) (eq-test n.envelope.to a n.to)) named) n.can
        where
          self-same : (s : Sess) → same_sess s s ≡ true
          self-same s = both-of (s.inc == s.inc) (s.number == s.number) (eq-test s.inc s.inc refl) (eq-test s.number s.number refl)

      -- a replica refuses no present session
      refused : (a c : ℕ) (is : role_of w.plan a ≡ IsNode f c) (q : Port) → port_at w x p ≡ Some q → Stays w Here x p q r ⊎ Opens q r → RefusesNow w a d x reader.place u → same_sess u r.inlet.sess ≡ true → ⊥
      refused a c is q was (inr o) n same =
          let known_sess = reached-port w x p (role_of w.plan x) n.asked.sess q (known.asked n.place n.envelope n.asked n.there n.reader (ap (λ (z : ℕ). sends_stream (Frag f) (role_of w.plan z)) n.to ∙ ap (λ (z : Role). sends_stream (Frag f) z) is ∙ eq-test f f refl) n.packet) (at-role q was) in
          let other = never-next q.inlet.sess n.asked.sess known_sess in
          let now : same_sess n.asked.sess (with_next_session q.inlet).sess ≡ true = subst (λ (z : InletState). same_sess n.asked.sess z.sess ≡ true) o.inlet (subst (λ (z : Sess). same_sess z r.inlet.sess ≡ true) (sym n.session) same) in
          let clash : true ≡ false = sym now ∙ other in cc
      refused a c is q was (inl s) n same =
          let sends_it : sends_stream (Frag f) (role_of w.plan n.envelope.to) ≡ true = ap (λ (z : ℕ). sends_stream (Frag f) (role_of w.plan z)) n.to ∙ ap (λ (z : Role). sends_stream (Frag f) z) is ∙ eq-test f f refl in
          let same_q : same_sess n.asked.sess q.inlet.sess ≡ true = subst (λ (z : Sess). same_sess n.asked.sess z ≡ true) s.sess (subst (λ (z : Sess). same_sess z r.inlet.sess ≡ true) (sym n.session) same) in
          let waiting = h.asked n.place n.envelope n.asked q n.there n.reader sends_it n.packet was same_q in
          by-waits same_q waiting.waits
        where
          by-waits : same_sess n.asked.sess q.inlet.sess ≡ true → (length q.inlet.held.stable ≤ n.asked.n) ⊎ WasAnswered w n.envelope.to x q.inlet.sess → ⊥
          by-waits same_q (inl low) =
              let base_low = ((h.level q was).nodes a c n.node is n.up).base in
              let below = n.below in
              omega (arith, low, base_low, below)
          by-waits same_q (inr answered) =
              let sess_is : n.asked.sess ≡ q.inlet.sess = same_sess-eq n.asked.sess q.inlet.sess same_q in
              fresh a c n.asked.sess n.node is n.up n.newer (asks-it a n) (subst (λ (z : Sess). WasAnswered w a x z) (sym sess_is) (subst (λ (z : ℕ). WasAnswered w z x q.inlet.sess) n.to answered))

      by-cases : (c : ℕ) (is : role_of w.plan e.sender ≡ IsNode f c) (q : Port) → port_at w x p ≡ Some q → Stays w Here x p q r ⊎ Opens q r → (slice_get w.envelopes k ≡ Some e) ⊎ RefusesNow w e.sender d x reader.place u → same_sess u r.inlet.sess ≡ false
      by-cases c is q was (inl s) (inl old) = subst (λ (z : Sess). same_sess u z ≡ false) (sym s.sess) (h.truncated k base e u q old to sends packet was)
      by-cases c is q was (inr o) (inl old) =
          subst (λ (z : InletState). same_sess u z.sess ≡ false) (sym o.inlet) (never-next q.inlet.sess u (reached-port w x p (role_of w.plan x) u q (known.truncated k base e u old to sends packet) (at-role q was)))
      by-cases c is q was moved (inr new) =
          (elim (same_sess u r.inlet.sess) as (λ t. same_sess u r.inlet.sess ≡ t → t ≡ false) [
            | false ↦ λ e. refl
            | true ↦ λ e_same. absurd (refused e.sender c is q was moved new e_same)
          ]) refl

      by-role : (is : Role) → role_of w.plan e.sender ≡ is → sends_stream (Frag f) is ≡ true → same_sess u r.inlet.sess ≡ false
      by-role (IsSource v) is t = cc
      by-role (IsClient v) is t = cc
      by-role Nobody is t = cc
      by-role (IsNode v c) is t =
          let one : v ≡ f = sym (eq-of f v t) in
          let role_a : role_of w.plan e.sender ≡ IsNode f c = is ∙ ap (λ (z : ℕ). IsNode z c) one in
          let wn = went r there in
          by-cases c role_a wn.0 wn.1 wn.2
          (refuses-new w next (home_of w.plan (f, c)) e.sender d x reader.place (readers-distinct w.plan (Frag f)) reader.low reader.it (does e.sender f c role_a) k base e u at refl to packet)

  pub kept-next : IsKept counts w.plan x p f next
  kept-next = record { level = kept-level; asked = kept-asked; truncated = kept-truncated }
