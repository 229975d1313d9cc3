-- What a fragment's replicas forget the node that reads the fragment at one port holds, and its present session there is never truncated.
use Rattle.std.proofs.Common.{◌≡◌, ℕ, zero, suc, ◌+◌, ◌*◌, ◌≤◌, true, false, cond, ◌==◌, nat_lt, List, [], ◌∷◌, length, refl, sym, ap, subst, ◌∙◌, arith, Option, Some, None, slice_get, ◌⊎◌, inl, inr}
use Rattle.std.proofs.lemmas.Grind.{common_steps}
use Rattle.dpc_lists.specs.Lists.{nth}
use Rattle.dpc_model.specs.Streams.{count_below}
use Rattle.dpc_model.specs.Inlets.{InletState, same_sess, is_newer, with_next_session, asked_by}
use Rattle.dpc_model.specs.Actors.{role_of, inputs_of, sends_stream, senders_of}
use Rattle.dpc_model.specs.Ports.{Port, without_ended_marks, port_after_tick, choice_at}
use Rattle.dpc_model.specs.Sessions.{no_session, is_newer_than_kept}
use Rattle.dpc_model.specs.declared.actors.Role.{Role}
use Rattle.dpc_model.specs.declared.actors.Role.TheVariants.{Source as IsSource, Node as IsNode, Client as IsClient, Nobody}
use Rattle.dpc_model.specs.declared.tuples.Tuple.{Tuple}
use Rattle.dpc_model.specs.declared.messages.Sess.{Sess}
use Rattle.dpc_model.specs.declared.messages.Subscribe.{Subscribe}
use Rattle.dpc_model.specs.declared.messages.Message.TheVariants as message
use Rattle.dpc_model.specs.declared.plans.Plan.{Plan}
use Rattle.dpc_model.specs.declared.plans.StreamRef.{StreamRef}
use Rattle.dpc_model.specs.declared.plans.StreamRef.TheVariants.{Frag}
use Rattle.dpc_lists.proofs.Elements.{get-first}
use Rattle.dpc_model.proofs.Prefixes.{length-filter_le}
use Rattle.node_model.specs.Mails.{Packet, Plain}
use Rattle.node_model.specs.Nodes.{Home, PlainNode, streams_of}
use Rattle.node_model.specs.NodeSteps.{done_at}
use Rattle.world_model.specs.Worlds.{World, Envelope, home_of, slot_of}
use Rattle.world_model.specs.SessionLaw.{Channel}
use Rattle.dpc_lists.proofs.Truths.{eq-of, eq-test}
use Rattle.dpc_lists.proofs.Places.{place-nth}
use Rattle.dpc_model.proofs.Alike.{same_sess-eq}
use Rattle.dpc_lists.proofs.Somes.{some-same}
use Rattle.law_safety.proofs.Distinct.{readers-distinct}
use Rattle.law_safety.proofs.Pointwise.{sender-of}
use Rattle.law_safety.proofs.Numbering.{home-inputs}
use Rattle.law_safety.proofs.Growing.{Grows}
use Rattle.law_safety.proofs.Happening.{IsFine}
use Rattle.law_granting.specs.Taken.{index_in, index_of, node_port, role_port}
use Rattle.law_granting.proofs.Prefix.{IsReader}
use Rattle.law_granting.proofs.Sending.{indexes}
use Rattle.law_readers.specs.Newest.{IsPortOf, KnowsNoNewer}
use Rattle.law_readers.proofs.Known.{sends-one, asks-place}
use Rattle.law_readers.proofs.Read.{reached-port}
use Rattle.law_calm.proofs.Doing.{AreCalmSlots, NoneHarms, NodeDoes}
use Rattle.law_calm.proofs.Steps.{port_at, Came, Stays, Opens, went-longer, port-went, AsksNow, asks-new, AcksNow, acks-new, RefusesNow, refuses-new}
use Rattle.law_calm.proofs.Levels.{IsLevel, level-next}

-- ---- sessions

never-next : (u v : Sess) → is_newer v u ≡ false → same_sess v (record u { number = u.number + 1 }) ≡ false
never-next u v h = grind (arith, common_steps)

not-itself : (u : Sess) → u ≡ record u { number = u.number + 1 } → ⊥
not-itself u e = let n = ap (λ (z : Sess). z.number) e in omega (arith, n)

-- ---- what is kept

-- a batch of a session was sent
pub record WasAnswered (w : World) (a x : ℕ) (s : Sess) : Type 0 where
  pub place : ℕ
  pub envelope : Envelope
  pub index : ℕ
  pub there : slice_get w.envelopes place ≡ Some envelope
  pub batch : index_of (record { sender = a; reader = x; sess = s }) envelope ≡ Some index

-- a replica sent no batch of a session that is newer than the one it keeps
abbrev pub NoneIsFresh : Plan → ℕ → ℕ → ℕ → World → Type 0
NoneIsFresh plan x f k w =
    (a r : ℕ) (s : Sess) (n : PlainNode) → role_of plan a ≡ IsNode f r → (slot_of w a).node ≡ Some n → is_newer_than_kept s (nth no_session n.subs k).kept ≡ true → WasAnswered w a x s → ⊥

-- a subscription to the present session went to the replica that the port reads, and says what the port holds, until it is answered
pub record IsWaiting (plan : Plan) (x f : ℕ) (w : World) (q : Port) (to n : ℕ) : Type 0 where
  pub to_is : to ≡ nth 0 (senders_of plan (Frag f)) q.chosen
  pub waits : (length q.inlet.held.stable ≤ n) ⊎ WasAnswered w to x q.inlet.sess

pub record IsKept (plan : Plan) (x p f : ℕ) (w : World) : Type 0 where
  pub level : (q : Port) → port_at w x p ≡ Some q → IsLevel plan x f (length q.inlet.held.stable) w
  pub asked : (k : ℕ) (e : Envelope) (asks : Subscribe) (q : Port) → slice_get w.envelopes k ≡ Some e → e.sender ≡ x → sends_stream (Frag f) (role_of plan e.to) ≡ true → e.packet ≡ Plain (message.Subscribe asks) → port_at w x p ≡ Some q →
      same_sess asks.sess q.inlet.sess ≡ true → IsWaiting plan x f w q e.to asks.n
  pub truncated : (k base : ℕ) (e : Envelope) (u : Sess) (q : Port) → slice_get w.envelopes k ≡ Some e → e.to ≡ x → sends_stream (Frag f) (role_of plan e.sender) ≡ true → e.packet ≡ Plain (message.Truncated u base) → port_at w x p ≡ Some q →
      same_sess u q.inlet.sess ≡ false

-- ---- small facts

-- a port acknowledges no more than it holds
pub done-few : (home : Home) (z : PlainNode) (q : Port) → done_at home z q ≤ length q.inlet.held.stable
done-few home z q =
    elim z.recovering as (λ b. cond {A = ℕ} b 0 (count_below q.inlet.held.stable (z.cursor * home.plan.width)) ≤ length q.inlet.held.stable) [
      | true ↦ omega arith
      | false ↦ length-filter_le (λ (t : Tuple). nat_lt t.stime (z.cursor * home.plan.width)) q.inlet.held.stable
    ]

-- where no batch was sent, none is there
pub none-indexed : (l : Channel) (es : List Envelope) (k : ℕ) (e : Envelope) (i : ℕ) → indexes l es ≡ [] → slice_get es k ≡ Some e → index_of l e ≡ Some i → ⊥
none-indexed l [] k e i none there at = cc
none-indexed l (y ∷ es) zero e i none there at =
    let it : y ≡ e = some-same y e there in
    let first : index_of l y ≡ Some i = ap (λ (z : Envelope). index_of l z) it ∙ at in
    let clash : i ∷ indexes l es ≡ [] = subst (λ (o : Option ℕ). elim o as (λ _. List ℕ) [ None ↦ indexes l es | Some j ↦ j ∷ indexes l es ] ≡ []) first none in cc
none-indexed l (y ∷ es) (suc k) e i none there at =
    elim (index_of l y) as (λ o. elim o as (λ _. List ℕ) [ None ↦ indexes l es | Some j ↦ j ∷ indexes l es ] ≡ [] → ⊥) [
      | None ↦ λ f. none-indexed l es k e i f there at
      | Some j ↦ λ f. cc
    ] none

module _ (w next : World) (most : ℕ) (fine : IsFine w most) (calm : AreCalmSlots w.nodes) (harmless : NoneHarms w) (x g b : ℕ) (role : role_of w.plan x ≡ IsNode g b) (grows : Grows w next) (does : (a f r : ℕ) → role_of w.plan a ≡ IsNode f r → NodeDoes w (home_of w.plan (f, r)) a next)
    (p f : ℕ) (port : IsPortOf w.plan x p (Frag f)) (reader : IsReader w.plan (Frag f) x) (known : KnowsNoNewer w.plan w x p (Frag f)) (fresh : NoneIsFresh w.plan x f reader.place w) (h : IsKept w.plan x p f w) where
  abbrev Here : Home
  Here = home_of w.plan (g, b)

  went : (r : Port) → port_at next x p ≡ Some r → (q : Port) × (port_at w x p ≡ Some q) × (Stays w Here x p q r ⊎ Opens q r)
  went r there = port-went w next most fine calm harmless x g b role (does x g b role) p r there

  at-role : (q : Port) → port_at w x p ≡ Some q → role_port w x p (role_of w.plan x) ≡ Some q
  at-role q was = ap (λ (z : Role). role_port w x p z) role ∙ was

  still-there : (k : ℕ) (e : Envelope) → slice_get w.envelopes k ≡ Some e → slice_get next.envelopes k ≡ Some e
  still-there k e there = ap (λ (es : List Envelope). slice_get es k) grows.envelopes ∙ get-first w.envelopes grows.more k e there

  -- a stream of a port, where a replica of the fragment sends it
  stream-is : (a place : ℕ) (s : StreamRef) → slice_get (streams_of Here) place ≡ Some s → sends_stream s (role_of w.plan a) ≡ true → sends_stream (Frag f) (role_of w.plan a) ≡ true → place ≡ p
  stream-is a place s reads sends to =
      let same : s ≡ Frag f = sends-one (Frag f) s (role_of w.plan a) to sends in
      port.only place (ap (λ (z : Role). slice_get (inputs_of w.plan z) place) role ∙ ap (λ (ss : List StreamRef). slice_get ss place) (home-inputs Here b) ∙ reads ∙ ap {B = Option StreamRef} Some same)

  -- ---- the level

  kept-level : (r : Port) → port_at next x p ≡ Some r → IsLevel w.plan x f (length r.inlet.held.stable) next
  kept-level r there =
      let k = went r there in
      level-next w next most fine calm x f (length k.0.inlet.held.stable) (length r.inlet.held.stable) reader (went-longer w Here x p k.0 r k.2) (h.level k.0 k.1) (λ a c is. does a f c is)
      (λ j i count e at mine to packet. by-new count e to (acks-new w next most fine calm harmless x g b role (does x g b role) j i count e at mine packet))
    where
      by-new : {T : Type 0} (count : ℕ) (e : Envelope) → sends_stream (Frag f) (role_of w.plan e.to) ≡ true → T ⊎ AcksNow w next most fine calm harmless x g b role e.to count → T ⊎ (count ≤ length r.inlet.held.stable)
      by-new count e to (inl old) = inl old
      by-new count e to (inr new) =
          let a = new.acks in
          let place = stream-is e.to a.place a.stream a.reads a.sends to in
          let is : a.port ≡ r = some-same a.port r (sym a.there ∙ ap (λ (z : ℕ). slice_get new.after.ports z) place ∙ sym (ap (λ (o : Option PlainNode). node_port p o) new.now) ∙ there) in
          let few = done-few Here new.after a.port in
          let it = a.count_is in
          inr (subst (λ (z : Port). count ≤ length z.inlet.held.stable) is (omega (arith, few, it)))

  -- ---- subscriptions

  answered-later : (a : ℕ) (s u : Sess) → s ≡ u → WasAnswered w a x s → WasAnswered next a x u
  answered-later a s u same k =
      subst (λ (z : Sess). WasAnswered next a x z) same (record { place = k.place; envelope = k.envelope; index = k.index; there = still-there k.place k.envelope k.there; batch = k.batch })

  -- a batch that came
  came-answered : (q r : Port) → Came w Here x p q r → WasAnswered w (nth 0 (senders_of w.plan (Frag f)) q.chosen) x q.inlet.sess
  came-answered q r c =
      let t = c.took in
      let from = sender-of w.plan (streams_of Here) c.envelope.sender p q.chosen t.sender in
      let reads : slice_get (streams_of Here) p ≡ Some (Frag f) = sym (ap (λ (ss : List StreamRef). slice_get ss p) (home-inputs Here b)) ∙ ap (λ (z : Role). slice_get (inputs_of w.plan z) p) (sym role) ∙ port.there in
      let stream : from.stream ≡ Frag f = some-same from.stream (Frag f) (sym from.at ∙ reads) in
      let sender : nth 0 (senders_of w.plan (Frag f)) q.chosen ≡ c.envelope.sender = ap (λ (s : StreamRef). nth 0 (senders_of w.plan s) q.chosen) (sym stream) ∙ place-nth c.envelope.sender (senders_of w.plan from.stream) q.chosen from.place in
      let mine : (c.envelope.sender == nth 0 (senders_of w.plan (Frag f)) q.chosen) ≡ true = eq-test c.envelope.sender (nth 0 (senders_of w.plan (Frag f)) q.chosen) (sym sender) in
      let to : (c.envelope.to == x) ≡ true = eq-test c.envelope.to x c.to in
      let named = t.named in
      let index : index_in q.inlet.sess c.envelope.packet ≡ Some t.index = ap (λ (z : Packet). index_in q.inlet.sess z) t.packet_is ∙ rw named refl in
      record { place = c.place; envelope = c.envelope; index = t.index; there = c.there; batch = rw (mine, to) index }

  -- an old subscription, where the session stays
  waits-on : (q r : Port) (to n : ℕ) → Stays w Here x p q r → IsWaiting w.plan x f w q to n → IsWaiting w.plan x f next r to n
  waits-on q r to n s k =
      let to_is : to ≡ nth 0 (senders_of w.plan (Frag f)) r.chosen = k.to_is ∙ ap (λ (z : ℕ). nth 0 (senders_of w.plan (Frag f)) z) (sym s.chosen) in
      record {
        to_is = to_is;
        waits = elim k.waits [
          | inr answered ↦ inr (answered-later to q.inlet.sess r.inlet.sess (sym s.sess) answered)
          | inl low ↦ elim s.held [
            | inl same ↦ inl (subst (λ (z : _). length z.stable ≤ n) (sym same) low)
            | inr came ↦ inr (answered-later to q.inlet.sess r.inlet.sess (sym s.sess) (subst (λ (z : ℕ). WasAnswered w z x q.inlet.sess) (sym k.to_is) (came-answered q r came)))
          ]
        ];
      }

  kept-asked : (k : ℕ) (e : Envelope) (asks : Subscribe) (r : Port) → slice_get next.envelopes k ≡ Some e → e.sender ≡ x → sends_stream (Frag f) (role_of w.plan e.to) ≡ true → e.packet ≡ Plain (message.Subscribe asks) → port_at next x p ≡ Some r →
      same_sess asks.sess r.inlet.sess ≡ true → IsWaiting w.plan x f next r e.to asks.n
  kept-asked k e asks r at mine to packet there same =
      let wn = went r there in
      by-cases wn.0 wn.1 wn.2 (asks-new w next most fine calm harmless x g b role (does x g b role) k e asks at mine packet)
    where
      by-cases : (q : Port) → port_at w x p ≡ Some q → Stays w Here x p q r ⊎ Opens q r → (slice_get w.envelopes k ≡ Some e) ⊎ AsksNow w next most fine calm harmless x g b role e.to asks → IsWaiting w.plan x f next r e.to asks.n
      by-cases q was (inl s) (inl old) = waits-on q r e.to asks.n s (h.asked k e asks q old mine to packet was (subst (λ (z : Sess). same_sess asks.sess z ≡ true) s.sess same))
      by-cases q was (inr o) (inl old) =
          let known_sess = reached-port w x p (role_of w.plan x) asks.sess q (known.asked k e asks old mine to packet) (at-role q was) in
          let other = never-next q.inlet.sess asks.sess known_sess in
          let now : same_sess asks.sess (with_next_session q.inlet).sess ≡ true = subst (λ (z : InletState). same_sess asks.sess z.sess ≡ true) o.inlet same in
          let clash : true ≡ false = sym now ∙ other in cc
      by-cases q was moved (inr new) =
          let place = asks-place w most x p (Frag f) fine port x g b new.node new.after.ports e.to asks role new.up refl to new.asks in
          let its : new.asks.port ≡ q = some-same new.asks.port q (sym new.asks.there ∙ ap (λ (z : ℕ). slice_get new.node.ports z) place ∙ sym (ap (λ (o : Option PlainNode). node_port p o) new.up) ∙ was) in
          let session : asks.sess ≡ r.inlet.sess = new.asks.session r (ap (λ (z : ℕ). slice_get new.after.ports z) place ∙ sym (ap (λ (o : Option PlainNode). node_port p o) new.now) ∙ there) in
          let says : asks ≡ asked_by (with_next_session q.inlet) = new.asks.asks ∙ ap (λ (z : Port). asked_by (with_next_session z.inlet)) its in
          let reads : slice_get (streams_of Here) p ≡ Some (Frag f) = sym (ap (λ (ss : List StreamRef). slice_get ss p) (home-inputs Here b)) ∙ ap (λ (z : Role). slice_get (inputs_of w.plan z) p) (sym role) ∙ port.there in
          let stream : new.asks.stream ≡ Frag f = some-same new.asks.stream (Frag f) (sym new.asks.reads ∙ ap (λ (z : ℕ). slice_get (streams_of Here) z) place ∙ reads) in
          opened q new its session says stream moved
        where
          opened : (q : Port) (n : AsksNow w next most fine calm harmless x g b role e.to asks) → n.asks.port ≡ q → asks.sess ≡ r.inlet.sess → asks ≡ asked_by (with_next_session q.inlet) → n.asks.stream ≡ Frag f → Stays w Here x p q r ⊎ Opens q r →
              IsWaiting w.plan x f next r e.to asks.n
          opened q n its session says stream (inl s) = absurd (not-itself q.inlet.sess (sym s.sess ∙ sym session ∙ ap (λ (z : Subscribe). z.sess) says))
          opened q n its session says stream (inr o) =
              let choice = ap (λ (z : Port). choice_at (port_after_tick (without_ended_marks z))) its in
              let holds : length r.inlet.held.stable ≡ length q.inlet.held.stable = ap (λ (z : InletState). length z.held.stable) o.inlet in
              let tells : asks.n ≡ length q.inlet.held.stable = ap (λ (z : Subscribe). z.n) says in
              record {
                to_is = n.asks.sender ∙ ap (λ (z : StreamRef). nth 0 (senders_of w.plan z) (choice_at (port_after_tick (without_ended_marks n.asks.port)))) stream ∙ ap (λ (z : ℕ). nth 0 (senders_of w.plan (Frag f)) z) (choice ∙ sym o.chosen);
                waits = inl (omega (arith, holds, tells));
              }

  -- ---- truncations

  kept-truncated : (k base : ℕ) (e : Envelope) (u : Sess) (r : Port) → slice_get next.envelopes k ≡ Some e → e.to ≡ x → sends_stream (Frag f) (role_of w.plan e.sender) ≡ true → e.packet ≡ Plain (message.Truncated u base) → port_at next x p ≡ Some r →
      same_sess u r.inlet.sess ≡ false
  kept-truncated k base e u r at to sends packet there = by-role (role_of w.plan e.sender) refl sends
    where
      -- a replica refuses no present session
      refused : (a c : ℕ) (is : role_of w.plan a ≡ IsNode f c) (q : Port) → port_at w x p ≡ Some q → Stays w Here x p q r ⊎ Opens q r → RefusesNow w next most fine calm harmless a f c is x reader.place u → same_sess u r.inlet.sess ≡ true → ⊥
      refused a c is q was (inr o) n same =
          let known_sess = reached-port w x p (role_of w.plan x) n.asked.sess q (known.asked n.place n.envelope n.asked n.there n.reader (ap (λ (z : ℕ). sends_stream (Frag f) (role_of w.plan z)) n.to ∙ ap (λ (z : Role). sends_stream (Frag f) z) is ∙ eq-test f f refl) n.packet) (at-role q was) in
          let other = never-next q.inlet.sess n.asked.sess known_sess in
          let now : same_sess n.asked.sess (with_next_session q.inlet).sess ≡ true = subst (λ (z : InletState). same_sess n.asked.sess z.sess ≡ true) o.inlet (subst (λ (z : Sess). same_sess z r.inlet.sess ≡ true) (sym n.session) same) in
          let clash : true ≡ false = sym now ∙ other in cc
      refused a c is q was (inl s) n same =
          let sends_it : sends_stream (Frag f) (role_of w.plan n.envelope.to) ≡ true = ap (λ (z : ℕ). sends_stream (Frag f) (role_of w.plan z)) n.to ∙ ap (λ (z : Role). sends_stream (Frag f) z) is ∙ eq-test f f refl in
          let same_q : same_sess n.asked.sess q.inlet.sess ≡ true = subst (λ (z : Sess). same_sess n.asked.sess z ≡ true) s.sess (subst (λ (z : Sess). same_sess z r.inlet.sess ≡ true) (sym n.session) same) in
          let waiting = h.asked n.place n.envelope n.asked q n.there n.reader sends_it n.packet was same_q in
          by-waits waiting.waits
        where
          by-waits : (length q.inlet.held.stable ≤ n.asked.n) ⊎ WasAnswered w n.envelope.to x q.inlet.sess → ⊥
          by-waits (inl low) =
              let base_low = ((h.level q was).nodes a c n.node is n.up).base in
              let below = n.below in
              omega (arith, low, base_low, below)
          by-waits (inr answered) =
              let sess_is : n.asked.sess ≡ q.inlet.sess = same_sess-eq n.asked.sess q.inlet.sess (subst (λ (z : Sess). same_sess n.asked.sess z ≡ true) s.sess (subst (λ (z : Sess). same_sess z r.inlet.sess ≡ true) (sym n.session) same)) in
              fresh a c q.inlet.sess n.node is n.up (subst (λ (z : Sess). is_newer_than_kept z (nth no_session n.node.subs reader.place).kept ≡ true) sess_is n.newer) (subst (λ (z : ℕ). WasAnswered w z x q.inlet.sess) n.to answered)

      by-cases : (c : ℕ) (is : role_of w.plan e.sender ≡ IsNode f c) (q : Port) → port_at w x p ≡ Some q → Stays w Here x p q r ⊎ Opens q r → (slice_get w.envelopes k ≡ Some e) ⊎ RefusesNow w next most fine calm harmless e.sender f c is x reader.place u → same_sess u r.inlet.sess ≡ false
      by-cases c is q was (inl s) (inl old) = subst (λ (z : Sess). same_sess u z ≡ false) (sym s.sess) (h.truncated k base e u q old to sends packet was)
      by-cases c is q was (inr o) (inl old) =
          subst (λ (z : InletState). same_sess u z.sess ≡ false) (sym o.inlet) (never-next q.inlet.sess u (reached-port w x p (role_of w.plan x) u q (known.truncated k base e u old to sends packet) (at-role q was)))
      by-cases c is q was moved (inr new) =
          (elim (same_sess u r.inlet.sess) as (λ t. same_sess u r.inlet.sess ≡ t → t ≡ false) [
            | false ↦ λ d. refl
            | true ↦ λ d. absurd (refused e.sender c is q was moved new d)
          ]) refl

      by-role : (is : Role) → role_of w.plan e.sender ≡ is → sends_stream (Frag f) is ≡ true → same_sess u r.inlet.sess ≡ false
      by-role (IsSource v) is d = cc
      by-role (IsClient v) is d = cc
      by-role Nobody is d = cc
      by-role (IsNode d c) is t =
          let one : d ≡ f = sym (eq-of f d t) in
          let role_a : role_of w.plan e.sender ≡ IsNode f c = is ∙ ap (λ (z : ℕ). IsNode z c) one in
          let wn = went r there in
          by-cases c role_a wn.0 wn.1 wn.2
          (refuses-new w next most fine calm harmless e.sender f c role_a x reader.place (readers-distinct w.plan (Frag f)) reader.low reader.it (does e.sender f c role_a) k base e u at refl to packet)

  pub kept-next : IsKept w.plan x p f next
  kept-next = record { level = kept-level; asked = kept-asked; truncated = kept-truncated }
