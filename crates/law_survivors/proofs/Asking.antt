-- The subscription to a port's present session says at least what the port holds, until it is answered.
use Rattle.std.proofs.Common.{◌≡◌, ℕ, ◌+◌, ◌≤◌, true, false, ◌==◌, List, length, refl, sym, ap, subst, ◌∙◌, arith, Option, Some, slice_get, ◌⊎◌, inl, inr}
use Rattle.std.proofs.lemmas.Grind.{common_steps}
use Rattle.dpc_lists.specs.Lists.{nth}
use Rattle.dpc_model.specs.Inlets.{InletState, same_sess, is_newer, with_next_session, asked_by}
use Rattle.dpc_model.specs.Actors.{role_of, inputs_of, sends_stream, senders_of}
use Rattle.dpc_model.specs.Ports.{Port, without_ended_marks, port_after_tick, choice_at}
use Rattle.dpc_model.specs.declared.actors.Role.{Role}
use Rattle.dpc_model.specs.declared.actors.Role.TheVariants.{Node as IsNode}
use Rattle.dpc_model.specs.declared.messages.Event.{Event}
use Rattle.dpc_model.specs.declared.messages.Sess.{Sess}
use Rattle.dpc_model.specs.declared.messages.Subscribe.{Subscribe}
use Rattle.dpc_model.specs.declared.messages.Message.TheVariants as message
use Rattle.dpc_model.specs.declared.plans.Plan.{Plan}
use Rattle.dpc_model.specs.declared.plans.StreamRef.{StreamRef}
use Rattle.dpc_model.specs.declared.plans.StreamRef.TheVariants.{Frag}
use Rattle.dpc_lists.proofs.Elements.{get-first}
use Rattle.node_model.specs.Mails.{Packet, Plain}
use Rattle.node_model.specs.Nodes.{Home, PlainNode, streams_of}
use Rattle.world_model.specs.Worlds.{World, Envelope, home_of}
use Rattle.dpc_lists.proofs.Truths.{eq-test}
use Rattle.dpc_lists.proofs.Places.{place-nth}
use Rattle.dpc_lists.proofs.Somes.{some-same}
use Rattle.law_safety.proofs.Pointwise.{sender-of}
use Rattle.law_safety.proofs.Numbering.{home-inputs}
use Rattle.law_safety.proofs.Growing.{Grows}
use Rattle.law_safety.proofs.Happening.{IsFine}
use Rattle.law_granting.specs.Taken.{index_in, node_port, role_port}
use Rattle.law_readers.specs.Newest.{IsPortOf, KnowsNoNewer}
use Rattle.law_readers.proofs.Known.{asks-place}
use Rattle.law_readers.proofs.Read.{reached-port}
use Rattle.law_calm.proofs.Steps.{port_at, Came, Stays, Opens}
use Rattle.law_calm.proofs.Kept.{WasAnswered, IsWaiting}
use Rattle.law_survivors.proofs.Doing.{ReplicaDoes}
use Rattle.law_survivors.proofs.Steps.{AsksNow, asks-new}

pub never-next : (u v : Sess) → is_newer v u ≡ false → same_sess v (record u { number = u.number + 1 }) ≡ false
never-next u v h = grind (arith, common_steps)

pub not-itself : (u : Sess) → u ≡ record u { number = u.number + 1 } → ⊥
not-itself u e = let n = ap (λ (z : Sess). z.number) e in omega (arith, n)

-- each subscription to the port's session waits
abbrev pub IsAskedAt : Plan → ℕ → ℕ → World → Port → Type 0
IsAskedAt plan x f w q =
    (k : ℕ) (e : Envelope) (asks : Subscribe) → slice_get w.envelopes k ≡ Some e → e.sender ≡ x → sends_stream (Frag f) (role_of plan e.to) ≡ true → e.packet ≡ Plain (message.Subscribe asks) → same_sess asks.sess q.inlet.sess ≡ true → IsWaiting plan x f w q e.to asks.n

module _ (w next : World) (most : ℕ) (d : Event) (fine : IsFine w most) (x g b : ℕ) (role : role_of w.plan x ≡ IsNode g b) (grows : Grows w next) (does : ReplicaDoes w (home_of w.plan (g, b)) x d next)
    (p f : ℕ) (port : IsPortOf w.plan x p (Frag f)) (known : KnowsNoNewer w.plan w x p (Frag f)) where
  abbrev Here : Home
  Here = home_of w.plan (g, b)

  at-role : (q : Port) → port_at w x p ≡ Some q → role_port w x p (role_of w.plan x) ≡ Some q
  at-role q was = ap (λ (z : Role). role_port w x p z) role ∙ was

  still-there : (k : ℕ) (e : Envelope) → slice_get w.envelopes k ≡ Some e → slice_get next.envelopes k ≡ Some e
  still-there k e there = ap (λ (es : List Envelope). slice_get es k) grows.envelopes ∙ get-first w.envelopes grows.more k e there

  reads : slice_get (streams_of Here) p ≡ Some (Frag f)
  reads = sym (ap (λ (ss : List StreamRef). slice_get ss p) (home-inputs Here b)) ∙ ap (λ (z : Role). slice_get (inputs_of w.plan z) p) (sym role) ∙ port.there

  answered-later : (a : ℕ) (s u : Sess) → s ≡ u → WasAnswered w a x s → WasAnswered next a x u
  answered-later a s u same k =
      subst (λ (z : Sess). WasAnswered next a x z) same (record { place = k.place; envelope = k.envelope; index = k.index; there = still-there k.place k.envelope k.there; batch = k.batch })

  -- a batch that came
  came-answered : (q r : Port) → Came w Here x p q r → WasAnswered w (nth 0 (senders_of w.plan (Frag f)) q.chosen) x q.inlet.sess
  came-answered q r c =
      let t = c.took in
      let from = sender-of w.plan (streams_of Here) c.envelope.sender p q.chosen t.sender in
      let stream : from.stream ≡ Frag f = some-same from.stream (Frag f) (sym from.at ∙ reads) in
      let sender : nth 0 (senders_of w.plan (Frag f)) q.chosen ≡ c.envelope.sender = ap (λ (s : StreamRef). nth 0 (senders_of w.plan s) q.chosen) (sym stream) ∙ place-nth c.envelope.sender (senders_of w.plan from.stream) q.chosen from.place in
      let mine : (c.envelope.sender == nth 0 (senders_of w.plan (Frag f)) q.chosen) ≡ true = eq-test c.envelope.sender (nth 0 (senders_of w.plan (Frag f)) q.chosen) (sym sender) in
      let to : (c.envelope.to == x) ≡ true = eq-test c.envelope.to x c.to in
      let named = t.named in
      let index : index_in q.inlet.sess c.envelope.packet ≡ Some t.index = ap (λ (z : Packet). index_in q.inlet.sess z) t.packet_is ∙ rw named refl in
      record { place = c.place; envelope = c.envelope; index = t.index; there = c.there; batch = rw (mine, to) index }

  -- an old subscription, where the session stays
  waits-on : (q r : Port) (to n : ℕ) → Stays w Here x p q r → IsWaiting w.plan x f w q to n → IsWaiting w.plan x f next r to n
  waits-on q r to n s k =
      let to_is : to ≡ nth 0 (senders_of w.plan (Frag f)) r.chosen = k.to_is ∙ ap (λ (z : ℕ). nth 0 (senders_of w.plan (Frag f)) z) (sym s.chosen) in
      record {
        to_is = to_is;
        waits = elim k.waits [
          | inr answered ↦ inr (answered-later to q.inlet.sess r.inlet.sess (sym s.sess) answered)
          | inl low ↦ elim s.held [
            | inl same ↦ inl (subst (λ (z : _). length z.stable ≤ n) (sym same) low)
            | inr came ↦ inr (answered-later to q.inlet.sess r.inlet.sess (sym s.sess) (subst (λ (z : ℕ). WasAnswered w z x q.inlet.sess) (sym k.to_is) (came-answered q r came)))
          ]
        ];
      }

  pub asked-next : (r : Port) → port_at next x p ≡ Some r → (q : Port) → port_at w x p ≡ Some q → Stays w Here x p q r ⊎ Opens q r → (Stays w Here x p q r → IsAskedAt w.plan x f w q) → IsAskedAt w.plan x f next r
  asked-next r there q was moved before k e asks at mine to packet same = by-cases moved (asks-new w next Here x d does k e asks at mine packet)
    where
      by-new : Stays w Here x p q r ⊎ Opens q r → AsksNow w next Here x d e.to asks → IsWaiting w.plan x f next r e.to asks.n
      by-new moved new =
          let place = asks-place w most x p (Frag f) fine port x g b new.node new.after.ports e.to asks role new.up refl to new.asks in
          let its : new.asks.port ≡ q = some-same new.asks.port q (sym new.asks.there ∙ ap (λ (z : ℕ). slice_get new.node.ports z) place ∙ sym (ap (λ (o : Option PlainNode). node_port p o) new.up) ∙ was) in
          let session : asks.sess ≡ r.inlet.sess = new.asks.session r (ap (λ (z : ℕ). slice_get new.after.ports z) place ∙ sym (ap (λ (o : Option PlainNode). node_port p o) new.now) ∙ there) in
          let says : asks ≡ asked_by (with_next_session q.inlet) = new.asks.asks ∙ ap (λ (z : Port). asked_by (with_next_session z.inlet)) its in
          let stream : new.asks.stream ≡ Frag f = some-same new.asks.stream (Frag f) (sym new.asks.reads ∙ ap (λ (z : ℕ). slice_get (streams_of Here) z) place ∙ reads) in
          opened new its session says stream moved
        where
          opened : (n : AsksNow w next Here x d e.to asks) → n.asks.port ≡ q → asks.sess ≡ r.inlet.sess → asks ≡ asked_by (with_next_session q.inlet) → n.asks.stream ≡ Frag f → Stays w Here x p q r ⊎ Opens q r → IsWaiting w.plan x f next r e.to asks.n
          opened n its session says stream (inl s) = absurd (not-itself q.inlet.sess (sym s.sess ∙ sym session ∙ ap (λ (z : Subscribe). z.sess) says))
          opened n its session says stream (inr o) =
              let choice = ap (λ (z : Port). choice_at (port_after_tick (without_ended_marks z))) its in
              let holds : length r.inlet.held.stable ≡ length q.inlet.held.stable = ap (λ (z : InletState). length z.held.stable) o.inlet in
              let tells : asks.n ≡ length q.inlet.held.stable = ap (λ (z : Subscribe). z.n) says in
              record {
                to_is = n.asks.sender ∙ ap (λ (z : StreamRef). nth 0 (senders_of w.plan z) (choice_at (port_after_tick (without_ended_marks n.asks.port)))) stream ∙ ap (λ (z : ℕ). nth 0 (senders_of w.plan (Frag f)) z) (choice ∙ sym o.chosen);
                waits = inl (omega (arith, holds, tells));
              }

      by-cases : Stays w Here x p q r ⊎ Opens q r → (slice_get w.envelopes k ≡ Some e) ⊎ AsksNow w next Here x d e.to asks → IsWaiting w.plan x f next r e.to asks.n
      by-cases (inl s) (inl old) = waits-on q r e.to asks.n s (before s k e asks old mine to packet (subst (λ (z : Sess). same_sess asks.sess z ≡ true) s.sess same))
      by-cases (inr o) (inl old) =
          let known_sess = reached-port w x p (role_of w.plan x) asks.sess q (known.asked k e asks old mine to packet) (at-role q was) in
          let other = never-next q.inlet.sess asks.sess known_sess in
          let now : same_sess asks.sess (with_next_session q.inlet).sess ≡ true = subst (λ (z : InletState). same_sess asks.sess z.sess ≡ true) o.inlet same in
          let clash : true ≡ false = sym now ∙ other in cc
      by-cases moved (inr new) = by-new moved new
