-- Each event that does not crash a node which stands whole leaves it whole, and its present sessions untruncated.
use Rattle.std.proofs.Common.{◌≡◌, ℕ, true, false, List, refl, sym, ap, subst, ◌∙◌, Option, Some, slice_get, unwrap_or}
use Rattle.dpc_lists.specs.Lists.{nth}
use Rattle.dpc_model.specs.Inlets.{same_sess}
use Rattle.dpc_model.specs.Actors.{role_of, inputs_of, same_stream, sends_stream}
use Rattle.dpc_model.specs.Ports.{Port, no_port}
use Rattle.dpc_model.specs.declared.actors.Role.{Role}
use Rattle.dpc_model.specs.declared.actors.Role.TheVariants.{Source as IsSource, Node as IsNode, Client as IsClient, Nobody}
use Rattle.dpc_model.specs.declared.messages.Event.{Event}
use Rattle.dpc_model.specs.declared.messages.Event.TheVariants.{Deliver}
use Rattle.dpc_model.specs.declared.messages.Sess.{Sess}
use Rattle.dpc_model.specs.declared.messages.Message.TheVariants as message
use Rattle.dpc_model.specs.declared.plans.Plan.{Plan}
use Rattle.dpc_model.specs.declared.plans.StreamRef.{StreamRef}
use Rattle.dpc_model.specs.declared.plans.StreamRef.TheVariants.{Source, Frag}
use Rattle.node_model.specs.Mails.{Packet, Plain}
use Rattle.node_model.specs.Nodes.{PlainNode, streams_of}
use Rattle.world_model.specs.Worlds.{World, Envelope, home_of, slot_of, happens}
use Rattle.dpc_lists.proofs.Truths.{eq-test}
use Rattle.law_safety.proofs.Senders.{sender_sends}
use Rattle.law_safety.proofs.Pointwise.{sender-of, port-at}
use Rattle.law_safety.proofs.Numbering.{home-inputs, any-at}
use Rattle.law_safety.proofs.Growing.{event-grows}
use Rattle.law_safety.proofs.Happening.{IsFine, node-here}
use Rattle.law_granting.specs.Taken.{node_port}
use Rattle.law_granting.proofs.Prefix.{IsReader, reader-found}
use Rattle.law_readers.specs.Newest.{IsPortOf, KnowsNoNewer}
use Rattle.law_readers.specs.Sure.{SourcesSendSurely, SendsSurely}
use Rattle.law_survivors.specs.Spared.{spares_at, StandsIn, StandsWhole}
use Rattle.law_survivors.proofs.Doing.{NoneHarms, replica-does, stands-next}
use Rattle.law_survivors.proofs.Levels.{IsLevel}
use Rattle.law_survivors.proofs.Kept.{NoneIsFresh, IsKept, kept-next}
use Rattle.law_survivors.proofs.Done.{done_of, done-next}
use Rattle.law_survivors.proofs.Heard.{AreHeardWhole, heard-next}

-- what is kept of a node that does not recover, and of its acknowledgements of the incarnations that count
pub record IsKeptWorld (incarnation : ℕ) (counts : ℕ → Type 0) (plan : Plan) (x : ℕ) (w : World) : Type 0 where
  pub stands : StandsIn incarnation w x
  pub kept : (p f : ℕ) → IsPortOf plan x p (Frag f) → IsKept counts plan x p f w

-- what is kept of a node that nobody crashes
pub record IsSparedWorld (plan : Plan) (x g b : ℕ) (w : World) : Type 0 where
  pub stands : StandsWhole w x
  pub kept : (p f : ℕ) → IsPortOf plan x p (Frag f) → IsKept (λ (i : ℕ). Unit {0}) plan x p f w
  pub done : (p f : ℕ) (n : PlainNode) → IsPortOf plan x p (Frag f) → (slot_of w x).node ≡ Some n → IsLevel plan x f (done_of plan f n) w
  pub heard : AreHeardWhole plan x g b w

-- who reads a fragment at a port is among its readers
pub reads-it : (plan : Plan) (x p f : ℕ) → slice_get (inputs_of plan (role_of plan x)) p ≡ Some (Frag f) → IsReader plan (Frag f) x
reads-it plan x p f there = reader-found plan (Frag f) x (any-at (same_stream (Frag f)) (inputs_of plan (role_of plan x)) p (Frag f) there (eq-test f f refl))

module _ (w : World) (most : ℕ) (fine : IsFine w most) (x g b : ℕ) (role : role_of w.plan x ≡ IsNode g b) (once : (p q : ℕ) (s : StreamRef) → slice_get (inputs_of w.plan (role_of w.plan x)) p ≡ Some s → slice_get (inputs_of w.plan (role_of w.plan x)) q ≡ Some s → p ≡ q)
    (known : (p : ℕ) (s : StreamRef) → IsPortOf w.plan x p s → KnowsNoNewer w.plan w x p s) (sure : SourcesSendSurely w.plan w.envelopes) where
  source-harmless : (k v base : ℕ) (e : Envelope) (u : Sess) → slice_get w.envelopes k ≡ Some e → role_of w.plan e.sender ≡ IsSource v → e.packet ≡ Plain (message.Truncated u base) → ⊥
  source-harmless k v base e u there from same = subst (λ (p : Packet). SendsSurely w.envelopes e.sender e.to p) same (sure k v e there from)

  none-harms : (incarnation : ℕ) (counts : ℕ → Type 0) → IsKeptWorld incarnation counts w.plan x w → NoneHarms w (home_of w.plan (g, b)) x
  none-harms incarnation counts h k e n there to up u base p r packet at =
      let home = home_of w.plan (g, b) in
      let it = sender-of w.plan (streams_of home) e.sender p r at in
      let sends = sender_sends w.plan it.stream e.sender r it.place in
      let streams : streams_of home ≡ inputs_of w.plan (role_of w.plan x) = sym (home-inputs home b) ∙ ap (λ (z : Role). inputs_of w.plan z) (sym role) in
      let port = port-at w.plan n.grants.inc most p it.stream (streams_of home) n.ports (node-here w most x g b n fine role up).orderly.ports it.at in
      by-stream it.stream (sym (ap (λ (ss : List StreamRef). slice_get ss p) streams) ∙ it.at) sends port.0 port.1
    where
      by-stream : (s : StreamRef) → slice_get (inputs_of w.plan (role_of w.plan x)) p ≡ Some s → sends_stream s (role_of w.plan e.sender) ≡ true → (q : Port) → slice_get n.ports p ≡ Some q → same_sess u (nth no_port n.ports p).inlet.sess ≡ false
      by-stream (Frag f) reads sends q here =
          let kept = h.kept p f (record { there = reads; only = λ j there_j. once j p (Frag f) there_j reads }) in
          let is : nth no_port n.ports p ≡ q = ap (λ (o : Option Port). unwrap_or o no_port) here in
          ap (λ (z : Port). same_sess u z.inlet.sess) is ∙ kept.truncated k base e u q there to sends packet (ap (λ (o : Option PlainNode). node_port p o) up ∙ here)
      by-stream (Source v) reads sends q here = absurd (by-role (role_of w.plan e.sender) refl sends)
        where
          by-role : (is : Role) → role_of w.plan e.sender ≡ is → sends_stream (Source v) is ≡ true → ⊥
          by-role (IsSource y) is t = source-harmless k y base e u there is packet
          by-role (IsNode f c) is t = cc
          by-role (IsClient c) is t = cc
          by-role Nobody is t = cc

  -- an event that does not crash it
  pub kept-event : (incarnation : ℕ) (counts : ℕ → Type 0) → IsKeptWorld incarnation counts w.plan x w → (d : Event) → spares_at x d ≡ true → ((k i count : ℕ) (e : Envelope) → d ≡ Deliver k → slice_get w.envelopes k ≡ Some e → e.sender ≡ x → e.packet ≡ Plain (message.Ack i count) → counts i) →
      ((p f : ℕ) → IsPortOf w.plan x p (Frag f) → (reader : IsReader w.plan (Frag f) x) → NoneIsFresh w.plan x f reader.place w d) → IsKeptWorld incarnation counts w.plan x (happens w d)
  kept-event incarnation counts h d spared came fresh =
      let does = λ (a f r : ℕ) (is : role_of w.plan a ≡ IsNode f r). replica-does w most fine a f r is d in
      let harmless = none-harms incarnation counts h in
      record {
        stands = stands-next w (happens w d) (home_of w.plan (g, b)) x d spared h.stands harmless (does x g b role);
        kept = λ p f port.
            let reader = reads-it w.plan x p f port.there in
            kept-next w (happens w d) most d fine x g b role h.stands harmless (event-grows w d) does counts came p f port reader (known p (Frag f) port) (fresh p f port reader) (h.kept p f port);
      }

  pub spared-event : IsSparedWorld w.plan x g b w → (d : Event) → spares_at x d ≡ true → ((p f : ℕ) → IsPortOf w.plan x p (Frag f) → (reader : IsReader w.plan (Frag f) x) → NoneIsFresh w.plan x f reader.place w d) → IsSparedWorld w.plan x g b (happens w d)
  spared-event h d spared fresh =
      let does = λ (a f r : ℕ) (is : role_of w.plan a ≡ IsNode f r). replica-does w most fine a f r is d in
      let before : IsKeptWorld 1 (λ (i : ℕ). Unit {0}) w.plan x w = record { stands = h.stands; kept = h.kept } in
      let after = kept-event 1 (λ (i : ℕ). Unit {0}) before d spared (λ k i count e event there mine packet. tt) fresh in
      let stands = after.stands in
      record {
        stands = stands;
        kept = after.kept;
        done = λ p f z port now.
            done-next w most d fine x g b role h.stands (none-harms 1 (λ (i : ℕ). Unit {0}) before) does p f port (reads-it w.plan x p f port.there) stands (h.done p f h.stands.node port h.stands.up) z now;
        heard = heard-next w (happens w d) d x g b role h.stands stands does h.heard;
      }
