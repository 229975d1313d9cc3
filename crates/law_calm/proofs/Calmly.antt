-- Each event that crashes nobody leaves a calm world: every node is up and does not recover, and no present session of a node is truncated.
use Rattle.std.proofs.Common.{◌≡◌, ℕ, zero, suc, ◌<◌, true, false, List, [], ◌∷◌, refl, sym, ap, subst, ◌∙◌, arith, Option, Some, slice_get, unwrap_or, ◌⊎◌, inl, inr}
use Rattle.std.proofs.lemmas.Grind.{common_steps}
use Rattle.dpc_lists.specs.Lists.{nth, range_with_len}
use Rattle.dpc_model.specs.Inlets.{same_sess}
use Rattle.dpc_model.specs.Actors.{role_of, inputs_of, same_stream, sends_stream}
use Rattle.dpc_model.specs.Ports.{Port, no_port}
use Rattle.dpc_model.specs.declared.actors.Role.{Role}
use Rattle.dpc_model.specs.declared.actors.Role.TheVariants.{Source as IsSource, Node as IsNode, Client as IsClient, Nobody}
use Rattle.dpc_model.specs.declared.messages.Event.{Event}
use Rattle.dpc_model.specs.declared.messages.Sess.{Sess}
use Rattle.dpc_model.specs.declared.messages.Message.TheVariants as message
use Rattle.dpc_model.specs.declared.plans.Plan.{Plan}
use Rattle.dpc_model.specs.declared.plans.StreamRef.{StreamRef}
use Rattle.dpc_model.specs.declared.plans.StreamRef.TheVariants.{Source, Frag}
use Rattle.node_model.specs.Mails.{Packet, Plain}
use Rattle.node_model.specs.Nodes.{PlainNode, streams_of}
use Rattle.world_model.specs.Worlds.{World, Envelope, home_of, happens}
use Rattle.dpc_lists.proofs.Truths.{eq-test}
use Rattle.dpc_model.proofs.Alike.{same_stream-eq, same_stream-self}
use Rattle.dpc_lists.proofs.Somes.{some-same}
use Rattle.law_safety.proofs.Distinct.{readers-distinct}
use Rattle.law_safety.proofs.Senders.{sender_sends}
use Rattle.law_safety.proofs.Pointwise.{sender-of, port-at}
use Rattle.law_safety.proofs.Numbering.{home-inputs, any-at}
use Rattle.law_safety.proofs.Growing.{event-grows}
use Rattle.law_safety.proofs.Happening.{IsFine, happens-next, node-here}
use Rattle.law_granting.specs.Taken.{role_inc, node_inc, node_port}
use Rattle.law_granting.proofs.Asked.{IsAskingWorld, event-asking}
use Rattle.law_granting.proofs.Prefix.{IsReader, reader-found}
use Rattle.law_granting.proofs.Sent.{SentOrder, event-order}
use Rattle.law_readers.specs.Newest.{IsPortOf, KnowsNoNewer}
use Rattle.law_readers.specs.Sure.{SourcesSendSurely, SendsSurely}
use Rattle.law_calm.specs.Crashes.{crashes_none}
use Rattle.law_calm.proofs.Doing.{AreCalmSlots, slot-calm, NoneHarms, calm-next, node-does-so}
use Rattle.law_calm.proofs.Kept.{NoneIsFresh, IsKept, none-indexed, kept-next}
use Rattle.law_calm.proofs.Twice.{ReadsTwice, IsTwice, twice-next}

-- what a run without crashes keeps
pub record IsCalmWorld (plan : Plan) (w : World) : Type 0 where
  pub slots : AreCalmSlots w.nodes
  pub asking : IsAskingWorld w
  pub kept : (x g b p f : ℕ) → role_of plan x ≡ IsNode g b → IsPortOf plan x p (Frag f) → IsKept plan x p f w
  pub twice : (x g b f i j : ℕ) → role_of plan x ≡ IsNode g b → ReadsTwice plan x f i j → IsTwice plan x f j w
  pub orders : (x f a r : ℕ) (s : Sess) (reader : IsReader plan (Frag f) x) → role_of plan a ≡ IsNode f r → SentOrder w a x reader.place 1 s

-- ---- one port of a stream, or two

abbrev OnlyAt : List StreamRef → ℕ → StreamRef → Type 0
OnlyAt ss p s = (j : ℕ) → slice_get ss j ≡ Some s → j ≡ p

abbrev AlsoAt : List StreamRef → ℕ → StreamRef → Type 0
AlsoAt ss p s = (j : ℕ) × (slice_get ss j ≡ Some s) × (j ≡ p → ⊥)

is-stream : (u s : StreamRef) → (u ≡ s) ⊎ (u ≡ s → ⊥)
is-stream u s =
    (elim (same_stream u s) as (λ c. same_stream u s ≡ c → (u ≡ s) ⊎ (u ≡ s → ⊥)) [
      | true ↦ λ e. inl (same_stream-eq u s e)
      | false ↦ λ e. inr (λ same. let clash : false ≡ true = sym e ∙ ap (λ (z : StreamRef). same_stream z s) same ∙ same_stream-self s in cc)
    ]) refl

-- a stream stands nowhere, or somewhere
found-or : (ss : List StreamRef) (s : StreamRef) → ((j : ℕ) → slice_get ss j ≡ Some s → ⊥) ⊎ ((j : ℕ) × (slice_get ss j ≡ Some s))
found-or [] s = inl (λ j e. cc)
found-or (u ∷ ss) s =
    elim (is-stream u s) [
      | inl same ↦ inr (0, ap {B = Option StreamRef} Some same)
      | inr other ↦ elim (found-or ss s) [
        | inl none ↦ inl (λ j e. none-here u ss s other none j e)
        | inr there ↦ inr (suc there.0, there.1)
      ]
    ]
  where
    none-here : (u : StreamRef) (ss : List StreamRef) (s : StreamRef) → (u ≡ s → ⊥) → ((j : ℕ) → slice_get ss j ≡ Some s → ⊥) → (j : ℕ) → slice_get (u ∷ ss) j ≡ Some s → ⊥
    none-here u ss s other none zero e = other (some-same u s e)
    none-here u ss s other none (suc j) e = none j e

only-or : (ss : List StreamRef) (p : ℕ) (s : StreamRef) → OnlyAt ss p s ⊎ AlsoAt ss p s
only-or [] p s = inl (λ j e. cc)
only-or (u ∷ ss) zero s =
    elim (found-or ss s) [
      | inl none ↦ inl (λ j e. first j e none)
      | inr there ↦ inr (suc there.0, there.1, λ e. cc)
    ]
  where
    first : (j : ℕ) → slice_get (u ∷ ss) j ≡ Some s → ((i : ℕ) → slice_get ss i ≡ Some s → ⊥) → j ≡ 0
    first zero e none = refl
    first (suc j) e none = absurd (none j e)
only-or (u ∷ ss) (suc p) s =
    elim (is-stream u s) [
      | inl same ↦ inr (0, ap {B = Option StreamRef} Some same, λ e. cc)
      | inr other ↦ elim (only-or ss p s) [
        | inl only ↦ inl (λ j e. behind other only j e)
        | inr also ↦ inr (suc also.0, also.1, λ e. also.2 (omega (arith, e)))
      ]
    ]
  where
    behind : (u ≡ s → ⊥) → OnlyAt ss p s → (j : ℕ) → slice_get (u ∷ ss) j ≡ Some s → j ≡ suc p
    behind other only zero e = absurd (other (some-same u s e))
    behind other only (suc j) e = ap suc (only j e)

-- who reads a fragment at a port is among its readers
pub reads-it : (plan : Plan) (x p f : ℕ) → slice_get (inputs_of plan (role_of plan x)) p ≡ Some (Frag f) → IsReader plan (Frag f) x
reads-it plan x p f there = reader-found plan (Frag f) x (any-at (same_stream (Frag f)) (inputs_of plan (role_of plan x)) p (Frag f) there (eq-test f f refl))

module _ (w : World) (most : ℕ) (fine : IsFine w most) (known : (x p : ℕ) (s : StreamRef) → IsPortOf w.plan x p s → KnowsNoNewer w.plan w x p s) (sure : SourcesSendSurely w.plan w.envelopes) (h : IsCalmWorld w.plan w) where
  -- ---- no present session is truncated

  source-harmless : (k v base : ℕ) (e : Envelope) (u : Sess) → slice_get w.envelopes k ≡ Some e → role_of w.plan e.sender ≡ IsSource v → e.packet ≡ Plain (message.Truncated u base) → ⊥
  source-harmless k v base e u there role same = subst (λ (p : Packet). SendsSurely w.envelopes e.sender e.to p) same (sure k v e there role)

  none-harms : NoneHarms w
  none-harms k g b e n there role up u base p r packet at =
      let home = home_of w.plan (g, b) in
      let it = sender-of w.plan (streams_of home) e.sender p r at in
      let sends = sender_sends w.plan it.stream e.sender r it.place in
      let streams : streams_of home ≡ inputs_of w.plan (role_of w.plan e.to) = sym (home-inputs home b) ∙ ap (λ (z : Role). inputs_of w.plan z) (sym role) in
      let port = port-at w.plan n.grants.inc most p it.stream (streams_of home) n.ports (node-here w most e.to g b n fine role up).orderly.ports it.at in
      by-stream it.stream (sym (ap (λ (ss : List StreamRef). slice_get ss p) streams) ∙ it.at) sends port.0 port.1
    where
      at-fragment : (f : ℕ) → slice_get (inputs_of w.plan (role_of w.plan e.to)) p ≡ Some (Frag f) → sends_stream (Frag f) (role_of w.plan e.sender) ≡ true → (q : Port) → slice_get n.ports p ≡ Some q → OnlyAt (inputs_of w.plan (role_of w.plan e.to)) p (Frag f) ⊎ AlsoAt (inputs_of w.plan (role_of w.plan e.to)) p (Frag f) →
          same_sess u (nth no_port n.ports p).inlet.sess ≡ false
      at-fragment f reads sends q here (inl only) =
          let kept = h.kept e.to g b p f role (record { there = reads; only = only }) in
          let is : nth no_port n.ports p ≡ q = ap (λ (o : Option Port). unwrap_or o no_port) here in
          ap (λ (z : Port). same_sess u z.inlet.sess) is ∙ kept.truncated k base e u q there refl sends packet (ap (λ (o : Option PlainNode). node_port p o) up ∙ here)
      at-fragment f reads sends q here (inr (j, also, apart)) =
          elim (less-or j p) [
            | inl before ↦ absurd ((h.twice e.to g b f j p role (record { first = also; second = reads; less = before })).truncated k base e u there refl sends packet)
            | inr (inl behind) ↦ absurd ((h.twice e.to g b f p j role (record { first = reads; second = also; less = behind })).truncated k base e u there refl sends packet)
            | inr (inr same) ↦ absurd (apart same)
          ]
        where
          less-or : (y z : ℕ) → (y < z) ⊎ ((z < y) ⊎ (y ≡ z))
          less-or y z = grind (arith, common_steps)

      by-stream : (s : StreamRef) → slice_get (inputs_of w.plan (role_of w.plan e.to)) p ≡ Some s → sends_stream s (role_of w.plan e.sender) ≡ true → (q : Port) → slice_get n.ports p ≡ Some q → same_sess u (nth no_port n.ports p).inlet.sess ≡ false
      by-stream (Frag f) reads sends q here = at-fragment f reads sends q here (only-or (inputs_of w.plan (role_of w.plan e.to)) p (Frag f))
      by-stream (Source v) reads sends q here = absurd (by-role (role_of w.plan e.sender) refl sends)
        where
          by-role : (is : Role) → role_of w.plan e.sender ≡ is → sends_stream (Source v) is ≡ true → ⊥
          by-role (IsSource y) is d = source-harmless k y base e u there is packet
          by-role (IsNode f c) is d = cc
          by-role (IsClient c) is d = cc
          by-role Nobody is d = cc

  -- ---- batches that were sent

  none-fresh : (x f : ℕ) (reader : IsReader w.plan (Frag f) x) → NoneIsFresh w.plan x f reader.place w
  none-fresh x f reader a r s n role up newer answered =
      let order = h.orders x f a r s reader role in
      let inc = (h.asking.nodes a f r n role up).inc ∙ (slot-calm w most a f r fine h.slots role).first in
      let many = ((order.there n up).0 inc).newer newer in
      none-indexed (record { sender = a; reader = x; sess = s }) w.envelopes answered.place answered.envelope answered.index (order.order ∙ ap (λ (m : ℕ). range_with_len 0 m) many) answered.there answered.batch

  -- ---- one event

  pub calm-event : (e : Event) → crashes_none e ≡ true → IsCalmWorld w.plan (happens w e)
  calm-event e none =
      let next = happens w e in
      let does = λ (a f r : ℕ) (role : role_of w.plan a ≡ IsNode f r). node-does-so w most fine h.slots a f r role e none in
      let after = happens-next w most e fine in
      record {
        slots = calm-next w most fine h.slots none-harms e none;
        asking = event-asking w most e fine h.asking;
        kept = λ x g b p f role port.
            kept-next w next most fine h.slots none-harms x g b role (event-grows w e) does p f port (reads-it w.plan x p f port.there) (known x p (Frag f) port) (none-fresh x f (reads-it w.plan x p f port.there)) (h.kept x g b p f role port);
        twice = λ x g b f i j role twice. twice-next w next most fine h.slots none-harms x g b role after.plan after.fine does f i j twice (reads-it w.plan x i f twice.first) (h.twice x g b f i j role twice);
        orders = λ x f a r s reader role.
            event-order w most a x f r reader.place 1 s fine h.asking (record { role = role; reader = reader.it; distinct = readers-distinct w.plan (Frag f); low = reader.low }) (h.orders x f a r s reader role) e (λ subscribes. first-inc a f r role);
      }
    where
      first-inc : (a f r : ℕ) → role_of w.plan a ≡ IsNode f r → role_inc w a (role_of w.plan a) ≡ 1
      first-inc a f r role =
          let c = slot-calm w most a f r fine h.slots role in
          ap (λ (z : Role). role_inc w a z) role ∙ ap (λ (o : Option PlainNode). node_inc o) c.up ∙ (h.asking.nodes a f r c.node role c.up).inc ∙ c.first
