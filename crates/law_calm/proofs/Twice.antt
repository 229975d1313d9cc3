-- A node that reads a fragment at two ports never gets past its first bucket, so it acknowledges nothing, and nothing is truncated for it.
use Rattle.std.proofs.Common.{◌≡◌, ℕ, zero, suc, ◌+◌, ◌*◌, ◌<◌, ◌≤◌, Bool, true, false, cond, ◌==◌, List, [], ◌∷◌, map, refl, sym, ap, subst, ◌∙◌, arith, Option, Some, None, slice_get, ◌⊎◌, inl, inr}
use Rattle.dpc_lists.specs.Lists.{place_of}
use Rattle.dpc_model.specs.Streams.{count_below}
use Rattle.dpc_model.specs.Reading.{Reader}
use Rattle.dpc_model.specs.Inlets.{InletState}
use Rattle.dpc_model.specs.Actors.{role_of, inputs_of, sends_stream, senders_of}
use Rattle.dpc_model.specs.Ports.{Port, held_at, sender_from, sender_at}
use Rattle.dpc_model.specs.declared.actors.Role.{Role}
use Rattle.dpc_model.specs.declared.actors.Role.TheVariants.{Source as IsSource, Node as IsNode, Client as IsClient, Nobody}
use Rattle.dpc_model.specs.declared.messages.Sess.{Sess}
use Rattle.dpc_model.specs.declared.messages.Message.TheVariants as message
use Rattle.dpc_model.specs.declared.plans.Plan.{Plan}
use Rattle.dpc_model.specs.declared.plans.StreamRef.{StreamRef}
use Rattle.dpc_model.specs.declared.plans.StreamRef.TheVariants.{Frag}
use Rattle.node_model.specs.Mails.{Plain}
use Rattle.node_model.specs.Nodes.{Home, PlainNode, streams_of}
use Rattle.node_model.specs.NodeSteps.{done_at}
use Rattle.world_model.specs.Worlds.{World, Envelope, home_of, slot_of}
use Rattle.world_model.specs.Safe.{EachReaches}
use Rattle.dpc_lists.proofs.Truths.{eq-of}
use Rattle.dpc_model.proofs.Cuts.{none-counted}
use Rattle.dpc_lists.proofs.Somes.{some-same}
use Rattle.law_safety.proofs.Frames.{IsGood}
use Rattle.law_safety.proofs.Distinct.{readers-distinct}
use Rattle.law_safety.proofs.Pointwise.{sender-of, port-at}
use Rattle.law_safety.proofs.Numbering.{home-inputs}
use Rattle.law_safety.proofs.Happening.{IsFine, node-here}
use Rattle.law_granting.specs.Taken.{node_port}
use Rattle.law_granting.proofs.Prefix.{IsReader}
use Rattle.law_calm.proofs.Doing.{AreCalmSlots, NoneHarms, NodeDoes}
use Rattle.law_calm.proofs.Steps.{port_at, Stays, Opens, port-went, AcksNow, acks-new, RefusesNow, refuses-new}
use Rattle.law_calm.proofs.Levels.{IsLevel, level-next}

-- ---- the second port is found for nobody

found-first : (plan : Plan) (s : StreamRef) (a k : ℕ) (ss : List StreamRef) (i r p t : ℕ) → slice_get ss i ≡ Some s → place_of (λ c. a == c) (senders_of plan s) ≡ Some r → sender_from k plan ss a ≡ Some (p, t) → p ≤ k + i
found-first plan s a k [] i r p t at place found = cc
found-first plan s a k (u ∷ ss) zero r p t at place found =
    let same : u ≡ s = some-same u s at in
    let here : place_of (λ c. a == c) (senders_of plan u) ≡ Some r = ap (λ (z : StreamRef). place_of (λ c. a == c) (senders_of plan z)) same ∙ place in
    let now : ◌≡◌ {A = Option (ℕ × ℕ)} (Some (k, r)) (Some (p, t)) = subst (λ (o : Option ℕ). elim o as (λ _. Option (ℕ × ℕ)) [ None ↦ sender_from (k + 1) plan ss a | Some q ↦ Some (k, q) ] ≡ Some (p, t)) here found in
    let first = pair-first k p r t now in omega (arith, first)
  where
    pair-first : (c p r t : ℕ) → ◌≡◌ {A = Option (ℕ × ℕ)} (Some (c, r)) (Some (p, t)) → c ≡ p
    pair-first c p r t e = let same : ◌≡◌ {A = ℕ × ℕ} (c, r) (p, t) = cc in ap (λ (z : ℕ × ℕ). z.0) same
found-first plan s a k (u ∷ ss) (suc i) r p t at place found =
    elim (place_of (λ c. a == c) (senders_of plan u)) as (λ o. elim o as (λ _. Option (ℕ × ℕ)) [ None ↦ sender_from (k + 1) plan ss a | Some q ↦ Some (k, q) ] ≡ Some (p, t) → p ≤ k + suc i) [
      | None ↦ λ e. (let far = found-first plan s a (k + 1) ss i r p t at place e in omega (arith, far))
      | Some q ↦ λ e. (let first = pair-first k p q t e in omega (arith, first))
    ] found
  where
    pair-first : (c p r t : ℕ) → ◌≡◌ {A = Option (ℕ × ℕ)} (Some (c, r)) (Some (p, t)) → c ≡ p
    pair-first c p r t e = let same : ◌≡◌ {A = ℕ × ℕ} (c, r) (p, t) = cc in ap (λ (z : ℕ × ℕ). z.0) same

never-found : (plan : Plan) (s : StreamRef) (a : ℕ) (ss : List StreamRef) (i j r : ℕ) → slice_get ss i ≡ Some s → slice_get ss j ≡ Some s → i < j → sender_at plan ss a ≡ Some (j, r) → ⊥
never-found plan s a ss i j r at_i at_j less found =
    let it = sender-of plan ss a j r found in
    let same : it.stream ≡ s = some-same it.stream s (sym it.at ∙ at_j) in
    let low = found-first plan s a 0 ss i r j r at_i (ap (λ (z : StreamRef). place_of (λ c. a == c) (senders_of plan z)) (sym same) ∙ it.place) found in
    omega (arith, low, less)

-- ---- nothing below the first bucket

reaches-at : (b j : ℕ) (ports : List Port) (q : Port) → EachReaches b (map held_at ports) → slice_get ports j ≡ Some q → b ≤ q.inlet.held.bound
reaches-at b j [] q h e = cc
reaches-at b zero (z ∷ ports) q h e = let same : z ≡ q = cc in subst (λ (y : Port). b ≤ y.inlet.held.bound) same h.0
reaches-at b (suc j) (z ∷ ports) q h e = reaches-at b j ports q h.1 e

-- a node that reads fragment f at two ports, of which the second is j
pub record ReadsTwice (plan : Plan) (x f i j : ℕ) : Type 0 where
  pub first : slice_get (inputs_of plan (role_of plan x)) i ≡ Some (Frag f)
  pub second : slice_get (inputs_of plan (role_of plan x)) j ≡ Some (Frag f)
  pub less : i < j

pub record IsTwice (plan : Plan) (x f j : ℕ) (w : World) : Type 0 where
  pub level : IsLevel plan x f 0 w
  pub empty : (q : Port) → port_at w x j ≡ Some q → q.inlet.held.bound ≡ 0
  pub truncated : (k base : ℕ) (e : Envelope) (u : Sess) → slice_get w.envelopes k ≡ Some e → e.to ≡ x → sends_stream (Frag f) (role_of plan e.sender) ≡ true → e.packet ≡ Plain (message.Truncated u base) → ⊥

module _ (w next : World) (most : ℕ) (fine : IsFine w most) (calm : AreCalmSlots w.nodes) (harmless : NoneHarms w) (x g b : ℕ) (role : role_of w.plan x ≡ IsNode g b) (plan : next.plan ≡ w.plan) (later : IsFine next (most + 1))
    (does : (a f r : ℕ) → role_of w.plan a ≡ IsNode f r → NodeDoes w (home_of w.plan (f, r)) a next) (f i j : ℕ) (twice : ReadsTwice w.plan x f i j) (reader : IsReader w.plan (Frag f) x) (h : IsTwice w.plan x f j w) where
  abbrev Here : Home
  Here = home_of w.plan (g, b)

  streams-are : streams_of Here ≡ inputs_of w.plan (role_of w.plan x)
  streams-are = sym (home-inputs Here b) ∙ ap (λ (z : Role). inputs_of w.plan z) (sym role)

  still-empty : (r : Port) → port_at next x j ≡ Some r → r.inlet.held.bound ≡ 0
  still-empty r there =
      let k = port-went w next most fine calm harmless x g b role (does x g b role) j r there in
      by-went k.0 k.1 k.2
    where
      by-went : (q : Port) → port_at w x j ≡ Some q → Stays w Here x j q r ⊎ Opens q r → r.inlet.held.bound ≡ 0
      by-went q was (inr o) = ap (λ (z : InletState). z.held.bound) o.inlet ∙ h.empty q was
      by-went q was (inl s) =
          elim s.held [
            | inl same ↦ ap (λ (z : Reader). z.bound) same ∙ h.empty q was
            | inr came ↦ absurd (never-found w.plan (Frag f) came.envelope.sender (streams_of Here) i j q.chosen (ap (λ (ss : List StreamRef). slice_get ss i) streams-are ∙ twice.first) (ap (λ (ss : List StreamRef). slice_get ss j) streams-are ∙ twice.second) twice.less came.took.sender)
          ]

  -- so the node's cursor stays at its first bucket
  none-done : (z : PlainNode) (q : Port) → (slot_of next x).node ≡ Some z → done_at Here z q ≡ 0
  none-done z q now = by-value z.recovering refl
    where
      good : IsGood (home_of w.plan (g, b)) (most + 1) z
      good = subst (λ (pl : Plan). IsGood (home_of pl (g, b)) (most + 1) z) plan (node-here next (most + 1) x g b z later (ap (λ (pl : Plan). role_of pl x) plan ∙ role) now)

      at-first : z.recovering ≡ false → z.cursor * w.plan.width ≤ 0
      at-first whole =
          let found = port-at w.plan z.grants.inc (most + 1) j (Frag f) (streams_of (home_of w.plan (g, b))) z.ports good.orderly.ports (ap (λ (ss : List StreamRef). slice_get ss j) streams-are ∙ twice.second) in
          let empty = still-empty found.0 (ap (λ (o : Option PlainNode). node_port j o) now ∙ found.1) in
          let low = reaches-at (z.cursor * w.plan.width) j z.ports found.0 (good.safe.output whole).reaches found.1 in
          omega (arith, empty, low)

      by-value : (c : Bool) → z.recovering ≡ c → cond {A = ℕ} z.recovering 0 (count_below q.inlet.held.stable (z.cursor * w.plan.width)) ≡ 0
      by-value true e = rw e refl
      by-value false e =
          let low = at-first e in
          let none : z.cursor * w.plan.width ≡ 0 = omega (arith, low) in
          ap (λ (c : Bool). cond {A = ℕ} c 0 (count_below q.inlet.held.stable (z.cursor * w.plan.width))) e ∙ ap (λ (c : ℕ). count_below q.inlet.held.stable c) none ∙ none-counted q.inlet.held.stable

  none-acked : {T : Type 0} (to count : ℕ) → T ⊎ AcksNow w next most fine calm harmless x g b role to count → T ⊎ (count ≤ 0)
  none-acked to count (inl old) = inl old
  none-acked to count (inr new) = let is = new.acks.count_is in let none = none-done new.after new.acks.port new.now in inr (omega (arith, is, none))

  none-truncated : (k base : ℕ) (e : Envelope) (u : Sess) → slice_get next.envelopes k ≡ Some e → e.to ≡ x → sends_stream (Frag f) (role_of w.plan e.sender) ≡ true → e.packet ≡ Plain (message.Truncated u base) → ⊥
  none-truncated k base e u at to sends packet = by-role (role_of w.plan e.sender) refl sends
    where
      by-cases : (c : ℕ) (is : role_of w.plan e.sender ≡ IsNode f c) → (slice_get w.envelopes k ≡ Some e) ⊎ RefusesNow w next most fine calm harmless e.sender f c is x reader.place u → ⊥
      by-cases c is (inl old) = h.truncated k base e u old to sends packet
      by-cases c is (inr new) = let low = (h.level.nodes e.sender c new.node is new.up).base in let below = new.below in omega (arith, low, below)

      by-role : (is : Role) → role_of w.plan e.sender ≡ is → sends_stream (Frag f) is ≡ true → ⊥
      by-role (IsSource v) is d = cc
      by-role (IsClient v) is d = cc
      by-role Nobody is d = cc
      by-role (IsNode d c) is t =
          let one : d ≡ f = sym (eq-of f d t) in
          let role_a : role_of w.plan e.sender ≡ IsNode f c = is ∙ ap (λ (z : ℕ). IsNode z c) one in
          by-cases c role_a (refuses-new w next most fine calm harmless e.sender f c role_a x reader.place (readers-distinct w.plan (Frag f)) reader.low reader.it (does e.sender f c role_a) k base e u at refl to packet)

  pub twice-next : IsTwice w.plan x f j next
  twice-next =
      record {
        level = level-next w next most fine calm x f 0 0 reader (omega arith) h.level (λ a c is. does a f c is)
            (λ k i count e at mine to packet. none-acked e.to count (acks-new w next most fine calm harmless x g b role (does x g b role) k i count e at mine packet));
        empty = still-empty;
        truncated = none-truncated;
      }
