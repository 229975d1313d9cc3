-- What a fragment's replicas forget the node that reads the fragment and stands whole has processed.
use Rattle.std.proofs.Common.{◌≡◌, ℕ, zero, suc, ◌+◌, ◌*◌, ◌≤◌, true, false, cond, List, [], ◌∷◌, map, length, sym, ap, subst, ◌∙◌, arith, Option, Some, slice_get, ◌⊎◌, inl, inr}
use Rattle.dpc_lists.specs.Lists.{nth}
use Rattle.dpc_model.specs.Streams.{count_below}
use Rattle.dpc_model.specs.Fragments.{ideal_upto}
use Rattle.dpc_model.specs.Actors.{role_of, inputs_of, sends_stream}
use Rattle.dpc_model.specs.Ports.{Port, held_at}
use Rattle.dpc_model.specs.declared.actors.Role.{Role}
use Rattle.dpc_model.specs.declared.actors.Role.TheVariants.{Node as IsNode}
use Rattle.dpc_model.specs.declared.tuples.Tuple.{Tuple}
use Rattle.dpc_model.specs.declared.messages.Event.{Event}
use Rattle.dpc_model.specs.declared.plans.Plan.{Plan}
use Rattle.dpc_model.specs.declared.plans.StreamRef.{StreamRef}
use Rattle.dpc_model.specs.declared.plans.StreamRef.TheVariants.{Frag}
use Rattle.dpc_lists.proofs.Somes.{some-same}
use Rattle.dpc_model.proofs.Numbers.{times-le}
use Rattle.node_model.specs.Nodes.{Home, PlainNode, streams_of, inputs_done}
use Rattle.node_model.specs.NodeSteps.{done_at}
use Rattle.world_model.specs.Worlds.{World, Envelope, home_of, slot_of, happens}
use Rattle.world_model.specs.Safe.{EachReaches}
use Rattle.law_safety.specs.Plans.{IsChecked}
use Rattle.law_safety.proofs.Frames.{IsGood}
use Rattle.law_safety.proofs.Milling.{upto_le}
use Rattle.law_safety.proofs.Outputs.{cut-held, inputs-held}
use Rattle.law_safety.proofs.Pointwise.{holds-at}
use Rattle.law_safety.proofs.Numbering.{home-inputs}
use Rattle.law_safety.proofs.Happening.{IsFine, happens-next, node-here}
use Rattle.law_granting.proofs.Prefix.{IsReader}
use Rattle.law_readers.specs.Newest.{IsPortOf}
use Rattle.law_readers.proofs.Known.{sends-one}
use Rattle.law_survivors.specs.Spared.{StandsIn}
use Rattle.law_survivors.proofs.Doing.{ReplicaDoes, NoneHarms}
use Rattle.law_survivors.proofs.Steps.{AcksNow, acks-new}
use Rattle.law_survivors.proofs.Cursors.{cursor-grows}
use Rattle.law_survivors.proofs.Levels.{IsLevel, level-next}

-- how many tuples of a fragment's stream lie below a node's cursor
abbrev pub done_of : Plan → ℕ → PlainNode → ℕ
done_of plan f n = length (ideal_upto plan (Frag f) (n.cursor * plan.width))

reaches-at : (b j : ℕ) (ports : List Port) (q : Port) → EachReaches b (map held_at ports) → slice_get ports j ≡ Some q → b ≤ q.inlet.held.bound
reaches-at b j [] q h e = cc
reaches-at b zero (z ∷ ports) q h e = let same : z ≡ q = cc in subst (λ (y : Port). b ≤ y.inlet.held.bound) same h.0
reaches-at b (suc j) (z ∷ ports) q h e = reaches-at b j ports q h.1 e

nth-mapped : (f : StreamRef → List Tuple) (ss : List StreamRef) (p : ℕ) (s : StreamRef) → slice_get ss p ≡ Some s → nth [] (map f ss) p ≡ f s
nth-mapped f [] p s e = cc
nth-mapped f (u ∷ ss) zero s e = ap f (some-same u s e)
nth-mapped f (u ∷ ss) (suc p) s e = nth-mapped f ss p s e

-- ---- a node that does not recover

module _ (home : Home) (most : ℕ) (n : PlainNode) (checked : IsChecked home.plan) (good : IsGood home most n) (whole : n.recovering ≡ false) where
  -- what a snapshot of it carries of a port
  pub done-is : (p : ℕ) (s : StreamRef) → slice_get (streams_of home) p ≡ Some s → length (nth [] (inputs_done home n) p) ≡ length (ideal_upto home.plan s (n.cursor * home.plan.width))
  done-is p s reads =
      let b = n.cursor * home.plan.width in
      let all = inputs-held home.plan b checked.sound (streams_of home) n.ports good.safe.inputs (good.safe.output whole).reaches in
      ap (λ (tss : List (List Tuple)). length (nth [] tss p)) all ∙ ap (λ (ts : List Tuple). length ts) (nth-mapped (λ u. ideal_upto home.plan u b) (streams_of home) p s reads)

  -- what it acknowledges there
  pub acked-is : (p : ℕ) (s : StreamRef) (q : Port) → slice_get (streams_of home) p ≡ Some s → slice_get n.ports p ≡ Some q → done_at home n q ≡ length (ideal_upto home.plan s (n.cursor * home.plan.width))
  acked-is p s q reads there =
      let b = n.cursor * home.plan.width in
      let held = cut-held home.plan s q.inlet.held b checked.sound (holds-at home.plan p s (streams_of home) n.ports q good.safe.inputs reads there) (reaches-at b p n.ports q (good.safe.output whole).reaches there) in
      ap (λ (c : _). cond {A = ℕ} c 0 (count_below q.inlet.held.stable b)) whole ∙ ap (λ (ts : List Tuple). length ts) held

-- ---- an event

module _ {incarnation : ℕ} (w : World) (most : ℕ) (d : Event) (fine : IsFine w most) (x g b : ℕ) (role : role_of w.plan x ≡ IsNode g b) (stands : StandsIn incarnation w x) (harmless : NoneHarms w (home_of w.plan (g, b)) x)
    (does : (a f r : ℕ) → role_of w.plan a ≡ IsNode f r → ReplicaDoes w (home_of w.plan (f, r)) a d (happens w d)) (p f : ℕ) (port : IsPortOf w.plan x p (Frag f)) (reader : IsReader w.plan (Frag f) x) (later : StandsIn incarnation (happens w d) x)
    (h : IsLevel w.plan x f (done_of w.plan f stands.node) w) where
  abbrev Here : Home
  Here = home_of w.plan (g, b)

  reads : slice_get (streams_of Here) p ≡ Some (Frag f)
  reads = sym (ap (λ (ss : List StreamRef). slice_get ss p) (home-inputs Here b)) ∙ ap (λ (z : Role). slice_get (inputs_of w.plan z) p) (sym role) ∙ port.there

  stream-is : (a place : ℕ) (s : StreamRef) → slice_get (streams_of Here) place ≡ Some s → sends_stream s (role_of w.plan a) ≡ true → sends_stream (Frag f) (role_of w.plan a) ≡ true → place ≡ p
  stream-is a place s at sends to =
      let same : s ≡ Frag f = sends-one (Frag f) s (role_of w.plan a) to sends in
      port.only place (ap (λ (z : Role). slice_get (inputs_of w.plan z) place) role ∙ ap (λ (ss : List StreamRef). slice_get ss place) (home-inputs Here b) ∙ at ∙ ap {B = Option StreamRef} Some same)

  pub done-next : (z : PlainNode) → (slot_of (happens w d) x).node ≡ Some z → IsLevel w.plan x f (done_of w.plan f z) (happens w d)
  done-next z now =
      let whole : z.recovering ≡ false = subst (λ (y : PlainNode). y.recovering ≡ false) (some-same later.node z (sym later.up ∙ now)) later.whole in
      let cursor = cursor-grows w (happens w d) Here x d (does x g b role) stands.node z stands.up now stands.whole whole in
      let more = upto_le w.plan (Frag f) (stands.node.cursor * w.plan.width) (z.cursor * w.plan.width) fine.checked.checked.sound (times-le stands.node.cursor z.cursor w.plan.width cursor) in
      level-next w (happens w d) most d fine x f (done_of w.plan f stands.node) (done_of w.plan f z) (λ i. Unit {0}) (λ k i count e event there mine packet. tt) reader more h (λ a r is. does a f r is)
      (λ k i count e counted there mine to packet. by-new whole count e to (acks-new w (happens w d) Here x d stands harmless (does x g b role) k i count e there mine packet))
    where
      le-same : (j k : ℕ) → j ≡ k → j ≤ k
      le-same j k e = omega (arith, e)

      by-new : {T : Type 0} → z.recovering ≡ false → (count : ℕ) (e : Envelope) → sends_stream (Frag f) (role_of w.plan e.to) ≡ true → T ⊎ AcksNow w (happens w d) Here x d stands harmless e.to count → T ⊎ (count ≤ done_of w.plan f z)
      by-new whole count e to (inl old) = inl old
      by-new whole count e to (inr new) =
          let a = new.acks in
          let place = stream-is e.to a.place a.stream a.reads a.sends to in
          let after : new.after ≡ z = some-same new.after z (sym new.now ∙ now) in
          let next = happens-next w most d fine in
          let good = subst (λ (y : Plan). IsGood (home_of y (g, b)) (most + 1) z) next.plan (node-here (happens w d) (most + 1) x g b z next.fine (ap (λ (y : Plan). role_of y x) next.plan ∙ role) now) in
          let there : slice_get z.ports p ≡ Some a.port = ap (λ (y : PlainNode). slice_get y.ports p) (sym after) ∙ ap (λ (j : ℕ). slice_get new.after.ports j) (sym place) ∙ a.there in
          let is = acked-is Here (most + 1) z fine.checked.checked good whole p (Frag f) a.port reads there in
          inr (le-same count (done_of w.plan f z) (a.count_is ∙ ap (λ (y : PlainNode). done_at Here y a.port) after ∙ is))
