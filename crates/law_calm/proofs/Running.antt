-- The opening is calm, and so is every run without crashes.
use Rattle.std.proofs.Common.{◌≡◌, ℕ, ◌+◌, true, false, List, [], ◌∷◌, ◌++◌, length, refl, sym, ap, subst, ◌∙◌, Some, slice_get}
use Rattle.std.proofs.lemmas.List.{append-nil, append_assoc}
use Rattle.dpc_lists.specs.Lists.{list_all}
use Rattle.dpc_model.specs.Inlets.{new_inlet}
use Rattle.dpc_model.specs.Actors.{role_of, nodes_of}
use Rattle.dpc_model.specs.Ports.{Port, port_at as opening_port}
use Rattle.dpc_model.specs.declared.actors.Role.TheVariants.{Node as IsNode}
use Rattle.dpc_model.specs.declared.messages.Event.{Event}
use Rattle.dpc_model.specs.declared.plans.Plan.{Plan}
use Rattle.node_model.specs.Nodes.{Home, PlainNode, streams_of, new_node}
use Rattle.world_model.specs.Worlds.{World, Envelope, Slot, home_of, happens, run, new_world}
use Rattle.world_model.specs.Steady.{NoneRecovers}
use Rattle.law_safety.specs.Plans.{IsCheckedPlan}
use Rattle.dpc_lists.proofs.Truths.{both}
use Rattle.dpc_lists.proofs.Somes.{some-same}
use Rattle.world_model.proofs.Running.{run-push, new_world-none}
use Rattle.law_safety.proofs.Law.{run-good}
use Rattle.law_safety.proofs.Growing.{run-plan}
use Rattle.law_granting.specs.Taken.{node_port}
use Rattle.law_granting.proofs.Moves.{get-mapped}
use Rattle.law_granting.proofs.Prefix.{new-order}
use Rattle.law_granting.proofs.Running.{new-slot, new_world-asking}
use Rattle.law_readers.proofs.Counting.{IsLow}
use Rattle.law_readers.proofs.Known.{none-newer}
use Rattle.law_readers.proofs.Surely.{sources-sure}
use Rattle.law_readers.specs.Newest.{IsPortOf, KnowsNoNewer}
use Rattle.law_readers.specs.Sure.{SourcesSendSurely}
use Rattle.law_readers.proofs.Kept.{new-node-low}
use Rattle.law_calm.specs.Crashes.{crashes_none}
use Rattle.law_calm.proofs.Doing.{AreCalmSlots, IsCalmSlot, calm-recovers}
use Rattle.law_calm.proofs.Steps.{port_at}
use Rattle.law_calm.proofs.Levels.{IsLevel}
use Rattle.law_calm.proofs.Calmly.{IsCalmWorld, calm-event}

-- ---- the opening

new-whole : (home : Home) → (new_node home).recovering ≡ false
unfolding new_node
new-whole home = refl

new-slots : (plan : Plan) → AreCalmSlots (new_world plan).nodes
unfolding new_world
new-slots plan i slot e =
    let k = get-mapped (λ (n : ℕ × ℕ). record { last_inc = 1; node = Some (new_node (home_of plan n)) }) (nodes_of plan) i slot e in
    subst IsCalmSlot k.2 (record { first = refl; node = new_node (home_of plan k.0); up = refl; whole = new-whole (home_of plan k.0) })

none-sent : (plan : Plan) (k : ℕ) (e : Envelope) → slice_get (new_world plan).envelopes k ≡ Some e → ⊥
none-sent plan k e there = none-there k (new_world plan).envelopes (new_world-none plan) there
  where
    none-there : (k : ℕ) (es : List Envelope) → es ≡ [] → slice_get es k ≡ Some e → ⊥
    none-there k [] same d = cc
    none-there k (y ∷ es) same d = cc

new-level : (plan : Plan) (x f b : ℕ) → IsLevel plan x f b (new_world plan)
new-level plan x f b =
    record {
      nodes = λ a r n role up.
          let slot = new-slot plan a f r role in
          let it = some-same (new_node (home_of plan (f, r))) n (sym (ap (λ (z : Slot). z.node) slot) ∙ up) in
          subst (λ (z : PlainNode). IsLow (home_of plan (f, r)) x b z.acks z.base) it (new-node-low (home_of plan (f, r)) x b);
      told = λ k i count e there mine to packet. absurd (none-sent plan k e there);
    }

new-bound : (home : Home) (j : ℕ) (q : Port) → slice_get (new_node home).ports j ≡ Some q → q.inlet.held.bound ≡ 0
unfolding new_node
new-bound home j q e = let k = get-mapped (opening_port home.plan (new_inlet 1)) (streams_of home) j q e in ap (λ (z : Port). z.inlet.held.bound) (sym k.2)

new-port : (plan : Plan) (x g b j : ℕ) (q : Port) → role_of plan x ≡ IsNode g b → port_at (new_world plan) x j ≡ Some q → q.inlet.held.bound ≡ 0
new-port plan x g b j q role there = new-bound (home_of plan (g, b)) j q (sym (ap (λ (z : Slot). node_port j z.node) (new-slot plan x g b role)) ∙ there)

new-calm : (plan : Plan) → IsCalmWorld plan (new_world plan)
new-calm plan =
    record {
      slots = new-slots plan;
      asking = new_world-asking plan;
      kept = λ x g b p f role port. record {
        level = λ q there. new-level plan x f (length q.inlet.held.stable);
        asked = λ k e asks q there mine to packet at same. absurd (none-sent plan k e there);
        truncated = λ k base e u q there to sends packet at. absurd (none-sent plan k e there);
      };
      twice = λ x g b f i j role twice. record { level = new-level plan x f 0; empty = λ q there. new-port plan x g b j q role there; truncated = λ k base e u there to sends packet. none-sent plan k e there };
      orders = λ x f a r s reader role. new-order plan a x f r reader.place 1 s role (λ e. refl);
    }

-- ---- a run

module _ (plan : Plan) (checked : IsCheckedPlan plan) where
  abbrev Calm : World → Type 0
  Calm w = IsCalmWorld plan w

  calm-step : (before : List Event) (e : Event) → crashes_none e ≡ true → Calm (run plan before) → Calm (happens (run plan before) e)
  calm-step before e none h =
      let w = run plan before in
      let g = run-good plan before checked in
      let same = run-plan plan before in
      subst (λ (z : Plan). IsCalmWorld z (happens w e)) same
      (calm-event w (1 + length before) g.fine (λ x p s port. subst (λ (z : Plan). KnowsNoNewer z w x p s) (sym same) (none-newer plan before checked x p s (subst (λ (z : Plan). IsPortOf z x p s) same port)))
      (subst (λ (z : Plan). SourcesSendSurely z w.envelopes) (sym same) (sources-sure plan before)) (subst (λ (z : Plan). IsCalmWorld z w) (sym same) h) e none)

  behind : (before rest : List Event) → list_all crashes_none rest ≡ true → Calm (run plan before) → Calm (run plan (before ++ rest))
  behind before [] none h = subst (λ (es : List Event). Calm (run plan es)) (sym (append-nil before)) h
  behind before (e ∷ rest) none h =
      let k = both (crashes_none e) (list_all crashes_none rest) none in
      subst (λ (es : List Event). Calm (run plan es)) (append_assoc before (e ∷ []) rest)
      (behind (before ++ e ∷ []) rest k.1 (subst Calm (sym (run-push plan before e)) (calm-step before e k.0 h)))

  run-calm : (events : List Event) → list_all crashes_none events ≡ true → Calm (run plan events)
  unfolding run
  run-calm events none = behind [] events none (new-calm plan)

  pub none-recovers : (events : List Event) → list_all crashes_none events ≡ true → NoneRecovers (run plan events).nodes
  none-recovers events none = calm-recovers (run plan events).nodes (run-calm events none).slots
