-- In every run a promise is to one of the fragment's replicas.
use Rattle.std.proofs.Common.{◌≡◌, ℕ, suc, ◌+◌, ◌<◌, Bool, true, false, cond, ◌==◌, nat_lt, List, [], ◌∷◌, refl, sym, ap, subst, ◌∙◌, Option, Some, None, ◌⊎◌, inl, inr}
use Rattle.dpc_lists.specs.Lists.{list_all, changed, place_of}
use Rattle.dpc_model.specs.Actors.{role_of, is_replica_of, replicas_of}
use Rattle.dpc_model.specs.Granting.{Key}
use Rattle.dpc_model.specs.declared.actors.Role.{Role}
use Rattle.dpc_model.specs.declared.actors.Role.TheVariants.{Source as IsSource, Node as IsNode, Client as IsClient, Nobody}
use Rattle.dpc_model.specs.declared.messages.Event.{Event}
use Rattle.dpc_model.specs.declared.plans.Plan.{Plan}
use Rattle.node_model.specs.Mails.{Stepped}
use Rattle.node_model.specs.Nodes.{Home, PlainNode, new_node, restarted_node}
use Rattle.node_model.specs.NodeSteps.{replica_number, packet_step, mill_step, tick_step}
use Rattle.world_model.specs.Worlds.{World, Slot, home_of, node_place, slot_of, restart_slot, node_stepped, happens, run_from, run, new_world}
use Rattle.law_safety.specs.Plans.{IsCheckedPlan}
use Rattle.dpc_lists.proofs.Truths.{both, eq-of}
use Rattle.dpc_lists.proofs.Somes.{some-same}
use Rattle.law_safety.proofs.Numbering.{actors-pass, replica-number}
use Rattle.law_safety.proofs.EventCases.{AreCases, by-event}
use Rattle.law_safety.proofs.Happening.{IsFine, happens-next}
use Rattle.law_safety.proofs.Promises.{slot-here}
use Rattle.law_safety.proofs.Law.{new_world-fine}
use Rattle.law_granting.proofs.Keys.{IsAskStep}
use Rattle.law_granting.proofs.Slots.{slot-there}
use Rattle.law_granting.proofs.Saying.{Asks, Never, own-delivered, own-milled, own-ticked}
use Rattle.law_granting.proofs.Running.{new-slot}
use Rattle.law_settling.proofs.Exact.{same-or}
use Rattle.law_settling.proofs.Fellows.{many_replicas}
use Rattle.law_settling.proofs.Replicas.{number-low}

abbrev pub AreNumbered : World → Type 0
AreNumbered w = (a f r : ℕ) (n : PlainNode) (p : ℕ × Key) → role_of w.plan a ≡ IsNode f r → (slot_of w a).node ≡ Some n → n.grants.promise ≡ Some p → p.0 < many_replicas w.plan f

-- an actor that has a place passes what all do
placed-pass : (test : ℕ → Bool) (a q : ℕ) (xs : List ℕ) → place_of (λ b. a == b) xs ≡ Some q → list_all test xs ≡ true → test a ≡ true
placed-pass test a q [] e h = cc
placed-pass test a q (x ∷ xs) e h =
    let p = both (test x) (list_all test xs) h in
    (elim (a == x) as (λ b. (a == x) ≡ b → cond {A = Option ℕ} b (Some 0) (elim (place_of (λ b. a == b) xs) as (λ _. Option ℕ) [ None ↦ None | Some i ↦ Some (suc i) ]) ≡ Some q → test a ≡ true) [
      | true ↦ λ d f. ap test (eq-of a x d) ∙ p.0
      | false ↦ λ d f. behind (place_of (λ b. a == b) xs) refl f (λ i g. placed-pass test a i xs g p.1)
    ]) refl e
  where
    behind : (o : Option ℕ) → place_of (λ b. a == b) xs ≡ o → (elim o as (λ _. Option ℕ) [ None ↦ None | Some i ↦ Some (suc i) ]) ≡ Some q → ((i : ℕ) → place_of (λ b. a == b) xs ≡ Some i → test a ≡ true) → test a ≡ true
    behind None d f rest = cc
    behind (Some i) d f rest = rest i d

-- a replica's number is below the number of replicas
number-below : (plan : Plan) (f r a q : ℕ) → replica_number (home_of plan (f, r)) a ≡ Some q → q < many_replicas plan f
number-below plan f r a q e = by-role (role_of plan a) refl (placed-pass (λ b. is_replica_of f (role_of plan b)) a q (replicas_of plan f) e (actors-pass (is_replica_of f) plan))
  where
    by-role : (role : Role) → role_of plan a ≡ role → is_replica_of f role ≡ true → q < many_replicas plan f
    by-role (IsSource s) d h = cc
    by-role (IsClient c) d h = cc
    by-role Nobody d h = cc
    by-role (IsNode g k) d h =
        let same = eq-of f g h in
        let role : role_of plan a ≡ IsNode f k = d ∙ ap (λ (i : ℕ). IsNode i k) (sym same) in
        let number = replica-number plan a f k q role e in
        subst (λ (i : ℕ). i < many_replicas plan f) (sym number) (number-low plan a f k k role)

none-promised : (home : Home) (j : ℕ) (p : ℕ × Key) → (restarted_node home j).grants.promise ≡ Some p → ⊥
unfolding restarted_node
none-promised home j p e = cc

module _ (w : World) (most : ℕ) (fine : IsFine w most) (h : AreNumbered w) where
  -- a slot that is changed
  slot-numbered : (a g q : ℕ) (F : Slot → Slot) → role_of w.plan a ≡ IsNode g q → ((n : PlainNode) (p : ℕ × Key) → (F (slot_of w a)).node ≡ Some n → n.grants.promise ≡ Some p → p.0 < many_replicas w.plan g) →
      AreNumbered (record w { nodes = changed (node_place w.plan a) F w.nodes })
  slot-numbered a g q F role_a new b f r n p role up promised =
      elim (same-or b a) [
        | inr other ↦ h b f r n p role (sym (ap (λ (y : Slot). y.node) (slot-there w a b g q f r F role_a role other)) ∙ up) promised
        | inl same ↦
            let here : slot_of (record w { nodes = changed (node_place w.plan a) F w.nodes }) a ≡ F (slot_of w a) = slot-here w most a g q F fine role_a in
            let there : (F (slot_of w a)).node ≡ Some n = sym (ap (λ (y : Slot). y.node) here) ∙ ap (λ (i : ℕ). (slot_of (record w { nodes = changed (node_place w.plan a) F w.nodes }) i).node) (sym same) ∙ up in
            let roles : IsNode g q ≡ IsNode f r = sym role_a ∙ ap (λ (i : ℕ). role_of w.plan i) (sym same) ∙ role in
            subst (λ (i : ℕ). p.0 < many_replicas w.plan i) (same-frag g q f r roles) (new n p there promised)
      ]
    where
      same-frag : (g q f r : ℕ) → IsNode g q ≡ IsNode f r → g ≡ f
      same-frag g q f r e = cc

  step-numbered : (A H E : ℕ → Key → Type 0) (a g q : ℕ) (x : PlainNode) (t : Stepped PlainNode) → role_of w.plan a ≡ IsNode g q → (slot_of w a).node ≡ Some x → IsAskStep H A E x.grants t.after.grants → ((i : ℕ) (key : Key) → A i key → i < many_replicas w.plan g) → AreNumbered (node_stepped a t w)
  step-numbered A H E a g q x t role up s low =
      slot-numbered a g q (λ (y : Slot). record y { node = Some t.after }) role (λ n p there promised. by-origin p (s.promise p.0 p.1 (ap (λ (y : PlainNode). y.grants.promise) (some-same t.after n there) ∙ promised)))
    where
      by-origin : (p : ℕ × Key) → (x.grants.promise ≡ Some (p.0, p.1)) ⊎ A p.0 p.1 → p.0 < many_replicas w.plan g
      by-origin p (inl before) = h a g q x p role up before
      by-origin p (inr asked) = low p.0 p.1 asked

  restart-numbered : (a i g q : ℕ) → role_of w.plan a ≡ IsNode g q → AreNumbered (record w { nodes = changed (node_place w.plan a) (restart_slot (home_of w.plan (g, q)) i) w.nodes })
  restart-numbered a i g q role = slot-numbered a g q (restart_slot (home_of w.plan (g, q)) i) role (λ n p there promised. by-node (slot_of w a).node refl n p there promised)
    where
      by-node : (o : Option PlainNode) → (slot_of w a).node ≡ o → (n : PlainNode) (p : ℕ × Key) → (elim o as (λ _. Slot) [ Some m ↦ slot_of w a | None ↦ cond (nat_lt (slot_of w a).last_inc i) (record { last_inc = i; node = Some (restarted_node (home_of w.plan (g, q)) i) }) (slot_of w a) ]).node ≡ Some n → n.grants.promise ≡ Some p → p.0 < many_replicas w.plan g
      by-node (Some m) e n p there promised = h a g q n p role there promised
      by-node None e n p there promised =
          (elim (nat_lt (slot_of w a).last_inc i) as (λ c. (cond {A = Slot} c (record { last_inc = i; node = Some (restarted_node (home_of w.plan (g, q)) i) }) (slot_of w a)).node ≡ Some n → p.0 < many_replicas w.plan g) [
            | true ↦ λ d. absurd (none-promised (home_of w.plan (g, q)) i p (ap (λ (y : PlainNode). y.grants.promise) (some-same (restarted_node (home_of w.plan (g, q)) i) n d) ∙ promised))
            | false ↦ λ d. h a g q n p role d promised
          ]) there

  numbered-cases : AreCases w (λ e next. AreNumbered next)
  numbered-cases =
      record {
        still = λ e. h;
        wires = λ e cuts. h;
        emitted = λ a s t role. h;
        released = λ a s t role. h;
        source_took = λ k s e there can role. h;
        source_ticks = λ a s now role. h;
        crashed = λ a g q role. slot-numbered a g q (λ (slot : Slot). record slot { node = None }) role (λ n p e promised. cc);
        restarted = λ a i g q role. restart-numbered a i g q role;
        node_took = λ k g q e x there can role up. step-numbered (Asks (home_of w.plan (g, q)) e.sender e.packet) _ _ e.to g q x (packet_step (home_of w.plan (g, q)) e.sender e.packet x) role up (own-delivered (home_of w.plan (g, q)) e.sender e.packet x).grants (λ i key asked. number-below w.plan g q e.sender i asked.0);
        node_ticked = λ a now g q x role up clock. step-numbered Never _ _ a g q x (tick_step (home_of w.plan (g, q)) now x) role up (own-ticked (home_of w.plan (g, q)) now x).grants (λ i key asked. absurd asked);
        node_milled = λ a m g q x role up can. step-numbered Never _ _ a g q x (mill_step (home_of w.plan (g, q)) m x) role up (own-milled (home_of w.plan (g, q)) m x).grants (λ i key asked. absurd asked);
        client_took = λ k c e there can role. h;
        client_ticks = λ a c now role. h;
      }

  event-numbered : (e : Event) → AreNumbered (happens w e)
  event-numbered e = by-event w (λ e next. AreNumbered next) numbered-cases e

run-from-numbered : (w : World) (most : ℕ) (events : List Event) → IsFine w most → AreNumbered w → AreNumbered (run_from w events)
run-from-numbered w most [] fine h = h
run-from-numbered w most (e ∷ events) fine h = run-from-numbered (happens w e) (most + 1) events (happens-next w most e fine).fine (event-numbered w most fine h e)

new-numbered : (plan : Plan) → AreNumbered (new_world plan)
unfolding new_world new_node
new-numbered plan a f r n p role up promised =
    let slot = new-slot plan a f r role in
    let same = some-same (new_node (home_of plan (f, r))) n (sym (ap (λ (x : Slot). x.node) slot) ∙ up) in
    let none : (new_node (home_of plan (f, r))).grants.promise ≡ Some p = ap (λ (y : PlainNode). y.grants.promise) same ∙ promised in cc

pub run-numbered : (plan : Plan) (events : List Event) → IsCheckedPlan plan → AreNumbered (run plan events)
unfolding run
run-numbered plan events checked = run-from-numbered (new_world plan) 1 events (new_world-fine plan checked) (new-numbered plan)
