-- Each node that is down in a world is down behind the directives that were done.
use Rattle.std.proofs.Common.{◌≡◌, ℕ, ◌+◌, ◌-◌, ◌<◌, Bool, true, false, cond, not, ◌==◌, nat_lt, List, [], ◌∷◌, ◌++◌, length, refl, sym, ap, ◌∙◌, arith, Option, Some, None, slice_get, slice_index_or, is_some, inl, inr, ◌||◌}
use Rattle.std.specs.Prelude.{fold}
use Rattle.std.proofs.lemmas.Bool.{or_right, false_from_ne_true}
use Rattle.std.proofs.lemmas.Option.{slice_get-get_or}
use Rattle.dpc_lists.specs.Lists.{nth, changed}
use Rattle.dpc_model.specs.Actors.{role_of, nodes_of}
use Rattle.dpc_model.specs.declared.actors.Role.{Role}
use Rattle.dpc_model.specs.declared.actors.Role.TheVariants.{Source as IsSource, Node as IsNode, Client as IsClient, Nobody}
use Rattle.dpc_model.specs.declared.messages.Event.{Event}
use Rattle.dpc_model.specs.declared.messages.Event.TheVariants.{Crash, Restart}
use Rattle.dpc_model.specs.declared.plans.Plan.{Plan}
use Rattle.dpc_model.specs.declared.scripts.Directive.{Directive}
use Rattle.dpc_model.specs.declared.scripts.Directive.TheVariants as directive
use Rattle.dpc_lists.proofs.Elements.{length-changed, nth-here}
use Rattle.dpc_model.proofs.Numbers.{node-role}
use Rattle.node_model.specs.Nodes.{Home, PlainNode, restarted_node}
use Rattle.node_model.specs.NodeSteps.{packet_step, mill_step, tick_step}
use Rattle.world_model.specs.Worlds.{World, Slot, home_of, node_place, slot_of, crashes, restart_slot, restarts, happens}
use Rattle.dpc_lists.proofs.Truths.{eq-of, eq-test, lt-test}
use Rattle.dpc_model.proofs.Roles.{node-past}
use Rattle.world_model.specs.Events.{is_crash, is_restart}
use Rattle.law_safety.proofs.EventCases.{AreCases, by-event}
use Rattle.law_granting.proofs.Keys.{nth-changed}
use Rattle.law_schedules.proofs.Calm.{no_slot, node_in}
use Rattle.law_healing.specs.Healing.{down_behind}
use Rattle.law_healing.proofs.Behind.{fold-push}

abbrev pub is_up_at : List Slot → ℕ → Bool
is_up_at slots i = is_some (node_in slots i)

-- the first node has this number
abbrev pub AreDownBehind : ℕ → List Directive → List Slot → Type 0
AreDownBehind first done slots = (i : ℕ) → i < length slots → is_up_at slots i ≡ false → fold (down_behind (first + i)) false done ≡ true

-- ---- the actors that are nodes

node-there : (plan : Plan) (i : ℕ) → i < length (nodes_of plan) → (n : ℕ × ℕ) × (role_of plan (length plan.sources + i) ≡ IsNode n.0 n.1)
node-there plan i low =
    let n = slice_index_or (nodes_of plan) i (0, 0) in
    let place : length plan.sources + i - length plan.sources ≡ i = omega arith in
    (n, node-role plan (length plan.sources + i) n (omega arith) (ap (λ (j : ℕ). slice_get (nodes_of plan) j) place ∙ slice_get-get_or (nodes_of plan) i (0, 0) low))

abbrev is_node : Role → Bool
is_node (IsNode f r) = true
is_node (IsSource s) = false
is_node (IsClient c) = false
is_node Nobody = false

-- who is no node has none of their numbers
other-actor : (plan : Plan) (a i : ℕ) → i < length (nodes_of plan) → is_node (role_of plan a) ≡ false → (a == length plan.sources + i) ≡ false
other-actor plan a i low other =
    false_from_ne_true (a == length plan.sources + i) (λ e.
    let there = node-there plan i low in
    let clash : true ≡ false = sym (ap is_node (ap (λ (b : ℕ). role_of plan b) (eq-of a (length plan.sources + i) e) ∙ there.1)) ∙ other in
    cc)

-- ---- one directive more

-- who was down, where no node went down
was-down : (slots next : List Slot) (i : ℕ) → (is_up_at slots i ≡ true → is_up_at next i ≡ true) → is_up_at next i ≡ false → is_up_at slots i ≡ false
was-down slots next i stays down = false_from_ne_true (is_up_at slots i) (λ up. let clash : true ≡ false = sym (stays up) ∙ down in cc)

pub downs-kept : (first : ℕ) (done : List Directive) (slots next : List Slot) → length next ≡ length slots → ((i : ℕ) → is_up_at slots i ≡ true → is_up_at next i ≡ true) → AreDownBehind first done slots → AreDownBehind first done next
downs-kept first done slots next many stays h i low down = h i (omega (arith, low, many)) (was-down slots next i (stays i) down)

still-down : (done : List Directive) (d : Directive) (a : ℕ) → fold (down_behind a) false done ≡ true → down_behind a true d ≡ true → fold (down_behind a) false (done ++ d ∷ []) ≡ true
still-down done d a was now = fold-push (down_behind a) false done d ∙ ap (λ (b : Bool). down_behind a b d) was ∙ now

pub downs-idle : (first : ℕ) (done : List Directive) (d : Directive) (slots : List Slot) → ((a : ℕ) → down_behind a true d ≡ true) → AreDownBehind first done slots → AreDownBehind first (done ++ d ∷ []) slots
downs-idle first done d slots idle h i low down = still-down done d (first + i) (h i low down) (idle (first + i))

-- ---- crashes

pub downs-crash : (done : List Directive) (w : World) (a : ℕ) (role : Role) → role_of w.plan a ≡ role → AreDownBehind (length w.plan.sources) done w.nodes →
    AreDownBehind (length w.plan.sources) (done ++ directive.Crash a ∷ []) (crashes w a role).nodes
downs-crash done w a (IsSource s) is h = downs-idle (length w.plan.sources) done (directive.Crash a) w.nodes (λ b. refl) h
downs-crash done w a (IsClient c) is h = downs-idle (length w.plan.sources) done (directive.Crash a) w.nodes (λ b. refl) h
downs-crash done w a Nobody is h = downs-idle (length w.plan.sources) done (directive.Crash a) w.nodes (λ b. refl) h
downs-crash done w a (IsNode f r) is h = λ i low down.
    let first = length w.plan.sources in
    let past = node-past w.plan a f r is in
    let many = length-changed (node_place w.plan a) (λ (slot : Slot). record slot { node = None }) w.nodes in
    elim (nth-changed no_slot (node_place w.plan a) (λ (slot : Slot). record slot { node = None }) w.nodes i) [
      | inl same ↦ still-down done (directive.Crash a) (first + i) (h i (omega (arith, low, many)) (ap (λ (slot : Slot). is_some slot.node) (sym same) ∙ down)) refl
      | inr here ↦
          let place = here.0 in
          let it : (a == first + i) ≡ true = eq-test a (first + i) (omega (arith, past, place)) in
          fold-push (down_behind (first + i)) false done (directive.Crash a) ∙ or_right (fold (down_behind (first + i)) false done) (a == first + i) it
    ]

-- ---- restarts

-- who is down and is another node is down behind a restart
still-other : (done : List Directive) (a b : ℕ) → fold (down_behind b) false done ≡ true → (a == b) ≡ false → fold (down_behind b) false (done ++ directive.Restart a ∷ []) ≡ true
still-other done a b was other = still-down done (directive.Restart a) b was (ap not other)

-- a restart with the next incarnation brings the node up
restarted-up : (home : Home) (slot : Slot) → is_some (restart_slot home (slot.last_inc + 1) slot).node ≡ true
restarted-up home slot =
    let next : Slot = record { last_inc = slot.last_inc + 1; node = Some (restarted_node home (slot.last_inc + 1)) } in
    (elim slot.node as (λ o. slot.node ≡ o → is_some (Slot.node (elim o [ Some n ↦ slot | None ↦ cond (nat_lt slot.last_inc (slot.last_inc + 1)) next slot ])) ≡ true) [
      | None ↦ λ e. let later : nat_lt slot.last_inc (slot.last_inc + 1) ≡ true = lt-test slot.last_inc (slot.last_inc + 1) (omega arith) in rw later refl
      | Some n ↦ λ e. ap (λ (o : Option PlainNode). is_some o) e
    ]) refl

downs-void : (done : List Directive) (w : World) (a : ℕ) → length w.nodes ≡ length (nodes_of w.plan) → is_node (role_of w.plan a) ≡ false → AreDownBehind (length w.plan.sources) done w.nodes →
    AreDownBehind (length w.plan.sources) (done ++ directive.Restart a ∷ []) w.nodes
downs-void done w a many other h i low down = still-other done a (length w.plan.sources + i) (h i low down) (other-actor w.plan a i (omega (arith, low, many)) other)

pub downs-restart : (done : List Directive) (w : World) (a : ℕ) (role : Role) → role_of w.plan a ≡ role → length w.nodes ≡ length (nodes_of w.plan) → AreDownBehind (length w.plan.sources) done w.nodes →
    AreDownBehind (length w.plan.sources) (done ++ directive.Restart a ∷ []) (restarts w a ((slot_of w a).last_inc + 1) role).nodes
downs-restart done w a (IsSource s) is many h = downs-void done w a many (ap is_node is) h
downs-restart done w a (IsClient c) is many h = downs-void done w a many (ap is_node is) h
downs-restart done w a Nobody is many h = downs-void done w a many (ap is_node is) h
downs-restart done w a (IsNode f r) is many h = λ i low down.
    let first = length w.plan.sources in
    let home = home_of w.plan (f, r) in
    let inc = (slot_of w a).last_inc + 1 in
    let place = node_place w.plan a in
    let same_many = length-changed place (restart_slot home inc) w.nodes in
    let up : is_some (restart_slot home inc (nth no_slot w.nodes place)).node ≡ true = restarted-up home (slot_of w a) in
    let now_up : (j : ℕ) → j ≡ place → nth no_slot (changed place (restart_slot home inc) w.nodes) j ≡ restart_slot home inc (nth no_slot w.nodes j) → is_up_at (changed place (restart_slot home inc) w.nodes) j ≡ true =
    λ j mine is_now. ap (λ (slot : Slot). is_some slot.node) is_now ∙ ap (λ (k : ℕ). is_some (restart_slot home inc (nth no_slot w.nodes k)).node) mine ∙ up in
    (elim (a == first + i) as (λ b. (a == first + i) ≡ b → fold (down_behind (first + i)) false (done ++ directive.Restart a ∷ []) ≡ true) [
      | true ↦ λ e.
          let number = eq-of a (first + i) e in
          let mine : i ≡ place = omega (arith, number) in
          let here = nth-here no_slot i (restart_slot home inc) w.nodes (omega (arith, low, same_many)) in
          let clash : true ≡ false = sym (now_up i mine (ap (λ (k : ℕ). nth no_slot (changed k (restart_slot home inc) w.nodes) i) (sym mine) ∙ here)) ∙ down in
          cc
      | false ↦ λ e.
          still-other done a (first + i) (h i (omega (arith, low, same_many)) (elim (nth-changed no_slot place (restart_slot home inc) w.nodes i) [
            | inl same ↦ ap (λ (slot : Slot). is_some slot.node) (sym same) ∙ down
            | inr here ↦ let clash : true ≡ false = sym (now_up i here.0 here.1) ∙ down in cc
          ])) e
    ]) refl

-- ---- all other events leave each node up

-- a node is crashed or restarted
abbrev pub is_broken : Event → Bool
is_broken e = is_crash e || is_restart e

stepped-stays : (w : World) (a : ℕ) (n : PlainNode) (i : ℕ) → is_up_at w.nodes i ≡ true → is_up_at (changed (node_place w.plan a) (λ (slot : Slot). record slot { node = Some n }) w.nodes) i ≡ true
stepped-stays w a n i up =
    elim (nth-changed no_slot (node_place w.plan a) (λ (slot : Slot). record slot { node = Some n }) w.nodes i) [
      | inl same ↦ ap (λ (slot : Slot). is_some slot.node) same ∙ up
      | inr here ↦ ap (λ (slot : Slot). is_some slot.node) here.1
    ]

stay-cases : (w : World) → AreCases w (λ e next. is_broken e ≡ false → (i : ℕ) → is_up_at w.nodes i ≡ true → is_up_at next.nodes i ≡ true)
stay-cases w =
    record {
      still = λ e q i up. up;
      wires = λ e cuts q i up. up;
      emitted = λ a v t role q i up. up;
      released = λ a v t role q i up. up;
      source_took = λ k v e there can role q i up. up;
      source_ticks = λ a v now role q i up. up;
      crashed = λ a f r role q i up. cc;
      restarted = λ a j f r role q i up. cc;
      node_took = λ k f r e n there can role here q i up. stepped-stays w e.to (packet_step (home_of w.plan (f, r)) e.sender e.packet n).after i up;
      node_ticked = λ a now f r n role here clock q i up. stepped-stays w a (tick_step (home_of w.plan (f, r)) now n).after i up;
      node_milled = λ a r f v n role here can q i up. stepped-stays w a (mill_step (home_of w.plan (f, v)) r n).after i up;
      client_took = λ k c e there can role q i up. up;
      client_ticks = λ a c now role q i up. up;
    }

pub stays-up : (w : World) (e : Event) → is_broken e ≡ false → (i : ℕ) → is_up_at w.nodes i ≡ true → is_up_at (happens w e).nodes i ≡ true
stays-up w e q = by-event w (λ e next. is_broken e ≡ false → (i : ℕ) → is_up_at w.nodes i ≡ true → is_up_at next.nodes i ≡ true) (stay-cases w) e q

-- ---- as many slots as the plan has nodes

many-cases : (w : World) → AreCases w (λ e next. length next.nodes ≡ length w.nodes)
many-cases w =
    record {
      still = λ e. refl;
      wires = λ e cuts. refl;
      emitted = λ a v t role. refl;
      released = λ a v t role. refl;
      source_took = λ k v e there can role. refl;
      source_ticks = λ a v now role. refl;
      crashed = λ a f r role. length-changed (node_place w.plan a) _ w.nodes;
      restarted = λ a i f r role. length-changed (node_place w.plan a) _ w.nodes;
      node_took = λ k f r e n there can role up. length-changed (node_place w.plan e.to) _ w.nodes;
      node_ticked = λ a now f r n role up clock. length-changed (node_place w.plan a) _ w.nodes;
      node_milled = λ a r f v n role up can. length-changed (node_place w.plan a) _ w.nodes;
      client_took = λ k c e there can role. refl;
      client_ticks = λ a c now role. refl;
    }

pub event-slots : (w : World) (e : Event) → length (happens w e).nodes ≡ length w.nodes
event-slots w e = by-event w (λ e next. length next.nodes ≡ length w.nodes) (many-cases w) e
