-- No node of a live journal has a greater incarnation than there were restarts, and one more.
use Rattle.std.proofs.Common.{◌≡◌, ℕ, zero, suc, ◌+◌, ◌≤◌, true, false, cond, nat_lt, List, [], ◌∷◌, map, refl, sym, subst, arith, Option, Some, None, inl, inr}
use Rattle.std.specs.Prelude.{⊤}
use Rattle.dpc_lists.specs.Lists.{nth, changed}
use Rattle.dpc_lists.proofs.Truths.{both}
use Rattle.dpc_model.specs.Actors.{nodes_of}
use Rattle.dpc_model.specs.declared.messages.Event.{Event}
use Rattle.dpc_model.specs.declared.messages.Event.TheVariants.{Phase, Emit, Release, Cut, Heal, Crash, Restart, Deliver, Tick, Mill}
use Rattle.dpc_model.specs.declared.plans.Plan.{Plan}
use Rattle.dpc_model.specs.declared.scripts.Directive.{Directive}
use Rattle.dpc_model.specs.declared.scripts.Script.{Script}
use Rattle.node_model.specs.Nodes.{Home, PlainNode, new_node, restarted_node}
use Rattle.node_model.specs.NodeSteps.{packet_step, mill_step, tick_step}
use Rattle.world_model.specs.Worlds.{World, Slot, home_of, node_place, slot_of, restart_slot, happens, new_world, run}
use Rattle.world_model.specs.Schedules.{event_of, Progress, first_progress, next_progress, progress_from, may_follow, follows_from, is_live_so_far}
use Rattle.law_safety.proofs.EventCases.{AreCases, by-event}
use Rattle.law_granting.proofs.Keys.{nth-changed}
use Rattle.law_schedules.proofs.Lockstep.{progress-world}
use Rattle.law_healing.proofs.Steps.{by-directive, next-of}
use Rattle.law_journals.specs.Entries.{restarts_in}

-- no incarnation is above m
abbrev pub AreWithin : ℕ → World → Type 0
AreWithin m w = (b : ℕ) → (slot_of w b).last_inc ≤ m

-- nor that of a restart
abbrev StartsWithin : ℕ → Event → Type 0
StartsWithin m (Restart a i) = i ≤ m
StartsWithin m (Phase p) = ⊤
StartsWithin m (Emit a t) = ⊤
StartsWithin m (Release a t) = ⊤
StartsWithin m (Cut a b) = ⊤
StartsWithin m (Heal a b) = ⊤
StartsWithin m (Crash a) = ⊤
StartsWithin m (Deliver k) = ⊤
StartsWithin m (Tick a now) = ⊤
StartsWithin m (Mill a r) = ⊤

restarted-within : (home : Home) (i m : ℕ) (slot : Slot) → slot.last_inc ≤ m → i ≤ m → (restart_slot home i slot).last_inc ≤ m
restarted-within home i m slot h k = by-node slot.node
  where
    by-node : (o : Option PlainNode) → Slot.last_inc (elim o as (λ _. Slot) [ Some n ↦ slot | None ↦ cond (nat_lt slot.last_inc i) (record { last_inc = i; node = Some (restarted_node home i) }) slot ]) ≤ m
    by-node (Some n) = h
    by-node None = elim (nat_lt slot.last_inc i) as (λ b. Slot.last_inc (cond b (record { last_inc = i; node = Some (restarted_node home i) }) slot) ≤ m) [ true ↦ k | false ↦ h ]

module _ (w : World) (m : ℕ) (within : AreWithin m w) where
  abbrev Stays : Event → World → Type 0
  Stays e next = StartsWithin m e → AreWithin m next

  -- a slot that changed has an incarnation that is no greater
  changed-within : (a : ℕ) (g : Slot → Slot) → ((slot : Slot) → slot.last_inc ≤ m → (g slot).last_inc ≤ m) → (b : ℕ) → (nth (record { last_inc = 0; node = None }) (changed a g w.nodes) (node_place w.plan b)).last_inc ≤ m
  changed-within a g keeps b =
      elim (nth-changed (record { last_inc = 0; node = None }) a g w.nodes (node_place w.plan b)) [
        | inl same ↦ subst (λ (slot : Slot). slot.last_inc ≤ m) (sym same) (within b)
        | inr it ↦ subst (λ (slot : Slot). slot.last_inc ≤ m) (sym it.1) (keeps (slot_of w b) (within b))
      ]

  stays-cases : AreCases w Stays
  stays-cases =
      record {
        still = λ e k. within;
        wires = λ e cuts k. within;
        emitted = λ a s t role k. within;
        released = λ a s t role k. within;
        source_took = λ n s e found can role k. within;
        source_ticks = λ a s now role k. within;
        crashed = λ a f r role k. changed-within (node_place w.plan a) (λ (slot : Slot). record slot { node = None }) (λ slot h. h);
        restarted = λ a i f r role k. changed-within (node_place w.plan a) (restart_slot (home_of w.plan (f, r)) i) (λ slot h. restarted-within (home_of w.plan (f, r)) i m slot h k);
        node_took = λ n f r e x found can role up k. changed-within (node_place w.plan e.to) (λ (slot : Slot). record slot { node = Some (packet_step (home_of w.plan (f, r)) e.sender e.packet x).after }) (λ slot h. h);
        node_ticked = λ a now f r n role up clock k. changed-within (node_place w.plan a) (λ (slot : Slot). record slot { node = Some (tick_step (home_of w.plan (f, r)) now n).after }) (λ slot h. h);
        node_milled = λ a r f q n role up can k. changed-within (node_place w.plan a) (λ (slot : Slot). record slot { node = Some (mill_step (home_of w.plan (f, q)) r n).after }) (λ slot h. h);
        client_took = λ n c e found can role k. within;
        client_ticks = λ a c now role k. within;
      }

  event-within : (e : Event) → StartsWithin m e → AreWithin m (happens w e)
  event-within e = by-event w Stays stays-cases e

within-more : (m k : ℕ) (w : World) → m ≤ k → AreWithin m w → AreWithin k w
within-more m k w h within b = let low = within b in omega (arith, h, low)

-- ---- a live journal

-- the incarnation that a directive's event has
abbrev Restarts : World → Directive → Event → Type 0
Restarts w d (Restart a i) = i ≡ (slot_of w a).last_inc + 1
Restarts w d (Phase p) = ⊤
Restarts w d (Emit a t) = ⊤
Restarts w d (Release a t) = ⊤
Restarts w d (Cut a b) = ⊤
Restarts w d (Heal a b) = ⊤
Restarts w d (Crash a) = ⊤
Restarts w d (Deliver k) = ⊤
Restarts w d (Tick a now) = ⊤
Restarts w d (Mill a r) = ⊤

restarts-next : (w : World) (d : Directive) (a i : ℕ) → event_of w d ≡ Some (Restart a i) → i ≡ (slot_of w a).last_inc + 1
restarts-next w d a i e =
    by-directive w (λ x f. Restarts w x f) (record { emit = λ s t. tt; release = λ s t. tt; cut = λ b c. tt; heal = λ b c. tt; crash = λ b. tt; restart = λ b. refl }) d (Restart a i) e

next-within : (script : Script) (x : Progress) (e : Event) (m : ℕ) → may_follow script x e ≡ true → AreWithin m x.world → AreWithin (m + restarts_in (e ∷ [])) (happens x.world e)
next-within script x (Restart a i) m h within =
    let n = next-of x (Restart a i) h in
    let same = restarts-next x.world n.first a i n.event in
    let low = within a in
    event-within x.world (m + 1) (within-more m (m + 1) x.world (omega arith) within) (Restart a i) (omega (arith, same, low))
next-within script x (Phase p) m h within = event-within x.world (m + 0) (within-more m (m + 0) x.world (omega arith) within) (Phase p) tt
next-within script x (Emit a t) m h within = event-within x.world (m + 0) (within-more m (m + 0) x.world (omega arith) within) (Emit a t) tt
next-within script x (Release a t) m h within = event-within x.world (m + 0) (within-more m (m + 0) x.world (omega arith) within) (Release a t) tt
next-within script x (Cut a b) m h within = event-within x.world (m + 0) (within-more m (m + 0) x.world (omega arith) within) (Cut a b) tt
next-within script x (Heal a b) m h within = event-within x.world (m + 0) (within-more m (m + 0) x.world (omega arith) within) (Heal a b) tt
next-within script x (Crash a) m h within = event-within x.world (m + 0) (within-more m (m + 0) x.world (omega arith) within) (Crash a) tt
next-within script x (Deliver k) m h within = event-within x.world (m + 0) (within-more m (m + 0) x.world (omega arith) within) (Deliver k) tt
next-within script x (Tick a now) m h within = event-within x.world (m + 0) (within-more m (m + 0) x.world (omega arith) within) (Tick a now) tt
next-within script x (Mill a r) m h within = event-within x.world (m + 0) (within-more m (m + 0) x.world (omega arith) within) (Mill a r) tt

restarts-cons : (e : Event) (es : List Event) → restarts_in (e ∷ es) ≡ restarts_in (e ∷ []) + restarts_in es
restarts-cons (Restart a i) es = omega arith
restarts-cons (Phase p) es = omega arith
restarts-cons (Emit a t) es = omega arith
restarts-cons (Release a t) es = omega arith
restarts-cons (Cut a b) es = omega arith
restarts-cons (Heal a b) es = omega arith
restarts-cons (Crash a) es = omega arith
restarts-cons (Deliver k) es = omega arith
restarts-cons (Tick a now) es = omega arith
restarts-cons (Mill a r) es = omega arith

within-from : (script : Script) (x : Progress) (es : List Event) (m : ℕ) → follows_from script x es ≡ true → AreWithin m x.world → AreWithin (m + restarts_in es) (progress_from script x es).world
within-from script x [] m h within = within-more m (m + 0) x.world (omega arith) within
within-from script x (e ∷ es) m h within =
    let p = both (may_follow script x e) (follows_from script (next_progress script x e) es) h in
    let sum = restarts-cons e es in
    within-more (m + restarts_in (e ∷ []) + restarts_in es) (m + restarts_in (e ∷ es)) (progress_from script (next_progress script x e) es).world (omega (arith, sum))
    (within-from script (next_progress script x e) es (m + restarts_in (e ∷ [])) p.1 (next-within script x e m p.0 within))

new-within : (plan : Plan) → AreWithin 1 (new_world plan)
unfolding new_world
new-within plan b = among (nodes_of plan) (node_place plan b)
  where
    among : (ns : List (ℕ × ℕ)) (i : ℕ) → (nth {X = Slot} (record { last_inc = 0; node = None }) (map (λ (n : ℕ × ℕ). record { last_inc = 1; node = Some (new_node (home_of plan n)) }) ns) i).last_inc ≤ 1
    among [] i = omega arith
    among (n ∷ ns) zero = omega arith
    among (n ∷ ns) (suc i) = among ns i

pub incarnations-few : (script : Script) (es : List Event) → is_live_so_far script es ≡ true → AreWithin (1 + restarts_in es) (run script.plan es)
unfolding is_live_so_far run
incarnations-few script es h =
    subst (λ (w : World). AreWithin (1 + restarts_in es) w) (progress-world script (first_progress script) es) (within-from script (first_progress script) es 1 h (new-within script.plan))
