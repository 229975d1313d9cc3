-- How a run stands at each point of a journal that is live so far, and the directives' events.
use Rattle.std.proofs.Common.{◌≡◌, ℕ, zero, suc, ◌+◌, Bool, true, false, not, cond, ◌&&◌, ◌==◌, nat_lt, List, [], ◌∷◌, ◌++◌, map, drop, refl, sym, ap, subst, ◌∙◌, arith, Some, None}
use Rattle.std.specs.List.{filter}
use Rattle.dpc_lists.specs.Lists.{is_nil, list_all, range_with_len, IsRising}
use Rattle.dpc_model.specs.Actors.{nodes_of}
use Rattle.dpc_model.specs.declared.messages.Event.{Event}
use Rattle.dpc_model.specs.declared.messages.Event.TheVariants.{Phase, Emit, Release, Cut, Heal, Crash, Restart, Deliver, Tick, Mill}
use Rattle.dpc_model.specs.declared.scripts.Directive.{Directive}
use Rattle.dpc_model.specs.declared.scripts.Script.{Script}
use Rattle.world_model.specs.Worlds.{World, new_world, happens, ready_at}
use Rattle.world_model.specs.Schedules.{Undelivered, Progress, first_progress, next_progress, progress_from, progress, may_follow, follows_from, is_live_so_far, has_event, event_of, same_event, is_next, newly_sent, target_of, targets_in, targets_left, is_recovering, node_actors, phase_of, may_mill}
use Rattle.dpc_lists.proofs.Truths.{both, eq-test, all-filter, all-drop, true-not-false}
use Rattle.dpc_model.proofs.Numbers.{rising-lower}
use Rattle.law_schedules.proofs.Calm.{AreZeroed, IsGrown, happens-grown}
use Rattle.law_schedules.proofs.Targets.{AllMet, targets-met, left-met, mill-at}
use Rattle.law_schedules.proofs.Lockstep.{slots-zeroed}
use Rattle.law_completion.proofs.Reaching.{KeepsReach, deliver-keeps, tick-keeps}

-- ---- what stands at each point

abbrev pub actors_in : List (ℕ × ℕ) → List ℕ
actors_in ts = map (λ (t : ℕ × ℕ). t.0) ts

-- with the directives done each target is within reach; until then there is none
abbrev pub AreTargets : World → List Directive → List (ℕ × ℕ) → Type 0
AreTargets w [] ts = AllMet w (ready_at w) ts × IsRising 0 (actors_in ts)
AreTargets w (d ∷ ds) ts = ts ≡ []

pub record IsStanding (script : Script) (x : Progress) : Type 0 where
  pub plan : x.world.plan ≡ script.plan
  pub zeroed : AreZeroed x.world.nodes
  pub events : list_all has_event x.todo ≡ true
  pub targets : AreTargets x.world x.todo x.targets

-- ---- targets

rising-range : (w : World) (k n : ℕ) → IsRising k (actors_in (map (target_of w) (range_with_len k n)))
rising-range w k zero = tt
rising-range w k (suc n) = (omega arith, rising-range w (k + 1) n)

rising-left : (w : World) (k : ℕ) (ts : List (ℕ × ℕ)) → IsRising k (actors_in ts) → IsRising k (actors_in (targets_left w ts))
rising-left w k [] h = tt
rising-left w k (t ∷ ts) h =
    elim (is_recovering w t.0) as (λ b. IsRising k (actors_in (cond (not b) (t ∷ targets_left w ts) (targets_left w ts)))) [
      | true ↦ let low = h.0 in rising-left w k ts (rising-lower k (t.0 + 1) (actors_in ts) (omega (arith, low)) h.1)
      | false ↦ (h.0, rising-left w (t.0 + 1) ts h.1)
    ]

rising-in : (w : World) → IsRising 0 (actors_in (targets_in w))
rising-in w = rising-lower 0 _ (actors_in (targets_in w)) (omega arith) (rising-range w _ _)

all-in : (w : World) → AllMet w (ready_at w) (targets_in w) × IsRising 0 (actors_in (targets_in w))
all-in w = (targets-met w (node_actors w.plan), rising-in w)

all-left : (w v : World) (ts : List (ℕ × ℕ)) → KeepsReach w v → AllMet w (ready_at w) ts × IsRising 0 (actors_in ts) → AllMet v (ready_at v) (targets_left v ts) × IsRising 0 (actors_in (targets_left v ts))
all-left w v ts keeps h = (left-met w v (ready_at w) (ready_at v) keeps ts h.0, rising-left v 0 ts h.1)

-- ---- one event

calm-targets : (w v : World) (ds : List Directive) (ts : List (ℕ × ℕ)) (b : Bool) → KeepsReach w v → AreTargets w ds ts →
    AreTargets v ds (cond (not (is_nil ds) && is_nil ds && b) (targets_in v) (targets_left v ts))
calm-targets w v [] ts b keeps h = all-left w v ts keeps h
calm-targets w v (d ∷ ds) ts b keeps h = ap (λ (us : List (ℕ × ℕ)). targets_left v us) h

directed-targets : (w v : World) (d : Directive) (ds : List Directive) (ts : List (ℕ × ℕ)) (p : ℕ) → ts ≡ [] → AreTargets v ds (cond (not (is_nil (d ∷ ds)) && is_nil ds && p == p) (targets_in v) (targets_left v ts))
directed-targets w v d [] ts p h = let same = eq-test p p refl in rw same (all-in v)
directed-targets w v d (e ∷ ds) ts p h = ap (λ (us : List (ℕ × ℕ)). targets_left v us) h

opened-targets : (w : World) (ds : List Directive) (a b : Bool) → AreTargets w ds (cond (a && is_nil ds && b) (targets_in w) (targets_left w (cond (is_nil ds) (targets_in w) [])))
opened-targets w [] true true = all-in w
opened-targets w [] true false = all-left w w (targets_in w) (λ b goal e h. h) (all-in w)
opened-targets w [] false b = all-left w w (targets_in w) (λ b goal e h. h) (all-in w)
opened-targets w (d ∷ ds) true b = refl
opened-targets w (d ∷ ds) false b = refl

mill-keeps : (w : World) (a r : ℕ) → may_mill w a r ≡ true → KeepsReach w (happens w (Mill a r))
mill-keeps w a r h b goal e k = (mill-at w a r h).meets b goal k

-- a directive is left where its event may come
todo-some : (x : Progress) (e : Event) → is_next x e ≡ true → (d : Directive) × ((ds : List Directive) × (x.todo ≡ d ∷ ds))
todo-some x e h = by-todo x.todo refl h
  where
    by-todo : (us : List Directive) → x.todo ≡ us → (elim us [ [] ↦ false | d ∷ rest ↦ elim (event_of x.world d) [ None ↦ false | Some f ↦ same_event f e ] ]) ≡ true → (d : Directive) × ((ds : List Directive) × (x.todo ≡ d ∷ ds))
    by-todo [] q k = absurd (true-not-false (sym k))
    by-todo (d ∷ ds) q k = (d, (ds, q))

directed-standing : (script : Script) (x : Progress) (v : World) (d : Directive) (ds : List Directive) → IsGrown x.world v → x.todo ≡ d ∷ ds → IsStanding script x → IsStanding script (record {
  world = v;
  phase = x.phase;
  todo = drop 1 x.todo;
  waiting = x.waiting ++ newly_sent x.world v;
  ticked = x.ticked;
  targets = cond (not (is_nil x.todo) && is_nil (drop 1 x.todo) && x.phase == x.phase) (targets_in v) (targets_left v x.targets);
})
directed-standing script x v d ds c is s =
    record {
      plan = c.plan ∙ s.plan;
      zeroed = c.zeroed s.zeroed;
      events = all-drop has_event 1 x.todo s.events;
      targets = subst (λ (us : List Directive). AreTargets v (drop 1 us) (cond (not (is_nil us) && is_nil (drop 1 us) && x.phase == x.phase) (targets_in v) (targets_left v x.targets))) (sym is)
          (directed-targets x.world v d ds x.targets x.phase (subst (λ (us : List Directive). AreTargets x.world us x.targets) is s.targets));
    }

calm-standing : (script : Script) (x : Progress) (v : World) (tk : List ℕ) (ws : List Undelivered) → IsGrown x.world v → KeepsReach x.world v → IsStanding script x → IsStanding script (record {
  world = v;
  phase = x.phase;
  todo = x.todo;
  waiting = ws;
  ticked = tk;
  targets = cond (not (is_nil x.todo) && is_nil x.todo && x.phase == x.phase) (targets_in v) (targets_left v x.targets);
})
calm-standing script x v tk ws c keeps s =
    record { plan = c.plan ∙ s.plan; zeroed = c.zeroed s.zeroed; events = s.events; targets = calm-targets x.world v x.todo x.targets (x.phase == x.phase) keeps s.targets }

standing-directed : (script : Script) (x : Progress) (e : Event) → is_next x e ≡ true → IsStanding script x → IsGrown x.world (happens x.world e) → IsStanding script (record {
  world = happens x.world e;
  phase = x.phase;
  todo = drop 1 x.todo;
  waiting = x.waiting ++ newly_sent x.world (happens x.world e);
  ticked = x.ticked;
  targets = cond (not (is_nil x.todo) && is_nil (drop 1 x.todo) && x.phase == x.phase) (targets_in (happens x.world e)) (targets_left (happens x.world e) x.targets);
})
standing-directed script x e h s c = let some = todo-some x e h in directed-standing script x (happens x.world e) some.0 some.1.0 c some.1.1 s

pub standing-next : (script : Script) (x : Progress) (e : Event) → may_follow script x e ≡ true → IsStanding script x → IsStanding script (next_progress script x e)
standing-next script x (Phase p) h s =
    let ds = (phase_of script p).directives in
    record {
      plan = s.plan;
      zeroed = s.zeroed;
      events = all-filter has_event has_event ds (λ d e. e);
      targets = opened-targets x.world (filter has_event ds) (not (is_nil x.todo)) (p == x.phase);
    }
standing-next script x (Deliver k) h s = calm-standing script x (happens x.world (Deliver k)) x.ticked _ (happens-grown x.world (Deliver k)) (deliver-keeps x.world k s.zeroed) s
standing-next script x (Tick a now) h s = calm-standing script x (happens x.world (Tick a now)) (a ∷ x.ticked) _ (happens-grown x.world (Tick a now)) (tick-keeps x.world a now s.zeroed) s
standing-next script x (Mill a r) h s =
    calm-standing script x (happens x.world (Mill a r)) x.ticked _ (happens-grown x.world (Mill a r)) (mill-keeps x.world a r (both (nat_lt 0 x.phase && is_nil x.todo) (may_mill x.world a r) h).1) s
standing-next script x (Emit a t) h s = standing-directed script x (Emit a t) h s (happens-grown x.world (Emit a t))
standing-next script x (Release a t) h s = standing-directed script x (Release a t) h s (happens-grown x.world (Release a t))
standing-next script x (Cut a b) h s = standing-directed script x (Cut a b) h s (happens-grown x.world (Cut a b))
standing-next script x (Heal a b) h s = standing-directed script x (Heal a b) h s (happens-grown x.world (Heal a b))
standing-next script x (Crash a) h s = standing-directed script x (Crash a) h s (happens-grown x.world (Crash a))
standing-next script x (Restart a i) h s = standing-directed script x (Restart a i) h s (happens-grown x.world (Restart a i))

-- ---- a journal

standing-from : (script : Script) (x : Progress) (es : List Event) → follows_from script x es ≡ true → IsStanding script x → IsStanding script (progress_from script x es)
standing-from script x [] h s = s
standing-from script x (e ∷ es) h s =
    let p = both (may_follow script x e) (follows_from script (next_progress script x e) es) h in
    standing-from script (next_progress script x e) es p.1 (standing-next script x e p.0 s)

first-standing : (script : Script) → IsStanding script (first_progress script)
unfolding new_world
first-standing script = record { plan = refl; zeroed = slots-zeroed script.plan (nodes_of script.plan); events = refl; targets = (tt, tt) }

pub live-standing : (script : Script) (es : List Event) → is_live_so_far script es ≡ true → IsStanding script (progress script es)
unfolding is_live_so_far progress
live-standing script es h = standing-from script (first_progress script) es h (first-standing script)
