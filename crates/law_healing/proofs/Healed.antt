-- What a world is behind the directives that were done, and what the next one and all that is no directive make of it.
use Rattle.std.proofs.Common.{◌≡◌, ℕ, true, false, List, [], ◌∷◌, ◌++◌, map, length, zero, suc, ◌+◌, ◌<◌, refl, sym, ap, subst, ◌∙◌, arith, is_some, Some}
use Rattle.std.proofs.lemmas.List.{length-map}
use Rattle.dpc_lists.specs.Lists.{nth, range_with_len, list_all}
use Rattle.dpc_model.specs.Actors.{role_of, nodes_of}
use Rattle.dpc_model.specs.declared.messages.Event.{Event}
use Rattle.dpc_model.specs.declared.messages.Event.TheVariants.{Phase, Emit, Release, Cut, Heal, Crash, Restart, Deliver, Tick, Mill}
use Rattle.dpc_model.specs.declared.plans.Plan.{Plan}
use Rattle.dpc_model.specs.declared.scripts.Directive.{Directive}
use Rattle.dpc_model.specs.declared.scripts.Directive.TheVariants as directive
use Rattle.node_model.specs.Nodes.{new_node}
use Rattle.node_model.specs.Sources.{new_source}
use Rattle.world_model.specs.Worlds.{World, Slot, home_of, slot_of, source_at, no_source, new_world, run, happens}
use Rattle.world_model.specs.Schedules.{event_of}
use Rattle.law_safety.proofs.Growing.{event-grows}
use Rattle.law_safety.proofs.Law.{new_world-plan}
use Rattle.law_schedules.proofs.Calm.{deliver-calm, tick-calm, mill-calm}
use Rattle.world_model.specs.Events.{is_quiet, is_release}
use Rattle.law_settling.proofs.Logs.{event-many, run-sources}
use Rattle.law_healing.specs.Healing.{cut_behind, down_behind, releases_all}
use Rattle.law_healing.proofs.Steps.{AreSteps, by-directive}
use Rattle.law_healing.proofs.Links.{is_cut_behind, AreCutBehind, links-idle, links-cut, links-heal, emits-cuts, releases-cuts, crashes-cuts, restarts-cuts}
use Rattle.law_healing.proofs.Downs.{is_up_at, AreDownBehind, is_broken, downs-kept, downs-idle, downs-crash, downs-restart, stays-up, event-slots}
use Rattle.law_healing.proofs.Releasing.{AreReleasedBehind, same-bound, logs-kept, logs-idle, logs-release}

-- its cuts, its nodes that are down and its sources' bounds are what these directives left
pub record IsBehind (plan : Plan) (done : List Directive) (w : World) : Type 0 where
  pub plan_is : w.plan ≡ plan
  pub many : length w.sources ≡ length plan.sources
  pub slots : length w.nodes ≡ length (nodes_of plan)
  pub links : AreCutBehind done w.cuts
  pub downs : AreDownBehind (length plan.sources) done w.nodes
  pub logs : AreReleasedBehind plan done w

-- ---- a directive

made : (w : World) (done more : List Directive) (e : Event) → IsBehind w.plan done w → AreCutBehind more (happens w e).cuts → AreDownBehind (length w.plan.sources) more (happens w e).nodes → AreReleasedBehind w.plan more (happens w e) →
    IsBehind w.plan more (happens w e)
made w done more e h links downs logs =
    record { plan_is = (event-grows w e).plan; many = event-many w e ∙ h.many; slots = event-slots w e ∙ h.slots; links = links; downs = downs; logs = logs }

kept-downs : (w : World) (done : List Directive) (e : Event) → is_broken e ≡ false → IsBehind w.plan done w → AreDownBehind (length w.plan.sources) done (happens w e).nodes
kept-downs w done e q h = downs-kept (length w.plan.sources) done w.nodes (happens w e).nodes (event-slots w e) (stays-up w e q) h.downs

kept-logs : (w : World) (done : List Directive) (e : Event) → is_release e ≡ false → IsBehind w.plan done w → AreReleasedBehind w.plan done (happens w e)
kept-logs w done e q h = logs-kept w.plan done w (happens w e) (same-bound w e q) h.logs

idle-downs : (w : World) (done : List Directive) (d : Directive) (e : Event) → is_broken e ≡ false → ((a : ℕ) → down_behind a true d ≡ true) → IsBehind w.plan done w → AreDownBehind (length w.plan.sources) (done ++ d ∷ []) (happens w e).nodes
idle-downs w done d e q idle h = downs-idle (length w.plan.sources) done d (happens w e).nodes idle (kept-downs w done e q h)

idle-logs : (w : World) (done : List Directive) (d : Directive) (e : Event) → is_release e ≡ false → ((s : ℕ) → releases_all w.plan s d ≡ false) → IsBehind w.plan done w → AreReleasedBehind w.plan (done ++ d ∷ []) (happens w e)
idle-logs w done d e q idle h = logs-idle w.plan done d (happens w e) (λ s below all. let clash : false ≡ true = sym (idle s) ∙ all in cc) (kept-logs w done e q h)

idle-links : (w : World) (done : List Directive) (d : Directive) (e : Event) → (happens w e).cuts ≡ w.cuts → ((p : ℕ × ℕ) → cut_behind p.0 p.1 true d ≡ true) → IsBehind w.plan done w → AreCutBehind (done ++ d ∷ []) (happens w e).cuts
idle-links w done d e same idle h = links-idle done d w.cuts (happens w e).cuts same idle h.links

steps-done : (w : World) (done : List Directive) → IsBehind w.plan done w → AreSteps w (λ d e. IsBehind w.plan (done ++ d ∷ []) (happens w e))
steps-done w done h =
    record {
      emit = λ s t. let d = directive.Emit s t in
          made w done (done ++ d ∷ []) (Emit s t) h
          (idle-links w done d (Emit s t) (emits-cuts w s t (role_of w.plan s)) (λ p. refl) h) (idle-downs w done d (Emit s t) refl (λ a. refl) h) (idle-logs w done d (Emit s t) refl (λ u. refl) h);
      release = λ s t. let d = directive.Release s t in
          made w done (done ++ d ∷ []) (Release s t) h
          (idle-links w done d (Release s t) (releases-cuts w s t (role_of w.plan s)) (λ p. refl) h) (idle-downs w done d (Release s t) refl (λ a. refl) h) (logs-release done w s t (role_of w.plan s) refl h.many h.logs);
      cut = λ a b. let d = directive.Cut a b in
          made w done (done ++ d ∷ []) (Cut a b) h (links-cut done w a b h.links) (idle-downs w done d (Cut a b) refl (λ c. refl) h) (idle-logs w done d (Cut a b) refl (λ u. refl) h);
      heal = λ a b. let d = directive.Heal a b in
          made w done (done ++ d ∷ []) (Heal a b) h (links-heal done w a b h.links) (idle-downs w done d (Heal a b) refl (λ c. refl) h) (idle-logs w done d (Heal a b) refl (λ u. refl) h);
      crash = λ a. let d = directive.Crash a in
          made w done (done ++ d ∷ []) (Crash a) h
          (idle-links w done d (Crash a) (crashes-cuts w a (role_of w.plan a)) (λ p. refl) h) (downs-crash done w a (role_of w.plan a) refl h.downs) (idle-logs w done d (Crash a) refl (λ u. refl) h);
      restart = λ a. let d = directive.Restart a in
          let i = (slot_of w a).last_inc + 1 in
          made w done (done ++ d ∷ []) (Restart a i) h
          (idle-links w done d (Restart a i) (restarts-cuts w a i (role_of w.plan a)) (λ p. refl) h)
          (downs-restart done w a (role_of w.plan a) refl h.slots h.downs) (idle-logs w done d (Restart a i) refl (λ u. refl) h);
    }

pub directive-done : (plan : Plan) (w : World) (done : List Directive) (d : Directive) (e : Event) → event_of w d ≡ Some e → IsBehind plan done w → IsBehind plan (done ++ d ∷ []) (happens w e)
directive-done plan w done d e is h =
    let own = subst (λ (p : Plan). IsBehind p done w) (sym h.plan_is) h in
    subst (λ (p : Plan). IsBehind p (done ++ d ∷ []) (happens w e)) h.plan_is (by-directive w (λ f g. IsBehind w.plan (done ++ f ∷ []) (happens w g)) (steps-done w done own) d e is)

-- ---- deliveries, ticks and mills

quiet-cuts : (w : World) (e : Event) → is_quiet e ≡ true → (happens w e).cuts ≡ w.cuts
quiet-cuts w (Deliver k) q = (deliver-calm w k).cuts
quiet-cuts w (Tick a now) q = (tick-calm w a now).cuts
quiet-cuts w (Mill a r) q = (mill-calm w a r).cuts
quiet-cuts w (Phase p) q = cc
quiet-cuts w (Emit s t) q = cc
quiet-cuts w (Release s t) q = cc
quiet-cuts w (Cut a b) q = cc
quiet-cuts w (Heal a b) q = cc
quiet-cuts w (Crash a) q = cc
quiet-cuts w (Restart a i) q = cc

quiet-kinds : (e : Event) → is_quiet e ≡ true → (is_broken e ≡ false) × (is_release e ≡ false)
quiet-kinds (Deliver k) q = (refl, refl)
quiet-kinds (Tick a now) q = (refl, refl)
quiet-kinds (Mill a r) q = (refl, refl)
quiet-kinds (Phase p) q = cc
quiet-kinds (Emit s t) q = cc
quiet-kinds (Release s t) q = cc
quiet-kinds (Cut a b) q = cc
quiet-kinds (Heal a b) q = cc
quiet-kinds (Crash a) q = cc
quiet-kinds (Restart a i) q = cc

pub quiet-done : (plan : Plan) (w : World) (done : List Directive) (e : Event) → is_quiet e ≡ true → IsBehind plan done w → IsBehind plan done (happens w e)
quiet-done plan w done e q h =
    let own = subst (λ (p : Plan). IsBehind p done w) (sym h.plan_is) h in
    let kinds = quiet-kinds e q in
    subst (λ (p : Plan). IsBehind p done (happens w e)) h.plan_is
    (made w done done e own (ap (λ (ps : List (ℕ × ℕ)). list_all (is_cut_behind done) ps) (quiet-cuts w e q) ∙ own.links) (kept-downs w done e kinds.0 own) (kept-logs w done e kinds.1 own))

-- ---- the opening

mapped-up : (f : ℕ × ℕ → Slot) (ns : List (ℕ × ℕ)) → ((n : ℕ × ℕ) → is_some (f n).node ≡ true) → (i : ℕ) → i < length ns → is_up_at (map f ns) i ≡ true
mapped-up f [] up i low = absurd (omega (arith, low))
mapped-up f (n ∷ ns) up zero low = up n
mapped-up f (n ∷ ns) up (suc i) low = mapped-up f ns up i (omega (arith, low))

opening-slots : (plan : Plan) → length (new_world plan).nodes ≡ length (nodes_of plan)
unfolding new_world
opening-slots plan = length-map (nodes_of plan) _

opening-up : (plan : Plan) (i : ℕ) → i < length (nodes_of plan) → is_up_at (new_world plan).nodes i ≡ true
unfolding new_world
opening-up plan i low = mapped-up (λ (n : ℕ × ℕ). record { last_inc = 1; node = Some (new_node (home_of plan n)) }) (nodes_of plan) (λ n. refl) i low

opening-links : (plan : Plan) → AreCutBehind [] (new_world plan).cuts
unfolding new_world
opening-links plan = refl

zero-bound : (plan : Plan) (ss : List ℕ) (s : ℕ) → (nth no_source (map (new_source plan) ss) s).bound ≡ 0
unfolding new_source
zero-bound plan [] s = refl
zero-bound plan (v ∷ ss) zero = refl
zero-bound plan (v ∷ ss) (suc s) = zero-bound plan ss s

opening-bound : (plan : Plan) (s : ℕ) → (source_at (new_world plan) s).bound ≡ 0
unfolding new_world
opening-bound plan s = zero-bound plan (range_with_len 0 (length plan.sources)) s

opening-many : (plan : Plan) → length (new_world plan).sources ≡ length plan.sources
unfolding run
opening-many plan = run-sources plan []

pub opening-behind : (plan : Plan) → IsBehind plan [] (new_world plan)
opening-behind plan =
    let slots = opening-slots plan in
    record {
      plan_is = new_world-plan plan;
      many = opening-many plan;
      slots = slots;
      links = opening-links plan;
      downs = λ i low down. let clash : true ≡ false = sym (opening-up plan i (omega (arith, low, slots))) ∙ down in cc;
      logs = record { low = λ s. let none = opening-bound plan s in omega (arith, none); whole = λ s below never. cc };
    }
