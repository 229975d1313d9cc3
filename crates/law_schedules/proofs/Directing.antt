-- The events of a phase's directives.
use Rattle.std.proofs.Common.{◌≡◌, ℕ, ◌+◌, ◌-◌, ◌≤◌, ◌<◌, Bool, true, false, not, cond, ◌&&◌, ◌==◌, List, [], ◌∷◌, ◌++◌, length, drop, refl, sym, ap, subst, ◌∙◌, arith, Option, Some, None, slice_get}
use Rattle.std.specs.Prelude.{fold}
use Rattle.std.specs.List.{filter}
use Rattle.dpc_lists.specs.Lists.{list_all, is_nil}
use Rattle.dpc_model.specs.declared.messages.Event.{Event}
use Rattle.dpc_model.specs.declared.messages.Event.TheVariants.{Phase, Emit, Release, Cut, Heal, Crash, Restart}
use Rattle.dpc_model.specs.declared.scripts.Directive.{Directive}
use Rattle.dpc_model.specs.declared.scripts.Directive.TheVariants as directive
use Rattle.dpc_model.specs.declared.scripts.Script.{Script}
use Rattle.world_model.specs.Worlds.{World, Envelope, slot_of, ready_at, happens}
use Rattle.world_model.specs.Schedules.{Undelivered, Progress, tell_directive, next_progress, has_event, event_of, same_event, is_next, newly_sent, pending_in, targets_in, targets_left, node_actors, is_phase_complete, phase_left, phase_of}
use Rattle.dpc_lists.proofs.Truths.{both-of, eq-of, eq-test}
use Rattle.law_schedules.proofs.Stages.{at, Follows, Reached, follows-next, reached}
use Rattle.law_schedules.proofs.Calm.{AreZeroed, IsGrown, grown-longer, happens-grown}
use Rattle.law_schedules.proofs.Targets.{AllMet, targets-met, left-met}
use Rattle.law_schedules.proofs.Waits.{fresh_from, fresh-grown, is_pending, pending-old, get-grown}

-- until the directives are done there is no target; then all are met by what is ready
abbrev TargetsStand : List Directive → Progress → Type 0
TargetsStand [] y = AllMet y.world (ready_at y.world) y.targets
TargetsStand (d ∷ ds) y = y.targets ≡ []

-- how a run stands within the directives of a phase that began with so many envelopes
pub record IsDirected (script : Script) (p start : ℕ) (old : World) (ws : List Undelivered) (ds : List Directive) (y : Progress) : Type 0 where
  pub phase : y.phase ≡ p
  pub todo : y.todo ≡ ds
  pub grown : start ≤ length y.world.envelopes
  pub waiting : y.waiting ≡ ws ++ fresh_from start (length y.world.envelopes - start)
  pub ticked : y.ticked ≡ []
  pub plan : y.world.plan ≡ script.plan
  pub zeroed : AreZeroed y.world.nodes
  pub same : (i : ℕ) → i < start → slice_get y.world.envelopes i ≡ slice_get old.envelopes i
  pub met : TargetsStand ds y

-- ---- one directive

pub next-is : (y : Progress) (d : Directive) (e : Event) (ds : List Directive) → y.todo ≡ d ∷ ds → event_of y.world d ≡ Some e → same_event e e ≡ true → is_next y e ≡ true
next-is y d e ds h g k = rw h (found (event_of y.world d) g)
  where
    found : (o : Option Event) → o ≡ Some e → (elim o [ None ↦ false | Some f ↦ same_event f e ]) ≡ true
    found None q = cc
    found (Some f) q = let same : f ≡ e = cc in rw same k

same-targets : (y : Progress) (v : World) (d : Directive) (ds : List Directive) → y.todo ≡ d ∷ ds →
    cond (not (is_nil y.todo) && is_nil (drop 1 y.todo) && y.phase == y.phase) (targets_in v) (targets_left v y.targets) ≡ cond (is_nil ds) (targets_in v) (targets_left v y.targets)
same-targets y v d ds h =
    let same = eq-test y.phase y.phase refl in
    rw (h, same) (by-nil ds)
  where
    by-nil : (xs : List Directive) → cond (is_nil xs && true) (targets_in v) (targets_left v y.targets) ≡ cond (is_nil xs) (targets_in v) (targets_left v y.targets)
    by-nil [] = refl
    by-nil (x ∷ xs) = refl

directed-next : (script : Script) (p start : ℕ) (old : World) (ws : List Undelivered) (d : Directive) (ds : List Directive) (y : Progress) (v : World) → IsDirected script p start old ws (d ∷ ds) y → IsGrown y.world v →
    IsDirected script p start old ws ds (record {
      world = v;
      phase = y.phase;
      todo = drop 1 y.todo;
      waiting = y.waiting ++ newly_sent y.world v;
      ticked = y.ticked;
      targets = cond (not (is_nil y.todo) && is_nil (drop 1 y.todo) && y.phase == y.phase) (targets_in v) (targets_left v y.targets);
    })
directed-next script p start old ws d ds y v h c =
    let longer = grown-longer y.world v c in
    let grown = h.grown in
    record {
      phase = h.phase;
      todo = ap (λ (l : List Directive). drop 1 l) h.todo;
      grown = omega (arith, longer, grown);
      waiting = ap (λ (l : List Undelivered). l ++ newly_sent y.world v) h.waiting ∙ fresh-grown ws start (length y.world.envelopes) (length v.envelopes) grown longer;
      ticked = h.ticked;
      plan = c.plan ∙ h.plan;
      zeroed = c.zeroed h.zeroed;
      same = λ i less. ap (λ (es : List Envelope). slice_get es i) c.sent ∙ get-grown y.world.envelopes c.more i (omega (arith, less, grown)) ∙ h.same i less;
      met = stand ds (same-targets y v d ds h.todo);
    }
  where
    stand : (xs : List Directive) → cond (not (is_nil y.todo) && is_nil (drop 1 y.todo) && y.phase == y.phase) (targets_in v) (targets_left v y.targets) ≡ cond (is_nil xs) (targets_in v) (targets_left v y.targets) →
        TargetsStand xs (record {
          world = v;
          phase = y.phase;
          todo = drop 1 y.todo;
          waiting = y.waiting ++ newly_sent y.world v;
          ticked = y.ticked;
          targets = cond (not (is_nil y.todo) && is_nil (drop 1 y.todo) && y.phase == y.phase) (targets_in v) (targets_left v y.targets);
        })
    stand [] e = subst (λ (ts : List (ℕ × ℕ)). AllMet v (ready_at v) ts) (sym e) (targets-met v (node_actors v.plan))
    stand (x ∷ xs) e = e ∙ ap (λ (ts : List (ℕ × ℕ)). targets_left v ts) h.met

pub two-same : (a b : ℕ) → (a == a && b == b) ≡ true
two-same a b = both-of (a == a) (b == b) (eq-test a a refl) (eq-test b b refl)

-- ---- all

pub directives-told : (script : Script) (p start : ℕ) (old : World) (ws : List Undelivered) (ds : List Directive) (y : Progress) (es : List Event) → Follows script y es → IsDirected script p start old ws (filter has_event ds) y →
    Reached script (IsDirected script p start old ws []) (fold tell_directive (at y es) ds)
directives-told script p start old ws [] y es f h = reached script (IsDirected script p start old ws []) y es f h
directives-told script p start old ws (directive.Lose a b ∷ ds) y es f h = directives-told script p start old ws ds y es f h
directives-told script p start old ws (directive.Repeat a b ∷ ds) y es f h = directives-told script p start old ws ds y es f h
directives-told script p start old ws (directive.Emit s t ∷ ds) y es f h =
    directives-told script p start old ws ds (next_progress script y (Emit s t)) (Emit s t ∷ es) (follows-next script y es (Emit s t) f (next-is y (directive.Emit s t) (Emit s t) (filter has_event ds) h.todo refl (two-same s t)))
    (directed-next script p start old ws (directive.Emit s t) (filter has_event ds) y (happens y.world (Emit s t)) h (happens-grown y.world (Emit s t)))
directives-told script p start old ws (directive.Release s t ∷ ds) y es f h =
    directives-told script p start old ws ds (next_progress script y (Release s t)) (Release s t ∷ es) (follows-next script y es (Release s t) f (next-is y (directive.Release s t) (Release s t) (filter has_event ds) h.todo refl (two-same s t)))
    (directed-next script p start old ws (directive.Release s t) (filter has_event ds) y (happens y.world (Release s t)) h (happens-grown y.world (Release s t)))
directives-told script p start old ws (directive.Cut s t ∷ ds) y es f h =
    directives-told script p start old ws ds (next_progress script y (Cut s t)) (Cut s t ∷ es) (follows-next script y es (Cut s t) f (next-is y (directive.Cut s t) (Cut s t) (filter has_event ds) h.todo refl (two-same s t)))
    (directed-next script p start old ws (directive.Cut s t) (filter has_event ds) y (happens y.world (Cut s t)) h (happens-grown y.world (Cut s t)))
directives-told script p start old ws (directive.Heal s t ∷ ds) y es f h =
    directives-told script p start old ws ds (next_progress script y (Heal s t)) (Heal s t ∷ es) (follows-next script y es (Heal s t) f (next-is y (directive.Heal s t) (Heal s t) (filter has_event ds) h.todo refl (two-same s t)))
    (directed-next script p start old ws (directive.Heal s t) (filter has_event ds) y (happens y.world (Heal s t)) h (happens-grown y.world (Heal s t)))
directives-told script p start old ws (directive.Crash a ∷ ds) y es f h =
    directives-told script p start old ws ds (next_progress script y (Crash a)) (Crash a ∷ es) (follows-next script y es (Crash a) f (next-is y (directive.Crash a) (Crash a) (filter has_event ds) h.todo refl (eq-test a a refl)))
    (directed-next script p start old ws (directive.Crash a) (filter has_event ds) y (happens y.world (Crash a)) h (happens-grown y.world (Crash a)))
directives-told script p start old ws (directive.Restart a ∷ ds) y es f h =
    let i = (slot_of y.world a).last_inc + 1 in
    directives-told script p start old ws ds (next_progress script y (Restart a ((slot_of y.world a).last_inc + 1))) (Restart a ((slot_of y.world a).last_inc + 1) ∷ es)
    (follows-next script y es (Restart a i) f (next-is y (directive.Restart a) (Restart a i) (filter has_event ds) h.todo refl (two-same a i)))
    (directed-next script p start old ws (directive.Restart a) (filter has_event ds) y (happens y.world (Restart a i)) h (happens-grown y.world (Restart a i)))

-- ---- a phase is opened

-- how a run stands between two phases; p is the number of the next one, and `first` envelopes were there when the last one began
pub record IsBetween (script : Script) (p first : ℕ) (y : Progress) : Type 0 where
  pub phase : y.phase + 1 ≡ p
  pub complete : is_phase_complete y ≡ true
  pub others : List Undelivered
  pub gone : list_all is_pending others ≡ true
  pub grown : first ≤ length y.world.envelopes
  pub waiting : y.waiting ≡ others ++ fresh_from first (length y.world.envelopes - first)
  pub plan : y.world.plan ≡ script.plan
  pub zeroed : AreZeroed y.world.nodes

pub phase-opened : (script : Script) (p first : ℕ) (y : Progress) (es : List Event) → Follows script y es → IsBetween script p first y → phase_left script y ≡ true →
    Follows script (next_progress script y (Phase p)) (Phase p ∷ es)
    × IsDirected script p (length y.world.envelopes) y.world (pending_in y.world (phase_of script p).directives (fresh_from first (length y.world.envelopes - first))) (filter has_event (phase_of script p).directives) (next_progress script y (Phase p))
phase-opened script p first y es f h left =
    let ds = (phase_of script p).directives in
    let number = h.phase in
    let start = length y.world.envelopes in
    let next : (p == y.phase + 1) ≡ true = eq-test p (y.phase + 1) (sym h.phase) in
    let waits : pending_in y.world ds y.waiting ≡ pending_in y.world ds (fresh_from first (start - first)) =
    ap (λ (l : List Undelivered). pending_in y.world ds l) h.waiting ∙ pending-old y.world ds h.others (fresh_from first (start - first)) h.gone in (
      follows-next script y es (Phase p) f (both-of (p == y.phase + 1 && is_phase_complete y) (phase_left script y) (both-of (p == y.phase + 1) (is_phase_complete y) next h.complete) left),
      record {
        phase = refl;
        todo = refl;
        grown = omega arith;
        waiting = ap (λ (l : List Undelivered). l ++ fresh_from start (start - start)) waits;
        ticked = refl;
        plan = h.plan;
        zeroed = h.zeroed;
        same = λ i less. refl;
        met = stand (filter has_event ds) (not-again (p == y.phase) refl);
      },
    )
  where
    not-again : (b : Bool) → (p == y.phase) ≡ b → b ≡ false
    not-again true e = let same = eq-of p y.phase e in let number = h.phase in absurd (omega (arith, same, number))
    not-again false e = refl

    no-such : (a b : Bool) → (p == y.phase) ≡ false → (a && b && (p == y.phase)) ≡ false
    no-such true true e = e
    no-such true false e = refl
    no-such false b e = refl

    stand : (xs : List Directive) → (p == y.phase) ≡ false → TargetsStand xs (record {
      world = y.world;
      phase = p;
      todo = xs;
      waiting = pending_in y.world (phase_of script p).directives y.waiting ++ newly_sent y.world y.world;
      ticked = [];
      targets = cond (not (is_nil y.todo) && is_nil xs && p == y.phase) (targets_in y.world) (targets_left y.world (cond (is_nil xs) (targets_in y.world) []));
    })
    stand [] e =
        let none = no-such (not (is_nil y.todo)) true e in
        rw none (left-met y.world y.world (ready_at y.world) (ready_at y.world) (λ b goal up k. k) (targets_in y.world) (targets-met y.world (node_actors y.world.plan)))
    stand (x ∷ xs) e = let none = no-such (not (is_nil y.todo)) false e in rw none refl
