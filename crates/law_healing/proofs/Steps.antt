-- The next event of a live journal is that of the next directive, or one that belongs to none.
use Rattle.std.proofs.Common.{◌≡◌, ℕ, ◌+◌, true, false, ◌&&◌, ◌==◌, List, [], ◌∷◌, refl, ap, ap₂, subst, ◌∙◌, Option, Some, None}
use Rattle.dpc_model.specs.declared.messages.Event.{Event}
use Rattle.dpc_model.specs.declared.messages.Event.TheVariants.{Phase, Emit, Release, Cut, Heal, Crash, Restart, Deliver, Tick, Mill}
use Rattle.dpc_model.specs.declared.scripts.Directive.{Directive}
use Rattle.dpc_model.specs.declared.scripts.Directive.TheVariants as directive
use Rattle.world_model.specs.Worlds.{World, slot_of}
use Rattle.world_model.specs.Schedules.{Progress, event_of, same_event, is_next}
use Rattle.dpc_lists.proofs.Truths.{both, eq-of}
use Rattle.dpc_lists.proofs.Somes.{some-same}

-- what holds of each directive with its event
pub record AreSteps (w : World) (P : Directive → Event → Type 0) : Type 0 where
  pub emit : (s t : ℕ) → P (directive.Emit s t) (Emit s t)
  pub release : (s t : ℕ) → P (directive.Release s t) (Release s t)
  pub cut : (a b : ℕ) → P (directive.Cut a b) (Cut a b)
  pub heal : (a b : ℕ) → P (directive.Heal a b) (Heal a b)
  pub crash : (a : ℕ) → P (directive.Crash a) (Crash a)
  pub restart : (a : ℕ) → P (directive.Restart a) (Restart a ((slot_of w a).last_inc + 1))

pub by-directive : (w : World) (P : Directive → Event → Type 0) → AreSteps w P → (d : Directive) (e : Event) → event_of w d ≡ Some e → P d e
by-directive w P h (directive.Emit s t) e is = subst (P (directive.Emit s t)) (some-same (Emit s t) e is) (h.emit s t)
by-directive w P h (directive.Release s t) e is = subst (P (directive.Release s t)) (some-same (Release s t) e is) (h.release s t)
by-directive w P h (directive.Cut a b) e is = subst (P (directive.Cut a b)) (some-same (Cut a b) e is) (h.cut a b)
by-directive w P h (directive.Heal a b) e is = subst (P (directive.Heal a b)) (some-same (Heal a b) e is) (h.heal a b)
by-directive w P h (directive.Crash a) e is = subst (P (directive.Crash a)) (some-same (Crash a) e is) (h.crash a)
by-directive w P h (directive.Restart a) e is = subst (P (directive.Restart a)) (some-same (Restart a ((slot_of w a).last_inc + 1)) e is) (h.restart a)
by-directive w P h (directive.Lose a b) e is = cc
by-directive w P h (directive.Repeat a b) e is = cc

-- ---- equal events

two-numbers : (f : ℕ → ℕ → Event) (a b c d : ℕ) → (a == c && b == d) ≡ true → f a b ≡ f c d
two-numbers f a b c d h = let p = both (a == c) (b == d) h in ap₂ f (eq-of a c p.0) (eq-of b d p.1)

pub same-is : (e f : Event) → same_event e f ≡ true → e ≡ f
same-is (Phase p) (Phase q) h = ap Phase (eq-of p q h)
same-is (Phase p) f h = cc
same-is (Emit s t) (Emit u v) h = two-numbers Emit s t u v h
same-is (Emit s t) f h = cc
same-is (Release s t) (Release u v) h = two-numbers Release s t u v h
same-is (Release s t) f h = cc
same-is (Cut a b) (Cut c d) h = two-numbers Cut a b c d h
same-is (Cut a b) f h = cc
same-is (Heal a b) (Heal c d) h = two-numbers Heal a b c d h
same-is (Heal a b) f h = cc
same-is (Crash a) (Crash c) h = ap Crash (eq-of a c h)
same-is (Crash a) f h = cc
same-is (Restart a i) (Restart c j) h = two-numbers Restart a i c j h
same-is (Restart a i) f h = cc
same-is (Deliver k) (Deliver l) h = ap Deliver (eq-of k l h)
same-is (Deliver k) f h = cc
same-is (Tick a now) (Tick c clock) h = two-numbers Tick a now c clock h
same-is (Tick a now) f h = cc
same-is (Mill a r) (Mill c q) h = two-numbers Mill a r c q h
same-is (Mill a r) f h = cc

-- the directive whose event comes next
pub record IsNext (x : Progress) (e : Event) : Type 0 where
  pub first : Directive
  pub rest : List Directive
  pub todo : x.todo ≡ first ∷ rest
  pub event : event_of x.world first ≡ Some e

pub next-of : (x : Progress) (e : Event) → is_next x e ≡ true → IsNext x e
next-of x e h = by-list x.todo refl h
  where
    by-event : (d : Directive) (ds : List Directive) (o : Option Event) → x.todo ≡ d ∷ ds → event_of x.world d ≡ o → (elim o [ None ↦ false | Some f ↦ same_event f e ]) ≡ true → IsNext x e
    by-event d ds None todo is next = cc
    by-event d ds (Some f) todo is next = record { first = d; rest = ds; todo = todo; event = is ∙ ap {B = Option Event} Some (same-is f e next) }

    by-list : (ds : List Directive) → x.todo ≡ ds → (elim ds [ [] ↦ false | d ∷ rest ↦ elim (event_of x.world d) [ None ↦ false | Some f ↦ same_event f e ] ]) ≡ true → IsNext x e
    by-list [] todo next = cc
    by-list (d ∷ ds) todo next = by-event d ds (event_of x.world d) todo refl next
