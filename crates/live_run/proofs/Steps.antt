-- What each kind of event changes besides the world.
use Rattle.std.proofs.Common.{◌≡◌, ℕ, true, not, cond, ◌&&◌, ◌==◌, List, [], ◌∷◌, sym, subst, ap, ◌∙◌}
use Rattle.std.specs.List.{filter}
use Rattle.dpc_lists.specs.Lists.{has, is_nil}
use Rattle.dpc_lists.proofs.Truths.{both}
use Rattle.dpc_model.specs.declared.messages.Event.{Event}
use Rattle.dpc_model.specs.declared.messages.Event.TheVariants.{Phase, Deliver, Tick, Mill}
use Rattle.dpc_model.specs.declared.scripts.Directive.{Directive}
use Rattle.dpc_model.specs.declared.scripts.Script.{Script}
use Rattle.world_model.specs.Worlds.{World, happens, is_up}
use Rattle.world_model.specs.Schedules.{Progress, noting, may_follow, may_deliver, is_free, has_event, pending_in, delivery_made, targets_in, phase_of, now_of}
use Rattle.law_schedules.proofs.Calm.{IsGrown, happens-grown}
use Rattle.live_run.specs.Courses.{Stands}
use Rattle.live_run.specs.declared.course.Course.{Course}

abbrev pub phase_opened : ℕ → List Directive → Progress → Progress
phase_opened n ds p =
    record {
      world = p.world;
      phase = n;
      todo = filter has_event ds;
      waiting = pending_in p.world ds p.waiting;
      ticked = [];
      targets = cond (is_nil (filter has_event ds)) (targets_in p.world) [];
    }

pub opened_noted : (script : Script) (p : Progress) (e : Event) (n : ℕ) (v : World) (ds : List Directive) (old new : Course) → e ≡ Phase n → v ≡ happens p.world e → ds ≡ (phase_of script n).directives →
    ((q : Progress) → q.world ≡ v → Stands old q → Stands new (phase_opened n ds q)) → Stands old p → Stands new (noting script p e)
opened_noted script p e n v ds old new is same told h s =
    subst (λ (f : Event). Stands new (noting script p f)) (sym is)
    (subst (λ (us : List Directive). Stands new (phase_opened n us p)) told (h p (sym (same ∙ ap (happens p.world) is)) s))

pub delivered_noted : (script : Script) (p : Progress) (e : Event) (k : ℕ) (v : World) (old new : Course) → e ≡ Deliver k → v ≡ happens p.world e → may_follow script p e ≡ true →
    ((q : Progress) → IsGrown q.world v → may_deliver q k ≡ true → Stands old q → Stands new (record q { waiting = delivery_made k q.waiting })) → Stands old p → Stands new (noting script p e)
delivered_noted script p e k v old new is same may h s =
    let follows : may_follow script p (Deliver k) ≡ true = subst (λ (f : Event). may_follow script p f ≡ true) is may in
    subst (λ (f : Event). Stands new (noting script p f)) (sym is)
    (h p (subst (λ (u : World). IsGrown p.world u) (sym same) (happens-grown p.world e)) (both (is_free p) (may_deliver p k) follows).1 s)

pub ticked_noted : (script : Script) (p : Progress) (e : Event) (a now : ℕ) (old new : Course) → e ≡ Tick a now → may_follow script p e ≡ true →
    ((q : Progress) → is_up q.world a ≡ true → Stands old q → Stands new (record q { ticked = a ∷ q.ticked })) → Stands old p → Stands new (noting script p e)
ticked_noted script p e a now old new is may h s =
    let follows : may_follow script p (Tick a now) ≡ true = subst (λ (f : Event). may_follow script p f ≡ true) is may in
    let first = both (is_free p && is_up p.world a && not (has p.ticked a)) (now == now_of script p) follows in
    let second = both (is_free p && is_up p.world a) (not (has p.ticked a)) first.0 in
    subst (λ (f : Event). Stands new (noting script p f)) (sym is) (h p (both (is_free p) (is_up p.world a) second.0).1 s)

pub milled_noted : (script : Script) (p : Progress) (e : Event) (a r : ℕ) (c : Course) → e ≡ Mill a r → Stands c p → Stands c (noting script p e)
milled_noted script p e a r c is s = subst (λ (f : Event). Stands c (noting script p f)) (sym is) s
