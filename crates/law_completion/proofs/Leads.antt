-- Events that may follow one after another, and where they lead; the directives' events do.
use Rattle.std.proofs.Common.{◌≡◌, ℕ, ◌+◌, true, List, [], ◌∷◌, ◌++◌, drop, refl, sym, ap, subst, ◌∙◌, Option, Some, None}
use Rattle.dpc_lists.specs.Lists.{list_all}
use Rattle.dpc_model.specs.declared.messages.Event.{Event}
use Rattle.dpc_model.specs.declared.messages.Event.TheVariants.{Emit, Release, Cut, Heal, Crash, Restart}
use Rattle.dpc_model.specs.declared.scripts.Directive.{Directive}
use Rattle.dpc_model.specs.declared.scripts.Directive.TheVariants as directive
use Rattle.dpc_model.specs.declared.scripts.Script.{Script}
use Rattle.world_model.specs.Worlds.{World, happens, slot_of}
use Rattle.world_model.specs.Schedules.{Progress, next_progress, progress_from, may_follow, follows_from, has_event, event_of}
use Rattle.dpc_lists.proofs.Truths.{both, both-of, eq-test, true-not-false}
use Rattle.world_model.proofs.Running.{progress-append}
use Rattle.law_schedules.proofs.Stages.{follows-append}
use Rattle.law_schedules.proofs.Directing.{next-is, two-same}
use Rattle.law_completion.specs.Completing.{directing}
use Rattle.law_completion.proofs.Standing.{IsStanding, standing-next}

-- each of the events may follow, and they lead to where P holds
pub record Leads (script : Script) (P : Progress → Type 0) (x : Progress) (es : List Event) : Type 0 where
  pub live : follows_from script x es ≡ true
  pub holds : P (progress_from script x es)

pub leads-none : (script : Script) (P : Progress → Type 0) (x : Progress) → P x → Leads script P x []
leads-none script P x h = record { live = refl; holds = h }

pub leads-on : (script : Script) (P : Progress → Type 0) (x : Progress) (e : Event) (es : List Event) → may_follow script x e ≡ true → Leads script P (next_progress script x e) es → Leads script P x (e ∷ es)
leads-on script P x e es h l = record { live = both-of (may_follow script x e) (follows_from script (next_progress script x e) es) h l.live; holds = l.holds }

pub leads-then : (script : Script) (P Q : Progress → Type 0) (x : Progress) (es fs : List Event) → Leads script P x es → ((y : Progress) → P y → Leads script Q y fs) → Leads script Q x (es ++ fs)
leads-then script P Q x es fs l k =
    let m = k (progress_from script x es) l.holds in
    record { live = follows-append script x es fs l.live m.live; holds = subst Q (sym (progress-append script x es fs)) m.holds }

pub leads-weaker : (script : Script) (P Q : Progress → Type 0) (x : Progress) (es : List Event) → ((y : Progress) → P y → Q y) → Leads script P x es → Leads script Q x es
leads-weaker script P Q x es h l = record { live = l.live; holds = h (progress_from script x es) l.holds }

-- ---- the directives' events

-- the phase's directives are done
pub record IsFree (script : Script) (p : ℕ) (y : Progress) : Type 0 where
  pub phase : y.phase ≡ p
  pub todo : y.todo ≡ []
  pub standing : IsStanding script y

-- what the next directive's event is, and does
record IsDone (script : Script) (x : Progress) (ds : List Directive) (e : Event) : Type 0 where
  may : may_follow script x e ≡ true
  todo : (next_progress script x e).todo ≡ ds
  phase : (next_progress script x e).phase ≡ x.phase
  world : (next_progress script x e).world ≡ happens x.world e

done-of : (script : Script) (x : Progress) (d : Directive) (ds : List Directive) (e : Event) → x.todo ≡ d ∷ ds → event_of x.world d ≡ Some e → IsDone script x ds e
done-of script x (directive.Lose a b) ds e h g = let none : ◌≡◌ {A = Option Event} None (Some e) = g in cc
done-of script x (directive.Repeat a b) ds e h g = let none : ◌≡◌ {A = Option Event} None (Some e) = g in cc
done-of script x (directive.Emit a t) ds e h g =
    let same : Emit a t ≡ e = cc in
    subst (λ (f : Event). IsDone script x ds f) same (record { may = next-is x (directive.Emit a t) (Emit a t) ds h refl (two-same a t); todo = ap (λ (l : List Directive). drop 1 l) h; phase = refl; world = refl })
done-of script x (directive.Release a t) ds e h g =
    let same : Release a t ≡ e = cc in
    subst (λ (f : Event). IsDone script x ds f) same (record { may = next-is x (directive.Release a t) (Release a t) ds h refl (two-same a t); todo = ap (λ (l : List Directive). drop 1 l) h; phase = refl; world = refl })
done-of script x (directive.Cut a b) ds e h g =
    let same : Cut a b ≡ e = cc in
    subst (λ (f : Event). IsDone script x ds f) same (record { may = next-is x (directive.Cut a b) (Cut a b) ds h refl (two-same a b); todo = ap (λ (l : List Directive). drop 1 l) h; phase = refl; world = refl })
done-of script x (directive.Heal a b) ds e h g =
    let same : Heal a b ≡ e = cc in
    subst (λ (f : Event). IsDone script x ds f) same (record { may = next-is x (directive.Heal a b) (Heal a b) ds h refl (two-same a b); todo = ap (λ (l : List Directive). drop 1 l) h; phase = refl; world = refl })
done-of script x (directive.Crash a) ds e h g =
    let same : Crash a ≡ e = cc in
    subst (λ (f : Event). IsDone script x ds f) same (record { may = next-is x (directive.Crash a) (Crash a) ds h refl (eq-test a a refl); todo = ap (λ (l : List Directive). drop 1 l) h; phase = refl; world = refl })
done-of script x (directive.Restart a) ds e h g =
    let same : Restart a ((slot_of x.world a).last_inc + 1) ≡ e = cc in
    subst (λ (f : Event). IsDone script x ds f) same (record {
      may = next-is x (directive.Restart a) (Restart a ((slot_of x.world a).last_inc + 1)) ds h refl (two-same a ((slot_of x.world a).last_inc + 1));
      todo = ap (λ (l : List Directive). drop 1 l) h;
      phase = refl;
      world = refl;
    })

some-event : (w : World) (d : Directive) → has_event d ≡ true → event_of w d ≡ None → ⊥
some-event w (directive.Lose a b) h e = true-not-false (sym h)
some-event w (directive.Repeat a b) h e = true-not-false (sym h)
some-event w (directive.Emit a t) h e = cc
some-event w (directive.Release a t) h e = cc
some-event w (directive.Cut a b) h e = cc
some-event w (directive.Heal a b) h e = cc
some-event w (directive.Crash a) h e = cc
some-event w (directive.Restart a) h e = cc

pub directs : (script : Script) (p : ℕ) (x : Progress) (ds : List Directive) → x.todo ≡ ds → x.phase ≡ p → IsStanding script x → Leads script (IsFree script p) x (directing x.world ds)
directs script p x [] h phase s = leads-none script (IsFree script p) x (record { phase = phase; todo = h; standing = s })
directs script p x (d ∷ ds) h phase s = by-event (event_of x.world d) refl (λ e done. directs script p (next_progress script x e) ds done.todo (done.phase ∙ phase) (standing-next script x e done.may s))
  where
    some : has_event d ≡ true
    some = (both (has_event d) (list_all has_event ds) (subst (λ (l : List Directive). list_all has_event l ≡ true) h s.events)).0

    Rest : Type 0
    Rest = (e : Event) → IsDone script x ds e → Leads script (IsFree script p) (next_progress script x e) (directing (next_progress script x e).world ds)

    by-event : (o : Option Event) → event_of x.world d ≡ o → Rest → Leads script (IsFree script p) x (elim o [ None ↦ directing x.world ds | Some e ↦ e ∷ directing (happens x.world e) ds ])
    by-event None e rest = absurd (some-event x.world d some e)
    by-event (Some e) g rest =
        let done = done-of script x d ds e h g in
        leads-on script (IsFree script p) x e (directing (happens x.world e) ds) done.may
        (subst (λ (w : World). Leads script (IsFree script p) (next_progress script x e) (directing w ds)) done.world (rest e done))
