-- A live run, one event further.
use Rattle.std.proofs.Common.{◌≡◌, Bool, true, not, ◌&&◌, List, [], ◌∷◌, ◌++◌, refl, sym, ap, ◌∙◌, subst}
use Rattle.dpc_model.specs.declared.messages.Event.{Event}
use Rattle.dpc_model.specs.declared.scripts.Script.{Script}
use Rattle.world_model.specs.Worlds.{run, happens}
use Rattle.world_model.specs.Schedules.{Progress, first_progress, next_progress, progress, may, may_follow, is_live_so_far, is_live, is_phase_complete, phase_left}
use Rattle.law_schedules.proofs.Journals.{none-live, one-more, progress-run}
use Rattle.law_completion.proofs.Completing.{progress-behind}
use Rattle.live_run.specs.Courses.{Stands}
use Rattle.live_run.specs.declared.course.Course.{Course}

pub may_told : (script : Script) (es : List Event) (e : Event) → may_follow script (progress script es) e ≡ may script es e
unfolding may
may_told script es e = refl

pub live_told : (script : Script) (es : List Event) → is_live_so_far script es ≡ true → (is_phase_complete (progress script es) && not (phase_left script (progress script es))) ≡ is_live script es
unfolding is_live
live_told script es h = ap (λ (b : Bool). b && is_phase_complete (progress script es) && not (phase_left script (progress script es))) (sym h)

pub none_told : (script : Script) → first_progress script ≡ progress script []
unfolding progress
none_told script = refl

pub first_live : (script : Script) → is_live_so_far script [] ≡ true
first_live script = none-live script

pub first_course : (script : Script) (c : Course) → Stands c (first_progress script) → Stands c (progress script [])
first_course script c s = subst (λ (p : Progress). Stands c p) (none_told script) s

pub next_live : (script : Script) (es : List Event) (e : Event) → is_live_so_far script es ≡ true → may script es e ≡ true → is_live_so_far script (es ++ e ∷ []) ≡ true
next_live script es e h k = one-more script es e h k

-- the world behind the next event
pub next_world : (script : Script) (es : List Event) (e : Event) → run script.plan (es ++ e ∷ []) ≡ happens (progress script es).world e
next_world script es e = sym (progress-run script (es ++ e ∷ [])) ∙ ap (λ (p : Progress). p.world) (progress-behind script es (e ∷ []))

pub next_course : (script : Script) (es : List Event) (e : Event) (c : Course) → Stands c (next_progress script (progress script es) e) → Stands c (progress script (es ++ e ∷ []))
next_course script es e c s = subst (λ (p : Progress). Stands c p) (sym (progress-behind script es (e ∷ []))) s
