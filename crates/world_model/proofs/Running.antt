-- Runs and journals, a part behind another.
use Rattle.std.proofs.Common.{◌≡◌, List, [], ◌∷◌, ◌++◌, refl, true, false}
use Rattle.dpc_model.specs.declared.messages.Event.{Event}
use Rattle.dpc_model.specs.declared.plans.Plan.{Plan}
use Rattle.dpc_model.specs.declared.scripts.Script.{Script}
use Rattle.dpc_lists.proofs.Truths.{both, both-of}
use Rattle.world_model.specs.Worlds.{World, happens, run_from, run, new_world}
use Rattle.world_model.specs.Schedules.{Progress, next_progress, progress_from, may_follow, follows_from, is_next, progress}

pub run_from-append : (w : World) (events more : List Event) → run_from w (events ++ more) ≡ run_from (run_from w events) more
run_from-append w [] more = refl
run_from-append w (e ∷ events) more = run_from-append (happens w e) events more

pub run-push : (plan : Plan) (events : List Event) (e : Event) → run plan (events ++ e ∷ []) ≡ happens (run plan events) e
unfolding run
run-push plan events e = run_from-append (new_world plan) events (e ∷ [])

pub progress-append : (script : Script) (x : Progress) (es fs : List Event) → progress_from script x (es ++ fs) ≡ progress_from script (progress_from script x es) fs
progress-append script x [] fs = refl
progress-append script x (e ∷ es) fs = progress-append script (next_progress script x e) es fs

pub progress-next : (script : Script) (x : Progress) (es : List Event) (e : Event) → progress_from script x (es ++ e ∷ []) ≡ next_progress script (progress_from script x es) e
progress-next script x [] e = refl
progress-next script x (d ∷ es) e = progress-next script (next_progress script x d) es e

pub follows-part : (script : Script) (x : Progress) (es fs : List Event) → follows_from script x (es ++ fs) ≡ true → (follows_from script x es ≡ true) × (follows_from script (progress_from script x es) fs ≡ true)
follows-part script x [] fs h = (refl, h)
follows-part script x (e ∷ es) fs h =
    let p = both (may_follow script x e) (follows_from script (next_progress script x e) (es ++ fs)) h in
    let q = follows-part script (next_progress script x e) es fs p.1 in
    (both-of (may_follow script x e) (follows_from script (next_progress script x e) es) p.0 q.0, q.1)

pub not-next : (x : Progress) (e : Event) → x.todo ≡ [] → is_next x e ≡ true → ⊥
not-next x e none h = let no : false ≡ true = rw none at h in cc

pub new_world-none : (plan : Plan) → (new_world plan).envelopes ≡ []
unfolding new_world
new_world-none plan = refl

pub first-phase : (script : Script) → (progress script []).phase ≡ 0
unfolding progress
first-phase script = refl
