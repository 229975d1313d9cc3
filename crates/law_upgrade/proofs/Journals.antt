-- The same events may come next, and they lead to the same progress.
use Rattle.std.proofs.Common.{◌≡◌, Bool, not, ◌&&◌, ◌==◌, List, [], ◌∷◌, ◌++◌, refl, ap, ◌∙◌}
use Rattle.std.specs.Prelude.{if◌then◌else◌}
use Rattle.dpc_model.specs.declared.messages.Event.{Event}
use Rattle.dpc_model.specs.declared.messages.Event.TheVariants.{Phase, Emit, Release, Cut, Heal, Crash, Restart, Deliver, Tick, Mill}
use Rattle.dpc_model.specs.declared.scripts.Script.{Script}
use Rattle.dpc_model.specs.ScriptText.{upgraded}
use Rattle.node_model.specs.Nodes.{ready}
use Rattle.world_model.specs.Worlds.{World, happens}
use Rattle.world_model.specs.Schedules.{Progress, first_progress, noting, newly_sent, directives_done, targets_in, targets_left, next_progress, may_follow, progress_from, progress, may, follows_from, is_live_so_far, is_live, is_phase_complete, phase_left}
use Rattle.law_upgrade.specs.Upgrading.{upgraded_world, upgraded_progress}
use Rattle.law_upgrade.proofs.Events.{happens-same, opening-same}

-- ---- the progress

noting-same : (s : Script) (x : Progress) (e : Event) → noting (upgraded s) (upgraded_progress x) e ≡ upgraded_progress (noting s x e)
unfolding ready
noting-same s x (Phase p) = refl
noting-same s x (Emit a t) = refl
noting-same s x (Release a t) = refl
noting-same s x (Cut a b) = refl
noting-same s x (Heal a b) = refl
noting-same s x (Crash a) = refl
noting-same s x (Restart a i) = refl
noting-same s x (Deliver k) = refl
noting-same s x (Tick a now) = refl
noting-same s x (Mill a r) = refl

-- what follows of a progress x, where y is what the event noted and w the world that it left
abbrev next_of : Progress → Progress → World → Progress
next_of x y w =
    record y {
      world = w;
      waiting = y.waiting ++ newly_sent x.world w;
      targets = if directives_done x y && y.phase == x.phase then targets_in w else targets_left w y.targets;
    }

next-of-same : (x y : Progress) (w : World) → next_of (upgraded_progress x) (upgraded_progress y) (upgraded_world w) ≡ upgraded_progress (next_of x y w)
unfolding ready
next-of-same x y w = refl

pub next-same : (s : Script) (x : Progress) (e : Event) → next_progress (upgraded s) (upgraded_progress x) e ≡ upgraded_progress (next_progress s x e)
next-same s x e =
    ap (λ (y : Progress). next_of (upgraded_progress x) y (happens (upgraded_world x.world) e)) (noting-same s x e)
    ∙ ap (λ (w : World). next_of (upgraded_progress x) (upgraded_progress (noting s x e)) w) (happens-same x.world e)
    ∙ next-of-same x (noting s x e) (happens x.world e)

pub first-same : (s : Script) → first_progress (upgraded s) ≡ upgraded_progress (first_progress s)
first-same s = ap (λ (w : World). record (first_progress s) { world = w }) (opening-same s.plan)

progress-from-same : (s : Script) (x : Progress) (es : List Event) → progress_from (upgraded s) (upgraded_progress x) es ≡ upgraded_progress (progress_from s x es)
progress-from-same s x [] = refl
progress-from-same s x (e ∷ es) = ap (λ (y : Progress). progress_from (upgraded s) y es) (next-same s x e) ∙ progress-from-same s (next_progress s x e) es

pub progress-same : (s : Script) (es : List Event) → progress (upgraded s) es ≡ upgraded_progress (progress s es)
unfolding progress
progress-same s es = ap (λ (y : Progress). progress_from (upgraded s) y es) (first-same s) ∙ progress-from-same s (first_progress s) es

-- ---- which event may come

pub follow-same : (s : Script) (x : Progress) (e : Event) → may_follow (upgraded s) (upgraded_progress x) e ≡ may_follow s x e
unfolding ready
follow-same s x (Phase p) = refl
follow-same s x (Emit a t) = refl
follow-same s x (Release a t) = refl
follow-same s x (Cut a b) = refl
follow-same s x (Heal a b) = refl
follow-same s x (Crash a) = refl
follow-same s x (Restart a i) = refl
follow-same s x (Deliver k) = refl
follow-same s x (Tick a now) = refl
follow-same s x (Mill a r) = refl

pub may-same : (s : Script) (es : List Event) (e : Event) → may (upgraded s) es e ≡ may s es e
unfolding may
may-same s es e = ap (λ (y : Progress). may_follow (upgraded s) y e) (progress-same s es) ∙ follow-same s (progress s es) e

follows-same : (s : Script) (x : Progress) (es : List Event) → follows_from (upgraded s) (upgraded_progress x) es ≡ follows_from s x es
follows-same s x [] = refl
follows-same s x (e ∷ es) =
    ap (λ (b : Bool). b && follows_from (upgraded s) (next_progress (upgraded s) (upgraded_progress x) e) es) (follow-same s x e)
    ∙ ap (λ (b : Bool). may_follow s x e && b) (ap (λ (y : Progress). follows_from (upgraded s) y es) (next-same s x e) ∙ follows-same s (next_progress s x e) es)

pub so-far-same : (s : Script) (es : List Event) → is_live_so_far (upgraded s) es ≡ is_live_so_far s es
unfolding is_live_so_far
so-far-same s es = ap (λ (y : Progress). follows_from (upgraded s) y es) (first-same s) ∙ follows-same s (first_progress s) es

pub live-same : (s : Script) (es : List Event) → is_live (upgraded s) es ≡ is_live s es
unfolding is_live
live-same s es =
    ap (λ (b : Bool). b && is_phase_complete (progress (upgraded s) es) && not (phase_left (upgraded s) (progress (upgraded s) es))) (so-far-same s es)
    ∙ ap (λ (y : Progress). is_live_so_far s es && is_phase_complete y && not (phase_left (upgraded s) y)) (progress-same s es)
