-- A run is told event by event: the progress that it stands at.
use Rattle.std.proofs.Common.{◌≡◌, true, List, [], ◌∷◌, ◌++◌, refl, sym, ap, subst, ◌∙◌}
use Rattle.std.specs.Prelude.{reverse}
use Rattle.std.proofs.lemmas.Grind.{reverse_onto}
use Rattle.dpc_model.specs.declared.messages.Event.{Event}
use Rattle.dpc_model.specs.declared.scripts.Script.{Script}
use Rattle.world_model.specs.Schedules.{Told, Progress, first_progress, next_progress, progress_from, may_follow, follows_from}
use Rattle.dpc_lists.proofs.Truths.{both, both-of}
use Rattle.world_model.proofs.Running.{progress-append}

-- what is told where the run is as far as this
abbrev pub at : Progress → List Event → Told
at y es = record { world = y.world; events = es }

-- the events, with the last first, lead to this progress, each as it may
pub record Follows (script : Script) (y : Progress) (es : List Event) : Type 0 where
  pub come : progress_from script (first_progress script) (reverse es) ≡ y
  pub live : follows_from script (first_progress script) (reverse es) ≡ true

pub record Reached (script : Script) (P : Progress → Type 0) (x : Told) : Type 0 where
  pub here : Progress
  pub is_told : x ≡ at here x.events
  pub follows : Follows script here x.events
  pub holds : P here

pub follows-append : (script : Script) (x : Progress) (es fs : List Event) → follows_from script x es ≡ true → follows_from script (progress_from script x es) fs ≡ true → follows_from script x (es ++ fs) ≡ true
follows-append script x [] fs h k = k
follows-append script x (e ∷ es) fs h k =
    let p = both (may_follow script x e) (follows_from script (next_progress script x e) es) h in
    both-of (may_follow script x e) (follows_from script (next_progress script x e) (es ++ fs)) p.0 (follows-append script (next_progress script x e) es fs p.1 k)

pub follows-next : (script : Script) (y : Progress) (es : List Event) (e : Event) → Follows script y es → may_follow script y e ≡ true → Follows script (next_progress script y e) (e ∷ es)
follows-next script y es e f h =
    let back : reverse (e ∷ es) ≡ reverse es ++ e ∷ [] = reverse_onto es e [] in
    record {
      come = ap (λ (l : List Event). progress_from script (first_progress script) l) back ∙ progress-append script (first_progress script) (reverse es) (e ∷ []) ∙ ap (λ (z : Progress). next_progress script z e) f.come;
      live = ap (λ (l : List Event). follows_from script (first_progress script) l) back
          ∙ follows-append script (first_progress script) (reverse es) (e ∷ []) f.live (subst (λ (z : Progress). follows_from script z (e ∷ []) ≡ true) (sym f.come) (both-of (may_follow script y e) true h refl));
    }

pub reached : (script : Script) (P : Progress → Type 0) (y : Progress) (es : List Event) → Follows script y es → P y → Reached script P (at y es)
reached script P y es f h = record { here = y; is_told = refl; follows = f; holds = h }

pub reached-then : (script : Script) (P Q : Progress → Type 0) (g : Told → Told) (x : Told) → Reached script P x →
    ((y : Progress) (es : List Event) → Follows script y es → P y → Reached script Q (g (at y es))) → Reached script Q (g x)
reached-then script P Q g x r k = subst (λ (z : Told). Reached script Q (g z)) (sym r.is_told) (k r.here x.events r.follows r.holds)
