-- From phase to phase along a journal: how far a state is from one that every event keeps.
use Rattle.std.proofs.Common.{◌≡◌, ℕ, zero, suc, ◌+◌, ◌-◌, ◌<◌, ◌≤◌, true, List, [], ◌∷◌, ◌++◌, refl, sym, ap, subst, ◌∙◌, arith, inl, inr}
use Rattle.dpc_lists.specs.Lists.{list_all}
use Rattle.dpc_model.specs.declared.messages.Event.{Event}
use Rattle.dpc_model.specs.declared.scripts.Script.{Script}
use Rattle.world_model.specs.Schedules.{Progress, next_progress, progress_from, may_follow, follows_from, is_phase_complete}
use Rattle.dpc_lists.proofs.Truths.{both, both-of, all-append}
use Rattle.world_model.proofs.Running.{progress-next}
use Rattle.law_schedules.proofs.Stages.{follows-append}
use Rattle.world_model.specs.Events.{is_quiet}
use Rattle.law_settling.specs.Phased.{IsFull, opened}
use Rattle.law_settling.proofs.Splitting.{IsQuietAt, Opens, in-quiet, quiet-goes, opened-quiet}
use Rattle.law_settling.proofs.Rules.{Keeps, GoodThrough, IsGoodPhase, kept-through}
use Rattle.law_settling.proofs.Coming.{quiet-through}

-- a phase behind a complete one
pub record IsStep (script : Script) (Good : Progress → Type 0) (z : Progress) (es : List Event) : Type 0 where
  pub at : IsQuietAt script z
  pub complete : is_phase_complete z ≡ true
  pub phase : IsGoodPhase script Good (opened script z) es

-- each full phase brings the last sort of states nearer, and that one stays
pub record IsJourney (script : Script) (Good : Progress → Type 0) (Stage : ℕ → Progress → Type 0) (top : ℕ) : Type 0 where
  pub lead : (i : ℕ) (z : Progress) (es : List Event) → i < top → IsStep script Good z es → Stage (suc i) z → Stage i (progress_from script (opened script z) es)
  pub kept : Keeps script Good (Stage 0)
  pub opens : (z : Progress) → Stage 0 z → Stage 0 (opened script z)

-- a phase that is under way, behind a complete one that stands so far from the end
pub record IsUnder (script : Script) (Good : Progress → Type 0) (Stage : ℕ → Progress → Type 0) (top base last : ℕ) (z : Progress) : Type 0 where
  pub start : Progress
  pub es : List Event
  pub is : z ≡ progress_from script (opened script start) es
  pub at : IsQuietAt script start
  pub complete : is_phase_complete start ≡ true
  pub past : base ≤ start.phase
  pub quiet : list_all is_quiet es ≡ true
  pub follows : follows_from script (opened script start) es ≡ true
  pub good : GoodThrough script Good (opened script start) es
  pub left : ℕ
  pub few : left ≤ top
  pub count : left ≡ last - start.phase
  pub stage : Stage left start

pub through-phase : (script : Script) (z : Progress) (es : List Event) → list_all is_quiet es ≡ true → IsQuietAt script z → (progress_from script z es).phase ≡ z.phase
through-phase script z [] quiet at = refl
through-phase script z (e ∷ es) quiet at =
    let q = both (is_quiet e) (list_all is_quiet es) quiet in
    let next = quiet-goes script z e q.0 at in
    through-phase script (next_progress script z e) es q.1 next.0 ∙ next.1

through-append : (script : Script) (Good : Progress → Type 0) (z : Progress) (es : List Event) (e : Event) → GoodThrough script Good z es → Good (next_progress script (progress_from script z es) e) → GoodThrough script Good z (es ++ e ∷ [])
through-append script Good z [] e h next = (h, next)
through-append script Good z (d ∷ es) e h next = (h.0, through-append script Good (next_progress script z d) es e h.1 next)

pub opened-at : (script : Script) (z : Progress) → IsQuietAt script z → IsQuietAt script (opened script z)
opened-at script z at = let phase = at.phase in opened-quiet script z (omega (arith, phase))

-- the phase that is under way has the next number
pub under-phase : (script : Script) (Good : Progress → Type 0) (Stage : ℕ → Progress → Type 0) (top base last : ℕ) (z : Progress) → (u : IsUnder script Good Stage top base last z) → z.phase ≡ u.start.phase + 1
under-phase script Good Stage top base last z u = ap (λ (y : Progress). y.phase) u.is ∙ through-phase script (opened script u.start) u.es u.quiet (opened-at script u.start u.at)

-- once nothing is left, it is at the end in the phase too
pub end-under : (script : Script) (Good : Progress → Type 0) (Stage : ℕ → Progress → Type 0) (top base last : ℕ) (z : Progress) → IsJourney script Good Stage top → (u : IsUnder script Good Stage top base last z) → u.left ≡ 0 → Stage 0 z
end-under script Good Stage top base last z j u none =
    let h : Stage 0 u.start = subst (λ (n : ℕ). Stage n u.start) none u.stage in
    subst (Stage 0) (sym u.is) (kept-through script Good (Stage 0) j.kept (opened script u.start) u.es u.quiet u.follows u.good (j.opens u.start h))

-- an event more of the phase
under-quiet : (script : Script) (Good : Progress → Type 0) (Stage : ℕ → Progress → Type 0) (top base last : ℕ) (z : Progress) (e : Event) → IsUnder script Good Stage top base last z → is_quiet e ≡ true → may_follow script z e ≡ true → Good (next_progress script z e) → IsUnder script Good Stage top base last (next_progress script z e)
under-quiet script Good Stage top base last z e u quiet may seen =
    let start = opened script u.start in
    let may_there : may_follow script (progress_from script start u.es) e ≡ true = subst (λ (y : Progress). may_follow script y e ≡ true) u.is may in
    record {
      start = u.start;
      es = u.es ++ e ∷ [];
      is = ap (λ (y : Progress). next_progress script y e) u.is ∙ sym (progress-next script start u.es e);
      at = u.at;
      complete = u.complete;
      past = u.past;
      quiet = all-append is_quiet u.es (e ∷ []) u.quiet (both-of (is_quiet e) true quiet refl);
      follows = follows-append script start u.es (e ∷ []) u.follows (both-of (may_follow script (progress_from script start u.es) e) true may_there refl);
      good = through-append script Good start u.es e u.good (subst (λ (y : Progress). Good (next_progress script y e)) u.is seen);
      left = u.left;
      few = u.few;
      count = u.count;
      stage = u.stage;
    }

-- the next phase: the one that was under way is full
under-opened : (script : Script) (Good : Progress → Type 0) (Stage : ℕ → Progress → Type 0) (top base last : ℕ) (z : Progress) → IsJourney script Good Stage top → IsUnder script Good Stage top base last z → is_phase_complete z ≡ true → Good (opened script z) → IsUnder script Good Stage top base last (opened script z)
under-opened script Good Stage top base last z j u complete seen =
    let start = opened script u.start in
    let phase = under-phase script Good Stage top base last z u in
    let at : IsQuietAt script z = subst (IsQuietAt script) (sym u.is) (quiet-through script start u.es u.quiet (opened-at script u.start u.at)) in
    let full : IsFull script start u.es = record { quiet = u.quiet; follows = u.follows; complete = subst (λ (y : Progress). is_phase_complete y ≡ true) u.is complete } in
    let step : IsStep script Good u.start u.es = record { at = u.at; complete = u.complete; phase = record { full = full; good = u.good } } in
    by-left u.left refl at step
  where
    by-left : (n : ℕ) → u.left ≡ n → IsQuietAt script z → IsStep script Good u.start u.es → IsUnder script Good Stage top base last (opened script z)
    by-left zero none at step =
        let phase = under-phase script Good Stage top base last z u in
        let count = u.count in
        let past = u.past in
        record { start = z; es = []; is = refl; at = at; complete = complete; past = omega (arith, past, phase); quiet = refl; follows = refl; good = seen; left = 0; few = omega arith; count = omega (arith, count, none, phase); stage = end-under script Good Stage top base last z j u none }
    by-left (suc n) some at step =
        let phase = under-phase script Good Stage top base last z u in
        let count = u.count in
        let few = u.few in
        let past = u.past in
        let now : Stage n (progress_from script (opened script u.start) u.es) = j.lead n u.start u.es (omega (arith, few, some)) step (subst (λ (m : ℕ). Stage m u.start) some u.stage) in
        record {
          start = z;
          es = [];
          is = refl;
          at = at;
          complete = complete;
          past = omega (arith, past, phase);
          quiet = refl;
          follows = refl;
          good = seen;
          left = n;
          few = omega (arith, few, some);
          count = omega (arith, count, some, phase);
          stage = subst (Stage n) (sym u.is) now;
        }

-- from one event of a journal to the next, while a phase is under way
pub under-next : (script : Script) (Good : Progress → Type 0) (Stage : ℕ → Progress → Type 0) (top base last : ℕ) (z : Progress) (e : Event) → IsJourney script Good Stage top → IsUnder script Good Stage top base last z → may_follow script z e ≡ true → Good (next_progress script z e) →
    IsUnder script Good Stage top base last (next_progress script z e)
under-next script Good Stage top base last z e j u follows good =
    let at : IsQuietAt script z = subst (IsQuietAt script) (sym u.is) (quiet-through script (opened script u.start) u.es u.quiet (opened-at script u.start u.at)) in
    elim (in-quiet script z e at follows) [
      | inl quiet ↦ under-quiet script Good Stage top base last z e u quiet follows good
      | inr o ↦
          let good_there = subst (λ (d : Event). Good (next_progress script z d)) o.0 good in
          subst (λ (d : Event). IsUnder script Good Stage top base last (next_progress script z d)) (sym o.0) (under-opened script Good Stage top base last z j u o.1 good_there)
    ]

-- the first phase is opened
pub under-first : (script : Script) (Good : Progress → Type 0) (Stage : ℕ → Progress → Type 0) (top base last : ℕ) (z : Progress) (e : Event) → Opens z e → IsQuietAt script z → base ≤ z.phase → top ≡ last - z.phase → Stage top z → Good (next_progress script z e) → IsUnder script Good Stage top base last (next_progress script z e)
under-first script Good Stage top base last z e o at past count stage good =
    let good_there = subst (λ (d : Event). Good (next_progress script z d)) o.0 good in
    subst (λ (d : Event). IsUnder script Good Stage top base last (next_progress script z d)) (sym o.0)
    (record { start = z; es = []; is = refl; at = at; complete = o.1; past = past; quiet = refl; follows = refl; good = good_there; left = top; few = omega arith; count = count; stage = stage })
