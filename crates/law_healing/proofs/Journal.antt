-- Along a live journal the world is what the directives that were done left: those of the phases before, and those that the phase has not left to do.
use Rattle.std.proofs.Common.{◌≡◌, ℕ, zero, suc, ◌+◌, ◌-◌, true, ◌&&◌, ◌==◌, List, [], ◌∷◌, ◌++◌, drop, length, refl, sym, ap, subst, ◌∙◌, arith, append_assoc, inl, inr}
use Rattle.std.specs.Prelude.{flat_map}
use Rattle.std.specs.List.{filter}
use Rattle.std.proofs.lemmas.List.Elements.{filter-append}
use Rattle.dpc_lists.specs.Lists.{nth, is_nil}
use Rattle.dpc_model.specs.declared.messages.Event.{Event}
use Rattle.dpc_model.specs.declared.messages.Event.TheVariants.{Phase, Emit, Release, Cut, Heal, Crash, Restart, Deliver, Tick, Mill}
use Rattle.dpc_model.specs.declared.scripts.Directive.{Directive}
use Rattle.dpc_model.specs.declared.scripts.Phase.{Phase as PhaseSpec}
use Rattle.dpc_model.specs.declared.scripts.Script.{Script}
use Rattle.world_model.specs.Worlds.{World, happens}
use Rattle.world_model.specs.Schedules.{Progress, last_clock, phase_of, has_event, next_progress, progress, may_follow, is_live_so_far, is_phase_complete, all_ticked, all_delivered, all_milled}
use Rattle.dpc_lists.proofs.Truths.{both, eq-of, or-of}
use Rattle.dpc_lists.proofs.Elements.{nil-of}
use Rattle.law_settling.specs.Phased.{opened}
use Rattle.law_settling.proofs.Splitting.{opens}
use Rattle.law_settling.proofs.Along.{every-prefix, progress-push, live-may}
use Rattle.law_healing.specs.Healing.{directives_of}
use Rattle.law_healing.proofs.Steps.{IsNext, next-of}
use Rattle.law_healing.proofs.Healed.{IsBehind, directive-done, quiet-done, opening-behind}

abbrev pub directives_in : List PhaseSpec → List Directive
directives_in ps = flat_map (λ (p : PhaseSpec). p.directives) ps

-- the directives with events of the phases that are not opened yet
abbrev pub later : Script → ℕ → List Directive
later script p = filter has_event (directives_in (drop p script.phases))

pub record IsDone (script : Script) (x : Progress) : Type 0 where
  pub done : List Directive
  pub whole : done ++ (x.todo ++ later script x.phase) ≡ filter has_event (directives_of script)
  pub first : x.phase ≡ 0 → x.todo ≡ []
  pub behind : IsBehind script.plan done x.world

-- ---- a phase is opened

phases-next : (none : PhaseSpec) (ps : List PhaseSpec) (p : ℕ) → none.directives ≡ [] → directives_in (drop p ps) ≡ (nth none ps p).directives ++ directives_in (drop (suc p) ps)
phases-next none [] zero e = rw e refl
phases-next none [] (suc p) e = rw e refl
phases-next none (q ∷ ps) zero e = refl
phases-next none (q ∷ ps) (suc p) e = phases-next none ps p e

later-next : (script : Script) (p : ℕ) → later script p ≡ filter has_event (phase_of script (p + 1)).directives ++ later script (p + 1)
later-next script p =
    let none : PhaseSpec = record { directives = []; now = last_clock script + (p + 1 - length script.phases) } in
    let same : p + 1 - 1 ≡ p = omega arith in
    let next : suc p ≡ p + 1 = omega arith in
    ap (λ (ds : List Directive). filter has_event ds) (phases-next none script.phases p refl)
    ∙ filter-append has_event (nth none script.phases p).directives (directives_in (drop (suc p) script.phases))
    ∙ ap (λ (i : ℕ). filter has_event (nth none script.phases i).directives ++ later script (suc p)) (sym same)
    ∙ ap (λ (i : ℕ). filter has_event (phase_of script (p + 1)).directives ++ later script i) next

-- a phase that is complete has no directive left
pub complete-todo : (script : Script) (x : Progress) → is_phase_complete x ≡ true → IsDone script x → x.todo ≡ []
complete-todo script x complete h =
    elim (or-of (x.phase == 0) (is_nil x.todo && all_ticked x && all_delivered x && all_milled x) complete) [
      | inl start ↦ h.first (eq-of x.phase 0 start)
      | inr all ↦
          let three = (both (is_nil x.todo && all_ticked x && all_delivered x) (all_milled x) all).0 in
          let two = (both (is_nil x.todo && all_ticked x) (all_delivered x) three).0 in
          nil-of x.todo (both (is_nil x.todo) (all_ticked x) two).0
    ]

opened-done : (script : Script) (x : Progress) → is_phase_complete x ≡ true → IsDone script x → IsDone script (opened script x)
opened-done script x complete h =
    let todo = complete-todo script x complete h in
    record {
      done = h.done;
      whole = ap (λ (ds : List Directive). h.done ++ ds) (sym (later-next script x.phase)) ∙ ap (λ (ds : List Directive). h.done ++ (ds ++ later script x.phase)) (sym todo) ∙ h.whole;
      first = λ start. absurd (omega (arith, start));
      behind = h.behind;
    }

-- ---- the event of a directive

taken : (script : Script) (x y : Progress) (e : Event) → IsNext x e → y.world ≡ happens x.world e → y.phase ≡ x.phase → y.todo ≡ drop 1 x.todo → IsDone script x → IsDone script y
taken script x y e n world phase todo h =
    let d = n.first in
    let rest : y.todo ≡ n.rest = todo ∙ ap (λ (ds : List Directive). drop 1 ds) n.todo in
    let more = h.done ++ d ∷ [] in
    record {
      done = more;
      whole = ap (λ (ds : List Directive). more ++ (ds ++ later script y.phase)) rest
          ∙ ap (λ (p : ℕ). more ++ (n.rest ++ later script p)) phase
          ∙ append_assoc h.done (d ∷ []) (n.rest ++ later script x.phase)
          ∙ ap (λ (ds : List Directive). h.done ++ (ds ++ later script x.phase)) (sym n.todo)
          ∙ h.whole;
      first = λ start. let clash : d ∷ n.rest ≡ [] = sym n.todo ∙ h.first (sym phase ∙ start) in cc;
      behind = subst (λ (w : World). IsBehind script.plan more w) (sym world) (directive-done script.plan x.world h.done d e n.event h.behind);
    }

-- ---- an event

done-next : (script : Script) (x : Progress) (e : Event) → may_follow script x e ≡ true → IsDone script x → IsDone script (next_progress script x e)
done-next script x (Phase p) may h = let o = opens script x p may in subst (λ (d : Event). IsDone script (next_progress script x d)) (sym o.0) (opened-done script x o.1 h)
done-next script x (Emit s t) may h = taken script x (next_progress script x (Emit s t)) (Emit s t) (next-of x (Emit s t) may) refl refl refl h
done-next script x (Release s t) may h = taken script x (next_progress script x (Release s t)) (Release s t) (next-of x (Release s t) may) refl refl refl h
done-next script x (Cut a b) may h = taken script x (next_progress script x (Cut a b)) (Cut a b) (next-of x (Cut a b) may) refl refl refl h
done-next script x (Heal a b) may h = taken script x (next_progress script x (Heal a b)) (Heal a b) (next-of x (Heal a b) may) refl refl refl h
done-next script x (Crash a) may h = taken script x (next_progress script x (Crash a)) (Crash a) (next-of x (Crash a) may) refl refl refl h
done-next script x (Restart a i) may h = taken script x (next_progress script x (Restart a i)) (Restart a i) (next-of x (Restart a i) may) refl refl refl h
done-next script x (Deliver k) may h = record { done = h.done; whole = h.whole; first = h.first; behind = quiet-done script.plan x.world h.done (Deliver k) refl h.behind }
done-next script x (Tick a now) may h = record { done = h.done; whole = h.whole; first = h.first; behind = quiet-done script.plan x.world h.done (Tick a now) refl h.behind }
done-next script x (Mill a r) may h = record { done = h.done; whole = h.whole; first = h.first; behind = quiet-done script.plan x.world h.done (Mill a r) refl h.behind }

-- ---- a whole journal

first-done : (script : Script) → IsDone script (progress script [])
unfolding progress
first-done script = record { done = []; whole = refl; first = λ start. refl; behind = opening-behind script.plan }

pub done-along : (script : Script) (events before rest : List Event) → is_live_so_far script events ≡ true → events ≡ before ++ rest → IsDone script (progress script before)
done-along script events before rest live is =
    every-prefix events (λ es. IsDone script (progress script es)) (first-done script)
    (λ es more e at h. subst (IsDone script) (sym (progress-push script es e)) (done-next script (progress script es) e (live-may script events es more e live at) h)) before rest is
