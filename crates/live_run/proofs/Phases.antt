-- The phase of a number, among those of the script or behind them.
use Rattle.std.proofs.Common.{◌≡◌, ℕ, zero, suc, ◌+◌, ◌-◌, List, [], ◌∷◌, length, refl, sym, ap, ◌∙◌, Some, None, slice_get}
use Rattle.dpc_lists.specs.Lists.{nth}
use Rattle.dpc_model.specs.declared.scripts.Phase.{Phase as PhaseSpec}
use Rattle.dpc_model.specs.declared.scripts.Script.{Script}
use Rattle.world_model.specs.Schedules.{phase_of, last_clock}
use Rattle.live_run.specs.declared.timetable.Timetable.{Timetable}
use Rattle.live_run.specs.Courses.{IsOf}

nth-some : {X : Type 0} (d : X) (xs : List X) (i : ℕ) (x : X) → slice_get xs i ≡ Some x → x ≡ nth d xs i
nth-some d [] i x e = cc
nth-some d (y ∷ xs) zero x e = cc
nth-some d (y ∷ xs) (suc i) x e = nth-some d xs i x e

nth-none : {X : Type 0} (d : X) (xs : List X) (i : ℕ) → slice_get xs i ≡ None → d ≡ nth d xs i
nth-none d [] i e = refl
nth-none d (y ∷ xs) zero e = cc
nth-none d (y ∷ xs) (suc i) e = nth-none d xs i e

abbrev quiet : Script → ℕ → PhaseSpec
quiet script p = record { directives = []; now = last_clock script + (p - length script.phases) }

pub phase_there : (script : Script) (t : Timetable) (p : ℕ) (spec : PhaseSpec) → IsOf script t → slice_get t.phases (p - 1) ≡ Some spec → spec ≡ phase_of script p
phase_there script t p spec s e = nth-some (quiet script p) script.phases (p - 1) spec (ap (λ (ps : List PhaseSpec). slice_get ps (p - 1)) (sym s.phases) ∙ e)

pub phase_none : (script : Script) (t : Timetable) (p : ℕ) → IsOf script t → slice_get t.phases (p - 1) ≡ None → record { directives = []; now = t.last + (p - length t.phases) } ≡ phase_of script p
phase_none script t p s e =
    ap (λ (n : ℕ). record { directives = []; now = n + (p - length t.phases) }) s.last
    ∙ ap (λ (ps : List PhaseSpec). record { directives = []; now = last_clock script + (p - length ps) }) s.phases
    ∙ nth-none (quiet script p) script.phases (p - 1) (ap (λ (ps : List PhaseSpec). slice_get ps (p - 1)) (sym s.phases) ∙ e)

pub directives_there : (script : Script) (t : Timetable) (p : ℕ) (spec : PhaseSpec) → IsOf script t → slice_get t.phases (p - 1) ≡ Some spec → spec.directives ≡ (phase_of script p).directives
directives_there script t p spec s e = ap (λ (x : PhaseSpec). x.directives) (phase_there script t p spec s e)

pub directives_none : (script : Script) (t : Timetable) (p : ℕ) → IsOf script t → slice_get t.phases (p - 1) ≡ None → [] ≡ (phase_of script p).directives
directives_none script t p s e = ap (λ (x : PhaseSpec). x.directives) (phase_none script t p s e)

pub clock_there : (script : Script) (t : Timetable) (p : ℕ) (spec : PhaseSpec) → IsOf script t → slice_get t.phases (p - 1) ≡ Some spec → spec.now ≡ (phase_of script p).now
clock_there script t p spec s e = ap (λ (x : PhaseSpec). x.now) (phase_there script t p spec s e)

pub clock_none : (script : Script) (t : Timetable) (p : ℕ) → IsOf script t → slice_get t.phases (p - 1) ≡ None → t.last + (p - length t.phases) ≡ (phase_of script p).now
clock_none script t p s e = ap (λ (x : PhaseSpec). x.now) (phase_none script t p s e)
