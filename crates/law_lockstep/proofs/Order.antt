-- So in the one-thread journal nobody has ticked when an envelope comes, and nothing is due when one ticks.
use Rattle.std.proofs.Common.{◌≡◌, ℕ, ◌<◌, true, false, not, ◌||◌, ◌==◌, List, [], ◌∷◌, ◌++◌, length, refl, sym, ap, subst, ◌∙◌, arith, ◌⊎◌, inl, inr}
use Rattle.dpc_model.specs.declared.messages.Event.{Event}
use Rattle.dpc_model.specs.declared.messages.Event.TheVariants.{Phase, Emit, Release, Cut, Heal, Crash, Restart, Deliver, Tick, Mill}
use Rattle.dpc_model.specs.declared.scripts.Script.{Script}
use Rattle.world_model.specs.Worlds.{happens}
use Rattle.world_model.specs.Schedules.{Progress, next_progress, progress_from, progress, may_follow, follows_from, is_live_so_far, is_live, is_phase_complete}
use Rattle.dpc_lists.proofs.Truths.{both}
use Rattle.law_schedules.proofs.Calm.{calm-grown, grown-longer, calm-like, tick-calm}
use Rattle.law_schedules.proofs.Waits.{come-kept}
use Rattle.law_schedules.proofs.Journals.{live-far}
use Rattle.law_schedules.proofs.Timely.{live-complete}
use Rattle.law_settling.proofs.Splitting.{opens}
use Rattle.law_settling.proofs.Waitings.{is_due, due-on, comes, done-of, none-due}
use Rattle.law_settling.proofs.Along.{every-prefix, progress-push}
use Rattle.law_settling.proofs.Deliveries.{progress-parts, live-part}
use Rattle.world_model.specs.Events.{is_ticking}
use Rattle.law_lockstep.proofs.Tidy.{is_late, is_tidy, ends_ticking, ends-push, tidy-behind}

-- ---- what is due at a tick is never delivered

due-stuck : (script : Script) (k : ℕ) (x : Progress) (rest : List Event) → is_tidy true rest ≡ true → (x.phase == 0) ≡ false → k < length x.world.envelopes → comes x.world k ≡ true → follows_from script x rest ≡ true → is_phase_complete (progress_from script x rest) ≡ true → is_due k x.waiting ≡ true → ⊥
due-stuck script k x [] tidy some low can follows complete due = none-due x.world k x.waiting can (done-of x some complete).delivered due
due-stuck script k x (Phase p ∷ rest) tidy some low can follows complete due =
    let may = (both (may_follow script x (Phase p)) (follows_from script (next_progress script x (Phase p)) rest) follows).0 in
    none-due x.world k x.waiting can (done-of x some (opens script x p may).1).delivered due
due-stuck script k x (Tick a now ∷ rest) tidy some low can follows complete due =
    let w = x.world in
    let v = happens w (Tick a now) in
    let calm = tick-calm w a now in
    let longer = grown-longer w v (calm-grown w v calm) in
    due-stuck script k (next_progress script x (Tick a now)) rest tidy some (omega (arith, low, longer)) (come-kept w v k (calm-like w v calm) low ∙ can)
    (both (may_follow script x (Tick a now)) (follows_from script (next_progress script x (Tick a now)) rest) follows).1 complete (due-on script x (Tick a now) k refl refl due)
due-stuck script k x (Emit s t ∷ rest) tidy some low can follows complete due = cc
due-stuck script k x (Release s t ∷ rest) tidy some low can follows complete due = cc
due-stuck script k x (Cut a b ∷ rest) tidy some low can follows complete due = cc
due-stuck script k x (Heal a b ∷ rest) tidy some low can follows complete due = cc
due-stuck script k x (Crash a ∷ rest) tidy some low can follows complete due = cc
due-stuck script k x (Restart a i ∷ rest) tidy some low can follows complete due = cc
due-stuck script k x (Deliver j ∷ rest) tidy some low can follows complete due = cc
due-stuck script k x (Mill a r ∷ rest) tidy some low can follows complete due = cc

-- ---- along the journal

-- nobody has ticked in the phase, or the last event is a tick
abbrev Ticked : Script → List Event → Type 0
Ticked script done = ((progress script done).ticked ≡ []) ⊎ (ends_ticking false done ≡ true)

first-ticked : (script : Script) → Ticked script []
unfolding progress
first-ticked script = inl refl

module _ (script : Script) (events : List Event) (live : is_live script events ≡ true) (tidy : is_tidy false events ≡ true) where
  behind : (done rest : List Event) (e : Event) → events ≡ done ++ e ∷ rest → ((not (ends_ticking false done) || is_late e) ≡ true) × (is_tidy (is_ticking e) rest ≡ true)
  behind done rest e is = tidy-behind false done rest e (ap (λ (es : List Event). is_tidy false es) (sym is) ∙ tidy)

  -- nobody has ticked before an event that is not late
  early : (done : List Event) → Ticked script done → (not (ends_ticking false done) || false) ≡ true → (progress script done).ticked ≡ []
  early done (inl none) first = none
  early done (inr last) first = let clash : false ≡ true = rw last at first in cc

  ticked-next : (done rest : List Event) (e : Event) → events ≡ done ++ e ∷ rest → Ticked script done → ((next_progress script (progress script done) e).ticked ≡ []) ⊎ (is_ticking e ≡ true)
  ticked-next done rest (Phase p) is h = inl refl
  ticked-next done rest (Tick a now) is h = inr refl
  ticked-next done rest (Emit s t) is h = inl (early done h (behind done rest (Emit s t) is).0)
  ticked-next done rest (Release s t) is h = inl (early done h (behind done rest (Release s t) is).0)
  ticked-next done rest (Cut a b) is h = inl (early done h (behind done rest (Cut a b) is).0)
  ticked-next done rest (Heal a b) is h = inl (early done h (behind done rest (Heal a b) is).0)
  ticked-next done rest (Crash a) is h = inl (early done h (behind done rest (Crash a) is).0)
  ticked-next done rest (Restart a i) is h = inl (early done h (behind done rest (Restart a i) is).0)
  ticked-next done rest (Deliver k) is h = inl (early done h (behind done rest (Deliver k) is).0)
  ticked-next done rest (Mill a r) is h = inl (early done h (behind done rest (Mill a r) is).0)

  ticked-push : (done rest : List Event) (e : Event) → events ≡ done ++ e ∷ rest → Ticked script done → Ticked script (done ++ e ∷ [])
  ticked-push done rest e is h =
      elim (ticked-next done rest e is h) [
        | inl none ↦ inl (ap (λ (x : Progress). x.ticked) (progress-push script done e) ∙ none)
        | inr last ↦ inr (ends-push false done e ∙ last)
      ]

  -- nobody has ticked in the phase when an envelope comes
  pub none-ticked : (done rest : List Event) (k : ℕ) → events ≡ done ++ Deliver k ∷ rest → (progress script done).ticked ≡ []
  none-ticked done rest k is =
      early done (every-prefix events (Ticked script) (first-ticked script) (λ before after e at h. ticked-push before after e at h) done (Deliver k ∷ rest) is) (behind done rest (Deliver k) is).0

  -- and nothing is due when one ticks
  pub nothing-due : (done rest : List Event) (a now k : ℕ) → events ≡ done ++ Tick a now ∷ rest → ((progress script done).phase == 0) ≡ false → k < length (progress script done).world.envelopes → comes (progress script done).world k ≡ true → is_due k (progress script done).waiting ≡ true → ⊥
  nothing-due done rest a now k is some low can due =
      let all : is_tidy true (Tick a now ∷ rest) ≡ true = (behind done rest (Tick a now) is).1 in
      let follows = live-part script done (Tick a now ∷ rest) (subst (λ (es : List Event). is_live_so_far script es ≡ true) is (live-far script events live)) in
      let complete : is_phase_complete (progress_from script (progress script done) (Tick a now ∷ rest)) ≡ true =
      ap (λ (x : Progress). is_phase_complete x) (sym (ap (λ (es : List Event). progress script es) is ∙ progress-parts script done (Tick a now ∷ rest))) ∙ live-complete script events live in
      due-stuck script k (progress script done) (Tick a now ∷ rest) all some low can follows complete due
