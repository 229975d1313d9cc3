-- A replay up to some entry, one more entry, and where it stops.
use Rattle.std.proofs.Common.{◌≡◌, ℕ, zero, suc, ◌+◌, ◌≤◌, length, true, false, Result, IfErr, List, [], ◌∷◌, ◌++◌, take, Some, None, slice_get, refl, sym, ap, subst, ◌∙◌, arith}
use Rattle.std.specs.Result.{IsErr, IsErrAnd}
use Rattle.std.proofs.lemmas.List.{take_all}
use Rattle.std.proofs.lemmas.Result.{err_from_is_err_and}
use Rattle.dpc_model.specs.declared.messages.Event.{Event}
use Rattle.dpc_model.specs.declared.scripts.Script.{Script}
use Rattle.world_model.specs.Worlds.{excess}
use Rattle.world_model.specs.Schedules.{is_live_so_far, is_live}
use Rattle.world_model.specs.Replays.{Whole, replay_end}
use Rattle.law_schedules.proofs.Journals.{none-live, one-more}
use Rattle.law_journals.proofs.Replayed.{whole-where, unfinished-where, refused-where, passes-where, stays-within}
use Rattle.world_core.specs.Runs.{RunOf}
use Rattle.live_run.specs.Lives.{LiveRunOf, world_in, with_event}
use Rattle.run_watchers.specs.Watching.{gone_on}
use Rattle.journal_replay.specs.declared.faults.ReplayFault.{ReplayFault}
use Rattle.journal_replay.specs.declared.faults.ReplayFault.TheVariants.{NoMemory, TooLong, Refused, Unfinished}
use Rattle.journal_replay.specs.Stopping.{Happened, StopsAt, StopsSo}

abbrev pub run_behind : Script → List Event → LiveRunOf
run_behind script es = record { script = script; events = es; spent = false }

-- a run went through these entries
pub record HasReplayed (script : Script) (es : List Event) (run : LiveRunOf) : Type 0 where
  pub state : run ≡ run_behind script es
  pub so_far : is_live_so_far script es ≡ true
  pub within : excess script.plan es ≡ None

pub none-replayed : (script : Script) (run : LiveRunOf) → run ≡ run_behind script [] → HasReplayed script [] run
none-replayed script run e = record { state = e; so_far = none-live script; within = refl }

pub one-replayed : (script : Script) (es : List Event) (e : Event) (run new : LiveRunOf) → HasReplayed script es run → Happened run new e → HasReplayed script (es ++ e ∷ []) new
one-replayed script es e run new r h =
    let here : Happened (run_behind script es) new e = subst (λ (l : LiveRunOf). Happened l new e) r.state h in
    record { state = here.after; so_far = one-more script es e r.so_far here.may; within = stays-within script.plan es e r.within here.within }

stops : (script : Script) (events : List Event) (k : ℕ) (e : Event) (why : ReplayFault) → slice_get events k ≡ Some e → is_live_so_far script (take k events) ≡ true →
    excess script.plan (take k events) ≡ None → StopsAt (run_behind script (take k events)) e k why → StopsSo script events why
stops script events k e NoMemory there so_far within h = tt
stops script events k e (TooLong envelopes items) there so_far within h = (
  k,
  (passes-where script events k (record { envelopes = envelopes; items = items })).1
      (record { entry = e; reaches = record { there = there; so_far = so_far; within = within }; may_come = h.0; passes = h.1.passes; sums = h.1.sums }),
)
stops script events k e (Refused number) there so_far within h =
    rw h.1 ((refused-where script events k).1 (record { entry = e; reaches = record { there = there; so_far = so_far; within = within }; may_not = h.0 }))
stops script events k e Unfinished there so_far within h = absurd h

pub stopped : (script : Script) (events : List Event) (k : ℕ) (e : Event) (run : LiveRunOf) (why : ReplayFault) → slice_get events k ≡ Some e →
    HasReplayed script (take k events) run → StopsAt run e k why → StopsSo script events why
stopped script events k e run why there r h = stops script events k e why there r.so_far r.within (subst (λ (l : LiveRunOf). StopsAt l e k why) r.state h)

pub whole : (script : Script) (events : List Event) (run : LiveRunOf) → HasReplayed script events run → is_live run.script run.events ≡ true → replay_end script events ≡ Whole
whole script events run r h = (whole-where script events).1 (record { live = subst (λ (l : LiveRunOf). is_live l.script l.events ≡ true) r.state h; within = r.within })

pub unfinished : (script : Script) (events : List Event) (run : LiveRunOf) → HasReplayed script events run → is_live run.script run.events ≡ false →
    StopsSo script events Unfinished
unfinished script events run r h =
    (unfinished-where script events).1 (record { so_far = r.so_far; within = r.within; unfinished = subst (λ (l : LiveRunOf). is_live l.script l.events ≡ false) r.state h })

-- an event that happened leads the world on
pub led-on : (old new : LiveRunOf) (w : RunOf) (e : Event) → old.spent ≡ false → new ≡ with_event old e → w.plan ≡ new.script.plan → w.events ≡ new.events → w.spent ≡ false →
    w ≡ gone_on (world_in old) e
led-on old new w e live is plan events spent =
    rw (← (plan ∙ ap (λ (l : LiveRunOf). l.script.plan) is), ← (events ∙ ap (λ (l : LiveRunOf). l.events) is), ← (spent ∙ sym live)) refl

-- ---- at the code's entries

one-more-taken : {X : Type 0} (xs : List X) (k : ℕ) (x : X) → slice_get xs k ≡ Some x → take (k + 1) xs ≡ take k xs ++ x ∷ []
one-more-taken [] k x there = cc
one-more-taken (y ∷ xs) zero x there = let same : y ≡ x = cc in rw same refl
one-more-taken {X = X} (y ∷ xs) (suc k) x there =
    let step : suc k + 1 ≡ suc (k + 1) = omega arith in ap (λ (n : ℕ). take n (y ∷ xs)) step ∙ ap (λ (l : List X). y ∷ l) (one-more-taken xs k x there)

pub next-replayed : (script : Script) (events : List Event) (k : ℕ) (e : Event) (run new : LiveRunOf) → slice_get events k ≡ Some e →
    HasReplayed script (take k events) run → Happened run new e → HasReplayed script (take (k + 1) events) new
next-replayed script events k e run new there r h =
    subst (λ (es : List Event). HasReplayed script es new) (sym (one-more-taken events k e there)) (one-replayed script (take k events) e run new r h)

pub all-replayed : (script : Script) (events : List Event) (k : ℕ) (run : LiveRunOf) → length events ≤ k → HasReplayed script (take k events) run → HasReplayed script events run
all-replayed script events k run long r = subst (λ (es : List Event). HasReplayed script es run) (take_all k events long) r

pub stop-err : {X : Type 0} (r : Result X ReplayFault) (why : ReplayFault) (script : Script) (events : List Event) → IsErr r × IsErrAnd r (λ e. e ≡ why) → StopsSo script events why →
    IfErr r (λ e. StopsSo script events e)
stop-err {X} r why script events is h =
    let p = err_from_is_err_and r is.1 in
    subst (λ (q : Result X ReplayFault). IfErr q (λ e. StopsSo script events e)) (sym p.1) (subst (λ (e : ReplayFault). StopsSo script events e) (sym p.2) h)

-- its world is that of the journal
pub run-of : (script : Script) (events : List Event) (run : LiveRunOf) (world : RunOf) → HasReplayed script events run → world.plan ≡ run.script.plan → world.events ≡ run.events →
    (run.spent ≡ false → world.spent ≡ false) → world ≡ record { plan = script.plan; events = events; spent = false }
run-of script events run world r plan same live =
    let here = live (ap (λ (l : LiveRunOf). l.spent) r.state) in
    rw (← (plan ∙ ap (λ (l : LiveRunOf). l.script.plan) r.state), ← (same ∙ ap (λ (l : LiveRunOf). l.events) r.state), ← here) refl
