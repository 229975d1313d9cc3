-- What holds of a run by several threads of a script that was read.
use Rattle.std.proofs.Common.{◌≡◌, ℕ, List, Result, Ok, Err, Some, true, false, ap, refl, ◌∙◌, sym, subst}
use Rattle.dpc_model.specs.declared.messages.Event.{Event}
use Rattle.dpc_model.specs.declared.scripts.Script.{Script}
use Rattle.script_rules.specs.declared.reasons.PlanFault.{PlanFault}
use Rattle.script_rules.specs.Reading.{reading, read, refusal, script_in}
use Rattle.diagram_reader.specs.Readings.{IsReadingOf}
use Rattle.diagram_reader.specs.declared.faults.ScriptFault.{ScriptFault}
use Rattle.diagram_reader.specs.declared.faults.ScriptFault.TheVariants.{Refused as RefusedBy}
use Rattle.status_lines.specs.Lines.{too_long_line}
use Rattle.law_fit.specs.Fits.{CanRun}
use Rattle.law_printed_journals.proofs.FramedInputs.{framed-input}
use Rattle.law_printed_journals.proofs.PrintedInputs.{printed-input, replay-whole}
use Rattle.law_schedules.proofs.Journals.{live-far}
use Rattle.law_safety.proofs.Law.{run-safe}
use Rattle.law_scripts.proofs.ReadChecked.{reads_checked}
use Rattle.world_model.specs.Worlds.{Sums}
use Rattle.input_parts.specs.declared.notation.Notation.{Notation}
use Rattle.journal_commands.proofs.Promised.{good-run, read-can-run}
use Rattle.node_threads.specs.declared.stop.Stop.{Stop}
use Rattle.node_threads.specs.Lives.{IsStopped}
use Rattle.live_watch.specs.Watches.{IsWatchedRun}
use Rattle.client_views.specs.declared.watched.Watched.{Watched}
use Rattle.world_core.specs.Runs.{RunOf, world_of}
use Rattle.world_model.specs.Worlds.{all_settled}
use Rattle.live_commands.specs.declared.outcome.Outcome.{Outcome}
use Rattle.live_commands.specs.declared.outcome.Outcome.TheVariants as outcome
use Rattle.live_commands.specs.Endings.{Ending, Whole, Stopped, Refused, CanEnd, IsEnding, EndsSo, HasEnded, HasStopped, IsToldOf, whole_text, journal_upto}
use Rattle.std.specs.Prelude.{not, ◌&&◌, ◌^◌, ◌<◌, length}

-- what is read can be run
pub can-run : (text : List ℕ) (s : Script) → reading text ≡ Ok s → CanRun s.plan
can-run text s is = read-can-run text s (ap script_in is)

-- a run that came to its end keeps its promises
ended : (readers : ℕ) (text : List ℕ) (s : Script) (events : List Event) (watched : List Watched) → read text ≡ Some s → HasEnded readers s events watched →
    CanEnd readers text (Whole s events watched)
ended readers text s events watched is h =
    let can = read-can-run text s is in (
      is,
      good-run s events can (reads_checked text s is) (replay-whole s events h.live h.within),
      λ front same. (
        printed-input front text s events same is (live-far s events h.live) h.within h.short,
        framed-input front text s events same is (live-far s events h.live) h.within h.short,
      ),
      h.seen,
    )

-- so does one that would pass a limit
stopped : (readers : ℕ) (text : List ℕ) (s : Script) (events : List Event) (e : Event) (reached : Sums) → read text ≡ Some s → HasStopped s events e reached →
    CanEnd readers text (Stopped s events e reached)
stopped readers text s events e reached is h = (
  is,
  record { safe = run-safe s.plan events (read-can-run text s is).checked; stopped = h },
)

pub can-end : (notation : Notation) (readers : ℕ) (text : List ℕ) (s : Script) (o : Outcome) → reading text ≡ Ok s → EndsSo notation readers s o →
    (ending : Ending) × CanEnd readers text ending × IsEnding notation ending o
can-end notation readers text s (outcome.Text t) is (events, watched, h, e) = (Whole s events watched, ended readers text s events watched (ap script_in is) h, e)
can-end notation readers text s (outcome.Open t) is (events, watched, h, e) = (Whole s events watched, ended readers text s events watched (ap script_in is) h, e)
can-end notation readers text s (outcome.TooLong entries line) is (events, e, reached, h, told) =
    (Stopped s events e reached, stopped readers text s events e reached (ap script_in is) h, told)
can-end notation readers text s (outcome.Refused line) is h = absurd h

-- ---- a world

-- what is told of the world of a whole run is told of that run
pub whole-ends : (notation : Notation) (readers : ℕ) (s : Script) (w : RunOf) (watched : List Watched) (o : Outcome) → IsWatchedRun s readers w watched → length w.events < 2 ^ 62 →
    IsToldOf (s.settle && not (all_settled (world_of w))) (whole_text notation w.plan w.events watched) o → EndsSo notation readers s o
whole-ends notation readers s w watched (outcome.Text t) h short told =
    let same = h.run.plan in
    (w.events, watched, record { live = h.run.live; within = h.run.within; short = short; seen = rw same at h.seen }, rw same at told)
whole-ends notation readers s w watched (outcome.Open t) h short told =
    let same = h.run.plan in
    (w.events, watched, record { live = h.run.live; within = h.run.within; short = short; seen = rw same at h.seen }, rw same at told)
whole-ends notation readers s w watched (outcome.TooLong entries line) h short told = absurd told
whole-ends notation readers s w watched (outcome.Refused line) h short told = absurd told

-- and so of one that is stopped
pub stopped-is : (s : Script) (w : RunOf) (stop : Stop) → IsStopped s w stop →
    HasStopped s w.events stop.event (record { envelopes = stop.envelopes; items = stop.items })
stopped-is s w stop h =
    record { so_far = h.so_far; within = h.within; may_come = h.may_come; reaches = rw h.plan at h.reaches }

pub stopped-ends : (notation : Notation) (s : Script) (w : RunOf) (stop : Stop) (entries line : List ℕ) → IsStopped s w stop → entries ≡ journal_upto notation w.plan w.events stop.event →
    line ≡ too_long_line (record { envelopes = stop.envelopes; items = stop.items }) →
    (events : List Event) × (e : Event) × (reached : Sums) × HasStopped s events e reached × ((entries ≡ journal_upto notation s.plan events e) × (line ≡ too_long_line reached))
stopped-ends notation s w stop entries line h text told =
    let here : entries ≡ journal_upto notation s.plan w.events stop.event = rw h.plan at text in
    (w.events, stop.event, record { envelopes = stop.envelopes; items = stop.items }, stopped-is s w stop h, (here, told))

-- ---- a text that is no script

pub refused-is : (text : List ℕ) (r : Result Script ScriptFault) (why : ScriptFault) (fault : PlanFault) → r ≡ Err why → why ≡ RefusedBy fault → IsReadingOf text r →
    refusal text ≡ Some fault
refused-is text r why fault is same h =
    let here : reading text ≡ Err fault = subst (λ (x : Result Script ScriptFault). IsReadingOf text x) (is ∙ ap Err same) h in rw here refl
