-- What a run by several threads comes to, what holds of it, and what is written of it.
use Rattle.std.specs.Prelude.{◌≡◌, ℕ, ◌^◌, ◌≤◌, ◌<◌, Bool, true, false, not, ◌&&◌, List, [], ◌∷◌, ◌++◌, length, None, Some, Ok}
use Rattle.dpc_model.specs.declared.messages.Event.{Event}
use Rattle.dpc_model.specs.declared.plans.Plan.{Plan}
use Rattle.dpc_model.specs.declared.scripts.Script.{Script}
use Rattle.script_rules.specs.declared.reasons.PlanFault.{PlanFault}
use Rattle.script_rules.specs.Reading.{read, refusal}
use Rattle.status_lines.specs.Lines.{fault_line, too_long_line}
use Rattle.world_model.specs.Worlds.{Sums, run, all_settled, excess, WouldReach}
use Rattle.world_model.specs.Safe.{IsSafe}
use Rattle.world_model.specs.Schedules.{may, is_live, is_live_so_far}
use Rattle.report.specs.Text.{report_text}
use Rattle.journal_text.specs.Journals.{journal_text}
use Rattle.client_frames.specs.Framed.{report_frames}
use Rattle.frame_lists.specs.Lists.{entry_frames}
use Rattle.input_parts.specs.declared.notation.Notation.{Notation}
use Rattle.input_parts.specs.declared.notation.Notation.TheVariants.{Lines, Frames}
use Rattle.journal_inputs.specs.Framed.{framed_input_of, framed_text}
use Rattle.journal_inputs.specs.Inputs.{input_of}
use Rattle.journal_commands.specs.Promises.{IsGoodRun}
use Rattle.client_views.specs.Watching.{AreWatched}
use Rattle.client_views.specs.declared.watched.Watched.{Watched}
use Rattle.live_commands.specs.Watching.{watched_text}
use Rattle.live_commands.specs.declared.beside.Beside.{Beside}
use Rattle.live_commands.specs.declared.beside.Beside.TheVariants.{Nobody, Millers, Readers}
use Rattle.live_commands.specs.declared.outcome.Outcome.{Outcome}
use Rattle.live_commands.specs.declared.outcome.Outcome.TheVariants as outcome

-- the threads made this journal of a script to its end, and the readers, if there were any, saw this of its clients; or this event behind this
-- journal would pass a limit, with these numbers; or the input is refused
pub data Ending : Type 0 where
  Whole : (s : Script) (events : List Event) (watched : List Watched) → Ending
  Stopped : (s : Script) (events : List Event) (e : Event) (reached : Sums) → Ending
  Refused : (fault : PlanFault) → Ending

-- ---- what is written

-- the journal with its end, and then the report of its run, both in lines or in frames
abbrev pub journal_and_report : Notation → Plan → List Event → List ℕ
journal_and_report Lines plan events = journal_text plan events true ++ report_text (run plan events)
journal_and_report Frames plan events = entry_frames events ++ report_frames (run plan events)

-- behind both stand the lines on what readers saw
abbrev pub whole_text : Notation → Plan → List Event → List Watched → List ℕ
whole_text notation plan events watched = journal_and_report notation plan events ++ watched_text plan watched

-- the journal without its end, whose last entry is the event that would pass a limit
abbrev pub journal_upto : Notation → Plan → List Event → Event → List ℕ
journal_upto Lines plan events e = journal_text plan (events ++ e ∷ []) false
journal_upto Frames plan events e = entry_frames (events ++ e ∷ [])

abbrev pub leaves_open : Script → List Event → Bool
leaves_open s events = s.settle && not (all_settled (run s.plan events))

-- what code answers
abbrev pub IsEnding : Notation → Ending → Outcome → Type 0
IsEnding notation (Whole s events watched) (outcome.Text text) = (leaves_open s events ≡ false) × (text.items ≡ whole_text notation s.plan events watched)
IsEnding notation (Whole s events watched) (outcome.Open text) = (leaves_open s events ≡ true) × (text.items ≡ whole_text notation s.plan events watched)
IsEnding notation (Stopped s events e reached) (outcome.TooLong entries line) =
    (entries.items ≡ journal_upto notation s.plan events e) × (line.items ≡ too_long_line reached)
IsEnding notation (Refused fault) (outcome.Refused line) = line.items ≡ fault_line fault
IsEnding notation _ _ = ⊥

-- ---- what holds of it

-- such an event may follow the journal of a run that is live so far and passes no limit, and would pass a limit, with these numbers
pub record HasStopped (s : Script) (events : List Event) (e : Event) (reached : Sums) : Type 0 where
  pub so_far : is_live_so_far s events ≡ true
  pub within : excess s.plan events ≡ None
  pub may_come : may s events e ≡ true
  pub reaches : WouldReach (run s.plan events) e reached.envelopes reached.items

-- and that run is safe
pub record IsStoppedRun (s : Script) (events : List Event) (e : Event) (reached : Sums) : Type 0 where
  pub safe : IsSafe s.plan events
  pub stopped : HasStopped s events e reached

-- the text of a script and behind it the journal as it is printed, or the line `frames` and the journal in frames, are an input that is read
-- as both, where the script ends with a line feed: so a replay of it comes to the same
abbrev pub IsReadBack : List ℕ → Script → List Event → Type 0
IsReadBack text s events =
    (front : List ℕ) → text ≡ front ++ 10 ∷ [] →
    (input_of (text ++ journal_text s.plan events true) ≡ Ok (s, events)) × (framed_input_of (text ++ framed_text events) ≡ Ok (s, events))

-- at most so many are beside
abbrev pub IsFew : Beside → Type 0
IsFew Nobody = Unit {0}
IsFew (Millers m) = (1 ≤ m) × (m ≤ 16)
IsFew (Readers r) = (1 ≤ r) × (r ≤ 8)

-- how many readers there are
abbrev pub readers_of : Beside → ℕ
readers_of Nobody = 0
readers_of (Millers m) = 0
readers_of (Readers r) = r

-- which of them an input of a script comes to is up to the threads, with so many readers; where there is none, nothing is watched
abbrev pub CanEnd : ℕ → List ℕ → Ending → Type 0
CanEnd readers text (Whole s events watched) =
    (read text ≡ Some s) × IsGoodRun s events × IsReadBack text s events × AreWatched s.plan (run s.plan events).clients readers watched
CanEnd readers text (Stopped s events e reached) = (read text ≡ Some s) × IsStoppedRun s events e reached
CanEnd readers text (Refused fault) = refusal text ≡ Some fault

-- ---- the parts of an answer

-- a run of a script came to its end
pub record HasEnded (readers : ℕ) (s : Script) (events : List Event) (watched : List Watched) : Type 0 where
  pub live : is_live s events ≡ true
  pub within : excess s.plan events ≡ None
  pub short : length events < 2 ^ 62
  pub seen : AreWatched s.plan (run s.plan events).clients readers watched

-- what code answers of a run of a script
abbrev pub EndsSo : Notation → ℕ → Script → Outcome → Type 0
EndsSo notation readers s (outcome.Text text) =
    (events : List Event) × (watched : List Watched) × HasEnded readers s events watched × IsEnding notation (Whole s events watched) (outcome.Text text)
EndsSo notation readers s (outcome.Open text) =
    (events : List Event) × (watched : List Watched) × HasEnded readers s events watched × IsEnding notation (Whole s events watched) (outcome.Open text)
EndsSo notation readers s (outcome.TooLong entries line) =
    (events : List Event) × (e : Event) × (reached : Sums) × HasStopped s events e reached × IsEnding notation (Stopped s events e reached) (outcome.TooLong entries line)
EndsSo notation readers s (outcome.Refused line) = ⊥

-- what it answers of a world
abbrev pub IsToldOf : Bool → List ℕ → Outcome → Type 0
IsToldOf is_open whole (outcome.Text text) = (is_open ≡ false) × (text.items ≡ whole)
IsToldOf is_open whole (outcome.Open text) = (is_open ≡ true) × (text.items ≡ whole)
IsToldOf is_open whole (outcome.TooLong entries line) = ⊥
IsToldOf is_open whole (outcome.Refused line) = ⊥
