-- How a command ends: what each side of it took or gave, by status. A side is given as it was before and as it is after.
use Rattle.std.specs.Prelude.{◌≡◌, ⊤, ℕ, ◌+◌, ◌⊎◌, Bool, true, false, not, ◌&&◌, List, length, Option, None, Some}
use Rattle.std.specs.Io.KnownBytes.{IsAtEnd}
use Rattle.dpc_edge.specs.Faults.{Rises}
use Rattle.dpc_edge.specs.Edges.{Edge, Stays, Gave, Took, TookPart, TookSome}
use Rattle.dpc_model.specs.Limits.{most_input}
use Rattle.dpc_model.specs.ScriptText.{script_text}
use Rattle.dpc_model.specs.declared.scripts.Script.{Script}
use Rattle.script_rules.specs.declared.reasons.PlanFault.{PlanFault}
use Rattle.script_rules.specs.Reading.{read, refusal}
use Rattle.load_gen.specs.Generated.{generated}
use Rattle.world_model.specs.Worlds.{World, Sums, run, all_settled, excess}
use Rattle.world_model.specs.Safe.{IsSafe}
use Rattle.world_model.specs.Steady.{OpensWell, IsSteady}
use Rattle.world_model.specs.Schedules.{lockstep_journal, is_live, quiet_limit}
use Rattle.law_schedules.specs.Journals.{phases_in}
use Rattle.law_healing.specs.Healing.{heals}
use Rattle.law_lockstep.specs.Calm.{IsCalm}
use Rattle.law_survivors.specs.Spared.{keeps_all_but_one}
use Rattle.law_calm.specs.Crashes.{has_no_crash}
use Rattle.report.specs.Text.{report_text, report_short, ideal_text}
use Rattle.client_frames.specs.Framed.{report_frames}
use Rattle.client_reports.specs.Json.{report_json}
use Rattle.borealis_top.specs.declared.answer.Answer.{Answer}
use Rattle.borealis_top.specs.declared.answer.Answer.TheVariants as answer
use Rattle.borealis_top.specs.declared.command.Form.{Form}
use Rattle.borealis_top.specs.declared.command.Form.TheVariants.{Text, Short, Json, Frames}
use Rattle.borealis_top.specs.declared.command.Reading.{Reading}
use Rattle.borealis_top.specs.declared.command.Reading.TheVariants.{Run, Check, Print, Ideal}
use Rattle.borealis_top.specs.declared.status.Status.{Status}
use Rattle.borealis_top.specs.declared.status.Status.TheVariants.{Done, Words, Refused, NoMemory, NotSettled, ReadFault, WriteFault, TooLong}
use Rattle.status_lines.specs.Lines.{fault_line, not_settled_line, too_long_line}
use Rattle.borealis_top.specs.Texts.{ok_text}
use Rattle.borealis_top.specs.Transfers.{GaveAtMost}

-- a text was to be written, with a status: it was, or the sink failed, which is a status of its own
abbrev pub IsTold : Edge → Edge → List ℕ → Status → Status → Type 0
IsTold old new text status result = ((result ≡ status) × Took old new text) ⊎ ((result ≡ WriteFault) × TookPart old new text)

-- ---- commands that read a script

-- the world after the one-thread journal of a script
abbrev pub run_of : Script → World
run_of s = run s.plan (lockstep_journal s)

abbrev pub report_as : Form → World → List ℕ
report_as Text w = report_text w
report_as Short w = report_short w
report_as Json w = report_json w
report_as Frames w = report_frames w

-- what is written of a script
abbrev pub answer_to : Reading → Script → List ℕ
answer_to (Run form) s = report_as form (run_of s)
answer_to Check s = ok_text
answer_to Print s = script_text s
answer_to Ideal s = ideal_text s.plan

-- the numbers that its run would reach, where an event of it would pass a limit
abbrev pub excess_of : Reading → Script → Option Sums
excess_of (Run form) s = excess s.plan (lockstep_journal s)
excess_of Check s = None
excess_of Print s = None
excess_of Ideal s = None

-- the script ends with settle, and a client of its run is not settled
abbrev pub leaves_open : Reading → Script → Bool
leaves_open (Run form) s = s.settle && not (all_settled (run_of s))
leaves_open Check s = false
leaves_open Print s = false
leaves_open Ideal s = false

-- what holds of the one-thread run of a script: it is safe, whatever failed; its journal is one that the script lets
-- happen, to the end; and where a client is not settled behind settle, all quiet phases went by
pub record IsGoodRun (s : Script) : Type 0 where
  pub safe : IsSafe s.plan (lockstep_journal s)
  pub live : is_live s (lockstep_journal s) ≡ true
  pub quiet : leaves_open (Run Text) s ≡ true → phases_in (lockstep_journal s) ≡ length s.phases + quiet_limit s.plan
  -- where its directives mend what they break it leaves no client open, if it crashes no node or recoveries end
  pub settles : heals s ≡ true → has_no_crash s ≡ true → leaves_open (Run Text) s ≡ false
  pub recovers : heals s ≡ true → IsCalm s (lockstep_journal s) → leaves_open (Run Text) s ≡ false
  -- nor if it crashes at most one replica of each fragment, and another one is there
  pub survives : heals s ≡ true → keeps_all_but_one s ≡ true → leaves_open (Run Text) s ≡ false
  -- nor where, whatever failed, its quiet phases open with all logs released and all links and nodes up, and the run is steady
  pub steady : OpensWell s (lockstep_journal s) → IsSteady s (lockstep_journal s) → leaves_open (Run Text) s ≡ false

-- what holds of a script whose answer is written
abbrev pub Holds : Reading → Script → Type 0
Holds (Run form) s = IsGoodRun s
Holds Check s = ⊤
Holds Print s = ⊤
Holds Ideal s = ⊤

-- a whole input was read, and is a script
pub record IsRead (old new : Edge) (s : Script) : Type 0 where
  pub text : List ℕ
  pub gave : Gave old new text
  pub end : IsAtEnd new.bytes
  pub script : read text ≡ Some s

-- an input was read to its end, or to one byte past the longest, and what was read is refused
pub record IsNotRead (old new : Edge) (fault : PlanFault) : Type 0 where
  pub text : List ℕ
  pub gave : Gave old new text
  pub whole : IsAtEnd new.bytes ⊎ (length text ≡ most_input + 1)
  pub refused : refusal text ≡ Some fault

-- at most one byte past the longest script was read
abbrev pub IsReadInPart : Edge → Edge → Type 0
IsReadInPart old new = GaveAtMost (most_input + 1) old new

-- the input is a script of which this text is to be written, and which leaves a client open or not
pub record Answers (reading : Reading) (input input_new : Edge) (is_open : Bool) (text : List ℕ) : Type 0 where
  pub script : Script
  pub read : IsRead input input_new script
  pub within : excess_of reading script ≡ None
  pub answer : answer_to reading script ≡ text
  pub opens : leaves_open reading script ≡ is_open
  pub holds : Holds reading script

-- the input is a script whose run would pass a limit, with these numbers
pub record Passes (reading : Reading) (input input_new : Edge) (sums : Sums) : Type 0 where
  pub script : Script
  pub read : IsRead input input_new script
  pub past : excess_of reading script ≡ Some sums

-- the failure-free streams, which are written as they are milled, were written in part
pub record WroteSome (reading : Reading) (input input_new out out_new : Edge) : Type 0 where
  pub is : reading ≡ Ideal
  pub text : List ℕ
  pub answers : Answers reading input input_new false text
  pub took : TookSome out out_new text

-- how such a command ends, by its status
abbrev pub ReadEnds : Reading → Edge → Edge → Edge → Edge → Edge → Edge → Status → Type 0
ReadEnds reading input input_new out out_new err err_new Done =
    (text : List ℕ) × Answers reading input input_new false text × Took out out_new text × Stays err err_new
ReadEnds reading input input_new out out_new err err_new NotSettled =
    (text : List ℕ) × Answers reading input input_new true text × Took out out_new text × Took err err_new not_settled_line
ReadEnds reading input input_new out out_new err err_new TooLong =
    (sums : Sums) × Passes reading input input_new sums × Stays out out_new × Took err err_new (too_long_line sums)
ReadEnds reading input input_new out out_new err err_new Refused =
    (fault : PlanFault) × IsNotRead input input_new fault × Stays out out_new × Took err err_new (fault_line fault)
ReadEnds reading input input_new out out_new err err_new NoMemory =
    (Stays out out_new ⊎ WroteSome reading input input_new out out_new) × Stays err err_new × IsReadInPart input input_new
    × (input_new.faults ≡ input.faults)
ReadEnds reading input input_new out out_new err err_new ReadFault =
    Stays out out_new × Stays err err_new × IsReadInPart input input_new × Rises input.faults input_new.faults
ReadEnds reading input input_new out out_new err err_new WriteFault =
    ((text : List ℕ) × (is_open : Bool) × Answers reading input input_new is_open text × TookPart out out_new text × Stays err err_new)
    ⊎ ((text : List ℕ) × Answers reading input input_new true text × Took out out_new text × TookPart err err_new not_settled_line)
    ⊎ ((sums : Sums) × Passes reading input input_new sums × Stays out out_new × TookPart err err_new (too_long_line sums))
    ⊎ ((fault : PlanFault) × IsNotRead input input_new fault × Stays out out_new × TookPart err err_new (fault_line fault))
ReadEnds reading input input_new out out_new err err_new Words = ⊥

-- where what is written to does not fail, all of an answer is written, or the line on its limits, unless memory runs out
abbrev pub IsWhole : Option Sums → Bool → List ℕ → Edge → Edge → Edge → Edge → Status → Type 0
IsWhole None false text out out_new err err_new result =
    (Rises out.faults out_new.faults → ⊥) → ((result ≡ Done) × Took out out_new text) ⊎ (result ≡ NoMemory)
IsWhole None true text out out_new err err_new result =
    (Rises out.faults out_new.faults → ⊥) → (Rises err.faults err_new.faults → ⊥) →
    ((result ≡ NotSettled) × Took out out_new text × Took err err_new not_settled_line) ⊎ (result ≡ NoMemory)
IsWhole (Some sums) is_open text out out_new err err_new result =
    (Rises err.faults err_new.faults → ⊥) → ((result ≡ TooLong) × Took err err_new (too_long_line sums)) ⊎ (result ≡ NoMemory)

-- so it is of every script whose input does not fail
abbrev pub ReadIsWhole : Reading → Edge → Edge → Edge → Edge → Edge → Edge → Status → Type 0
ReadIsWhole reading input input_new out out_new err err_new result =
    (s : Script) → (bytes : List ℕ) → read bytes ≡ Some s → input.bytes ≡ Some bytes → (Rises input.faults input_new.faults → ⊥) →
    IsWhole (excess_of reading s) (leaves_open reading s) (answer_to reading s) out out_new err err_new result

-- ---- the parts of such a command

-- what is written of a script, and how
abbrev pub IsAnswer : Reading → Script → Answer → Type 0
IsAnswer reading s (answer.Text text) = (excess_of reading s ≡ None) × (leaves_open reading s ≡ false) × (answer_to reading s ≡ text.items)
IsAnswer reading s (answer.Open text) = (excess_of reading s ≡ None) × (leaves_open reading s ≡ true) × (answer_to reading s ≡ text.items)
IsAnswer reading s (answer.Ideal plan) = (reading ≡ Ideal) × (s.plan ≡ plan)
IsAnswer reading s (answer.TooLong line) = (sums : Sums) × (excess_of reading s ≡ Some sums) × (line.items ≡ too_long_line sums)

-- a text was to be written as it comes: it was, or the sink failed, or memory ran out behind a beginning of it
abbrev pub IsToldAlong : Edge → Edge → List ℕ → Status → Type 0
IsToldAlong out out_new text result = IsTold out out_new text Done result ⊎ ((result ≡ NoMemory) × TookSome out out_new text)

-- a text and then a line on what is wrong were to be written, with a status: both were, or one of the sinks failed
abbrev pub IsToldBoth : Edge → Edge → Edge → Edge → List ℕ → List ℕ → Status → Status → Type 0
IsToldBoth out out_new err err_new text line status result =
    (Took out out_new text × IsTold err err_new line status result) ⊎ ((result ≡ WriteFault) × TookPart out out_new text × (err_new ≡ err))

-- so were a text and the line on clients that are not settled
abbrev pub IsToldOpen : Edge → Edge → Edge → Edge → List ℕ → Status → Type 0
IsToldOpen out out_new err err_new text result = IsToldBoth out out_new err err_new text not_settled_line NotSettled result

-- ---- a generated script

-- it was to be written, or memory ran out before any of it was
abbrev pub GenEnds : ℕ → Edge → Edge → Status → Type 0
GenEnds seed out out_new result = IsTold out out_new (script_text (generated seed)) Done result ⊎ ((result ≡ NoMemory) × (out_new ≡ out))
