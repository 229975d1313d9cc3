-- What the commands on a script and what stands behind it come to.
use Rattle.std.specs.Prelude.{◌≡◌, ℕ, ◌^◌, nat_lt, Bool, not, ◌&&◌, if◌then◌else◌, List, length, Result, Ok, Err}
use Rattle.dpc_model.specs.declared.messages.Event.{Event}
use Rattle.dpc_model.specs.declared.scripts.Script.{Script}
use Rattle.script_rules.specs.declared.reasons.Reason.TheVariants.{PastLimit}
use Rattle.status_lines.specs.Lines.{fault_line, entry_line, item_line}
use Rattle.world_model.specs.Worlds.{Sums, run, all_settled}
use Rattle.world_model.specs.Replays.{ReplayEnd, replay_end}
use Rattle.world_model.specs.Replays as replay
use Rattle.report.specs.Text.{report_text}
use Rattle.journal_inputs.specs.declared.faults.Refusal.{Refusal}
use Rattle.journal_inputs.specs.declared.faults.Refusal.TheVariants as refusal
use Rattle.input_parts.specs.declared.notation.Notation.{Notation}
use Rattle.input_parts.specs.declared.notation.Notation.TheVariants.{Lines, Frames}
use Rattle.journal_inputs.specs.Inputs.{input_of, upgraded_text}
use Rattle.journal_inputs.specs.Framed.{framed_input_of}
use Rattle.stream_audits.specs.Judging.{audited_text}
use Rattle.journal_commands.specs.declared.outcome.JournalCommand.{JournalCommand}
use Rattle.journal_commands.specs.declared.outcome.JournalCommand.TheVariants.{Replay, Upgrade, Audit}
use Rattle.journal_commands.specs.declared.outcome.Outcome.{Outcome}
use Rattle.journal_commands.specs.declared.outcome.Outcome.TheVariants as outcome
use Rattle.status_lines.specs.Lines.{too_long_line}

-- a text is to be written, which leaves a client open or not; or the run would pass a limit; or the input is refused by a line
pub data Ending : Type 0 where
  Told : (text : List ℕ) → Ending
  LeftOpen : (text : List ℕ) → Ending
  PastLimits : (reached : Sums) → Ending
  RefusedBy : (line : List ℕ) → Ending

abbrev pub told_or_open : Bool → List ℕ → Ending
told_or_open is_open text = if is_open then LeftOpen text else Told text

-- ---- replay

-- entry k may not come, or the journal ends too early, or it has a run
abbrev pub replay_ending : Script → List Event → ReplayEnd → Ending
replay_ending s events (replay.Refused k) = RefusedBy (entry_line k 2)
replay_ending s events (replay.Passes k reached) = PastLimits reached
replay_ending s events replay.Unfinished = RefusedBy (entry_line (length events) 3)
replay_ending s events replay.Whole =
    told_or_open (s.settle && not (all_settled (run s.plan events))) (report_text (run s.plan events))

abbrev pub line_of : Refusal → List ℕ
line_of (refusal.Script fault) = fault_line fault
line_of (refusal.Journal entry reason) = entry_line entry reason
line_of (refusal.Stream item) = item_line item

-- a script, and the journal behind it in lines or frames
abbrev pub input_in : Notation → List ℕ → Result (Script × List Event) Refusal
input_in Lines input = input_of input
input_in Frames input = framed_input_of input

abbrev pub replayed : Result (Script × List Event) Refusal → Ending
replayed (Ok both) = replay_ending both.0 both.1 (replay_end both.0 both.1)
replayed (Err why) = RefusedBy (line_of why)

-- ---- upgrade and audit

abbrev pub text_ending : Result (List ℕ) Refusal → Ending
text_ending (Ok text) = Told text
text_ending (Err why) = RefusedBy (line_of why)

-- ---- an input of at most 512 MiB

abbrev pub most_journal_input : ℕ
most_journal_input = 2 ^ 29

abbrev pub ending_in : JournalCommand → List ℕ → Ending
ending_in (Replay notation) input = replayed (input_in notation input)
ending_in Upgrade input = text_ending (upgraded_text input)
ending_in (Audit notation) input = text_ending (audited_text notation input)

abbrev pub ending_of : JournalCommand → List ℕ → Ending
ending_of command input =
    if nat_lt most_journal_input (length input) then RefusedBy (fault_line (record { line = 0; reason = PastLimit }))
    else ending_in command input

-- ---- what code answers

abbrev pub IsEnding : Ending → Outcome → Type 0
IsEnding ending (outcome.Text text) = ending ≡ Told text.items
IsEnding ending (outcome.Open text) = ending ≡ LeftOpen text.items
IsEnding ending (outcome.TooLong line) = (reached : Sums) × (ending ≡ PastLimits reached) × (line.items ≡ too_long_line reached)
IsEnding ending (outcome.Refused line) = ending ≡ RefusedBy line.items
