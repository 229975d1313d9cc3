-- What `picture replay` comes to.
use Rattle.std.specs.Prelude.{ℕ, nat_lt, not, ◌&&◌, if◌then◌else◌, List, length, Result, Ok, Err}
use Rattle.dpc_model.specs.declared.messages.Event.{Event}
use Rattle.dpc_model.specs.declared.scripts.Script.{Script}
use Rattle.journal_commands.specs.Endings.{Ending, PastLimits, RefusedBy, IsEnding, told_or_open, line_of, most_journal_input}
use Rattle.journal_commands.specs.declared.outcome.Outcome.{Outcome}
use Rattle.journal_replay.specs.declared.faults.ReplayFault.{ReplayFault}
use Rattle.journal_replay.specs.declared.faults.ReplayFault.TheVariants.{NoMemory, TooLong, Refused, Unfinished}
use Rattle.journal_inputs.specs.Inputs.{input_of}
use Rattle.journal_inputs.specs.declared.faults.Refusal.{Refusal}
use Rattle.script_rules.specs.declared.reasons.Reason.TheVariants.{PastLimit}
use Rattle.status_lines.specs.Lines.{fault_line, entry_line}
use Rattle.world_model.specs.Replays.{ReplayEnd, replay_end}
use Rattle.world_model.specs.Replays as replay
use Rattle.world_model.specs.Worlds.{run, all_settled}
use Rattle.picture_commands.specs.Endings.{drawn_of}
use Rattle.picture_commands.specs.declared.form.PictureForm.{PictureForm}

-- code tells of a replay of so many entries that stopped: never of want of memory
abbrev pub IsHalted : ℕ → ReplayFault → Outcome → Type 0
IsHalted entries NoMemory outcome = ⊥
IsHalted entries (TooLong envelopes items) outcome = IsEnding (PastLimits (record { envelopes = envelopes; items = items })) outcome
IsHalted entries (Refused k) outcome = IsEnding (RefusedBy (entry_line k 2)) outcome
IsHalted entries Unfinished outcome = IsEnding (RefusedBy (entry_line entries 3)) outcome

-- entry k may not come, or the journal ends too early, or it has a run, whose picture is written
abbrev pub replay_ending : PictureForm → Script → List Event → ReplayEnd → Ending
replay_ending form s events (replay.Refused k) = RefusedBy (entry_line k 2)
replay_ending form s events (replay.Passes k reached) = PastLimits reached
replay_ending form s events replay.Unfinished = RefusedBy (entry_line (length events) 3)
replay_ending form s events replay.Whole = told_or_open (s.settle && not (all_settled (run s.plan events))) (drawn_of form s events)

abbrev pub replayed : PictureForm → Result (Script × List Event) Refusal → Ending
replayed form (Ok both) = replay_ending form both.0 both.1 (replay_end both.0 both.1)
replayed form (Err why) = RefusedBy (line_of why)

-- of the journal behind the script in an input of at most 512 MiB
abbrev pub replay_picture_ending : PictureForm → List ℕ → Ending
replay_picture_ending form input =
    if nat_lt most_journal_input (length input) then RefusedBy (fault_line (record { line = 0; reason = PastLimit }))
    else replayed form (input_of input)
