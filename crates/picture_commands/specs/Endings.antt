-- What `picture` comes to.
use Rattle.std.specs.Prelude.{ℕ, not, ◌&&◌, List, map, Option, Some, None, Result, Ok, Err}
use Rattle.dpc_model.specs.declared.messages.Event.{Event}
use Rattle.dpc_model.specs.declared.plans.Plan.{Plan}
use Rattle.dpc_model.specs.declared.scripts.Script.{Script}
use Rattle.journal_commands.specs.Endings.{Ending, PastLimits, RefusedBy, IsEnding, told_or_open}
use Rattle.journal_commands.specs.declared.outcome.Outcome.{Outcome}
use Rattle.lockstep.specs.declared.faults.RunFault.{RunFault}
use Rattle.lockstep.specs.declared.faults.RunFault.TheVariants.{NoMemory, TooLong}
use Rattle.picture_model.specs.Drawing.{picture_of, with_losses, whole_picture}
use Rattle.picture_model.specs.declared.columns.Column.{Column}
use Rattle.picture_model.specs.declared.columns.Mark.{Mark}
use Rattle.picture_svg.specs.Svg.{picture_svg}
use Rattle.picture_text.specs.Text.{picture_text}
use Rattle.script_rules.specs.Reading.{reading}
use Rattle.script_rules.specs.declared.reasons.PlanFault.{PlanFault}
use Rattle.status_lines.specs.Lines.{fault_line}
use Rattle.world_model.specs.Schedules.{lockstep_journal}
use Rattle.world_model.specs.Worlds.{Sums, run, all_settled, excess}
use Rattle.picture_commands.specs.declared.form.PictureForm.{PictureForm}
use Rattle.picture_commands.specs.declared.form.PictureForm.TheVariants.{Svg, Text}

-- columns in a form
abbrev pub drawn_as : PictureForm → Plan → List Column → List ℕ
drawn_as Svg plan columns = picture_svg plan columns
drawn_as Text plan columns = picture_text plan columns

-- the picture of a run, with what a script loses and repeats by phase
abbrev pub drawn_run : PictureForm → List (List Mark) → Plan → List Event → List ℕ
drawn_run form losses plan events = drawn_as form plan (map (with_losses losses) (picture_of plan events))

-- the picture of the run of a script by these events
abbrev pub drawn_of : PictureForm → Script → List Event → List ℕ
drawn_of form s events = drawn_as form s.plan (whole_picture s events)

-- code tells of a run that stopped only where it passes a limit
abbrev pub IsStopped : RunFault → Outcome → Type 0
IsStopped NoMemory outcome = ⊥
IsStopped (TooLong envelopes items) outcome = IsEnding (PastLimits (record { envelopes = envelopes; items = items })) outcome

-- its one-thread run passes a limit, or its picture is written, which leaves a client open behind `settle` or not
abbrev pub run_ending : PictureForm → Script → Option Sums → Ending
run_ending form s (Some sums) = PastLimits sums
run_ending form s None =
    let events = lockstep_journal s in told_or_open (s.settle && not (all_settled (run s.plan events))) (drawn_of form s events)

abbrev pub read_ending : PictureForm → Result Script PlanFault → Ending
read_ending form (Ok s) = run_ending form s (excess s.plan (lockstep_journal s))
read_ending form (Err fault) = RefusedBy (fault_line fault)

-- of the one-thread run of the script in an input
abbrev pub picture_ending : PictureForm → List ℕ → Ending
picture_ending form input = read_ending form (reading input)
