-- What `saves` comes to.
use Rattle.std.specs.Prelude.{◌≡◌, ℕ, ◌^◌, not, ◌&&◌, List, Option, Some, None, Result, Ok, Err}
use Rattle.dpc_model.specs.declared.scripts.Script.{Script}
use Rattle.journal_commands.specs.Endings.{Ending, PastLimits, RefusedBy, told_or_open}
use Rattle.saved_runs.specs.Told.{AreSaid}
use Rattle.saved_runs.specs.declared.saved.Saved.{Saved}
use Rattle.script_rules.specs.Reading.{reading}
use Rattle.script_rules.specs.declared.reasons.PlanFault.{PlanFault}
use Rattle.status_lines.specs.Lines.{fault_line}
use Rattle.world_model.specs.Schedules.{lockstep_journal}
use Rattle.world_model.specs.Worlds.{Sums, run, all_settled, excess}
use Rattle.saves_commands.specs.Lines.{saves_text}

-- how many bytes a slot has
abbrev pub slot_room : ℕ
slot_room = 2 ^ 32

-- this is told of the nodes of a run that passes no limit
abbrev pub told_ending : Script → List Saved → Ending
told_ending s told = told_or_open (s.settle && not (all_settled (run s.plan (lockstep_journal s)))) (saves_text s.plan told)

-- The run passes a limit, or what is told of each node is so: which of `full` and `kept` is, is up to the bytes that code needs.
abbrev pub EndsRun : Script → Option Sums → Ending → Type 0
EndsRun s (Some sums) ending = ending ≡ PastLimits sums
EndsRun s None ending = (told : List Saved) × AreSaid s.plan slot_room (lockstep_journal s) told × (ending ≡ told_ending s told)

abbrev pub EndsRead : Result Script PlanFault → Ending → Type 0
EndsRead (Ok s) ending = EndsRun s (excess s.plan (lockstep_journal s)) ending
EndsRead (Err fault) ending = ending ≡ RefusedBy (fault_line fault)

-- of the one-thread run of the script in an input
abbrev pub EndsSaves : List ℕ → Ending → Type 0
EndsSaves input ending = EndsRead (reading input) ending
