-- How a run by several threads ends: what each side of it took or gave, by status.
use Rattle.std.specs.Prelude.{◌≡◌, ◌⊎◌, ℕ, ◌+◌, false, true, List, length, Some}
use Rattle.std.specs.Io.KnownBytes.{IsAtEnd}
use Rattle.dpc_edge.specs.Faults.{Rises}
use Rattle.dpc_edge.specs.Edges.{Edge, Stays, Gave, Took, TookPart}
use Rattle.dpc_model.specs.Limits.{most_input}
use Rattle.dpc_model.specs.declared.messages.Event.{Event}
use Rattle.dpc_model.specs.declared.scripts.Script.{Script}
use Rattle.script_rules.specs.declared.reasons.PlanFault.{PlanFault}
use Rattle.status_lines.specs.Lines.{fault_line, not_settled_line, too_long_line}
use Rattle.world_model.specs.Worlds.{Sums}
use Rattle.client_views.specs.declared.watched.Watched.{Watched}
use Rattle.live_commands.specs.Endings.{Ending, Whole, Stopped, CanEnd, IsEnding, whole_text, journal_upto, leaves_open, readers_of}
use Rattle.live_commands.specs.Endings as live
use Rattle.live_commands.specs.declared.outcome.Outcome.{Outcome}
use Rattle.borealis_top.specs.declared.command.LiveCommand.{LiveCommand}
use Rattle.borealis_top.specs.declared.status.Status.{Status}
use Rattle.borealis_top.specs.declared.status.Status.TheVariants.{Done, Words, Refused, NoMemory, NotSettled, ReadFault, WriteFault, TooLong}
use Rattle.borealis_top.specs.declared.transfer.InputFault.{InputFault}
use Rattle.borealis_top.specs.declared.transfer.InputFault.TheVariants as input_fault
use Rattle.borealis_top.specs.Ends.{IsTold, IsToldBoth, IsReadInPart}

-- an input was read to its end, or to one byte past the longest script, and comes to this; what is promised of it holds
pub record LiveComesTo (asked : LiveCommand) (input input_new : Edge) (ending : Ending) : Type 0 where
  pub text : List ℕ
  pub gave : Gave input input_new text
  pub whole : IsAtEnd input_new.bytes ⊎ (length text ≡ most_input + 1)
  pub can : CanEnd (readers_of asked.beside) text ending

-- a run came to its end, and left a client open
pub record LeftOpen (asked : LiveCommand) (input input_new : Edge) (s : Script) (events : List Event) (watched : List Watched) : Type 0 where
  pub comes : LiveComesTo asked input input_new (Whole s events watched)
  pub still : leaves_open s events ≡ true

-- how it ends, by its status
abbrev pub LiveEnds : LiveCommand → Edge → Edge → Edge → Edge → Edge → Edge → Status → Type 0
LiveEnds asked input input_new out out_new err err_new Done =
    (s : Script) × (events : List Event) × (watched : List Watched) × LiveComesTo asked input input_new (Whole s events watched) × (leaves_open s events ≡ false)
    × Took out out_new (whole_text asked.notation s.plan events watched) × Stays err err_new
LiveEnds asked input input_new out out_new err err_new NotSettled =
    (s : Script) × (events : List Event) × (watched : List Watched) × LeftOpen asked input input_new s events watched × Took out out_new (whole_text asked.notation s.plan events watched)
    × Took err err_new not_settled_line
LiveEnds asked input input_new out out_new err err_new TooLong =
    (s : Script) × (events : List Event) × (e : Event) × (sums : Sums) × LiveComesTo asked input input_new (Stopped s events e sums)
    × Took out out_new (journal_upto asked.notation s.plan events e) × Took err err_new (too_long_line sums)
LiveEnds asked input input_new out out_new err err_new Refused =
    (fault : PlanFault) × LiveComesTo asked input input_new (live.Refused fault) × Stays out out_new × Took err err_new (fault_line fault)
LiveEnds asked input input_new out out_new err err_new NoMemory =
    Stays out out_new × Stays err err_new × IsReadInPart input input_new × (input_new.faults ≡ input.faults)
LiveEnds asked input input_new out out_new err err_new ReadFault =
    Stays out out_new × Stays err err_new × IsReadInPart input input_new × Rises input.faults input_new.faults
LiveEnds asked input input_new out out_new err err_new WriteFault =
    ((s : Script) × (events : List Event) × (watched : List Watched) × LiveComesTo asked input input_new (Whole s events watched) × TookPart out out_new (whole_text asked.notation s.plan events watched)
    × Stays err err_new)
    ⊎ ((s : Script) × (events : List Event) × (watched : List Watched) × LeftOpen asked input input_new s events watched × Took out out_new (whole_text asked.notation s.plan events watched)
    × TookPart err err_new not_settled_line)
    ⊎ ((s : Script) × (events : List Event) × (e : Event) × (sums : Sums) × LiveComesTo asked input input_new (Stopped s events e sums)
    × TookPart out out_new (journal_upto asked.notation s.plan events e) × Stays err err_new)
    ⊎ ((s : Script) × (events : List Event) × (e : Event) × (sums : Sums) × LiveComesTo asked input input_new (Stopped s events e sums)
    × Took out out_new (journal_upto asked.notation s.plan events e) × TookPart err err_new (too_long_line sums))
    ⊎ ((fault : PlanFault) × LiveComesTo asked input input_new (live.Refused fault) × Stays out out_new × TookPart err err_new (fault_line fault))
LiveEnds asked input input_new out out_new err err_new Words = ⊥

-- ---- an answer for each input

-- where what is written to does not fail, all of it is written
abbrev pub IsLiveWhole : LiveCommand → Ending → Edge → Edge → Edge → Edge → Status → Type 0
IsLiveWhole asked (Whole s events watched) out out_new err err_new result =
    (Rises out.faults out_new.faults → ⊥) → (Rises err.faults err_new.faults → ⊥) →
    Took out out_new (whole_text asked.notation s.plan events watched)
    × (((leaves_open s events ≡ false) × (result ≡ Done)) ⊎ ((leaves_open s events ≡ true) × (result ≡ NotSettled) × Took err err_new not_settled_line))
IsLiveWhole asked (Stopped s events e sums) out out_new err err_new result =
    (Rises out.faults out_new.faults → ⊥) → (Rises err.faults err_new.faults → ⊥) →
    (result ≡ TooLong) × Took out out_new (journal_upto asked.notation s.plan events e) × Took err err_new (too_long_line sums)
IsLiveWhole asked (live.Refused fault) out out_new err err_new result =
    (Rises err.faults err_new.faults → ⊥) → (result ≡ Refused) × Took err err_new (fault_line fault)

-- so it is of every input that does not fail, unless memory runs out
abbrev pub LiveIsWhole : LiveCommand → Edge → Edge → Edge → Edge → Edge → Edge → Status → Type 0
LiveIsWhole asked input input_new out out_new err err_new result =
    (bytes : List ℕ) → input.bytes ≡ Some bytes → (Rises input.faults input_new.faults → ⊥) →
    ((ending : Ending) × CanEnd (readers_of asked.beside) bytes ending × IsLiveWhole asked ending out out_new err err_new result) ⊎ (result ≡ NoMemory)

-- ---- the parts of such a command

-- what was read comes to this
abbrev pub IsLiveOutcome : LiveCommand → Edge → Edge → Outcome → Type 0
IsLiveOutcome asked input input_new outcome = (ending : Ending) × LiveComesTo asked input input_new ending × IsEnding asked.notation ending outcome

-- why an input was not read whole
abbrev pub LiveFailsSo : Edge → Edge → InputFault → Type 0
LiveFailsSo input input_new input_fault.NoMemory = IsReadInPart input input_new × (input_new.faults ≡ input.faults)
LiveFailsSo input input_new input_fault.Failed = IsReadInPart input input_new × Rises input.faults input_new.faults
LiveFailsSo input input_new input_fault.TooLong = ⊥

-- what an input comes to was written, or a sink failed
abbrev pub IsLiveTold : LiveCommand → Ending → Edge → Edge → Edge → Edge → Status → Type 0
IsLiveTold asked (Whole s events watched) out out_new err err_new result =
    ((leaves_open s events ≡ false) × IsTold out out_new (whole_text asked.notation s.plan events watched) Done result × (err_new ≡ err))
    ⊎ ((leaves_open s events ≡ true) × IsToldBoth out out_new err err_new (whole_text asked.notation s.plan events watched) not_settled_line NotSettled result)
IsLiveTold asked (Stopped s events e sums) out out_new err err_new result =
    IsToldBoth out out_new err err_new (journal_upto asked.notation s.plan events e) (too_long_line sums) TooLong result
IsLiveTold asked (live.Refused fault) out out_new err err_new result = IsTold err err_new (fault_line fault) Refused result × (out_new ≡ out)
