-- How a command that asks something of a whole input ends: what each side of it took or gave, by status.
use Rattle.std.specs.Prelude.{◌≡◌, ◌⊎◌, ◌↔◌, ℕ, ◌+◌, ◌<◌, List, length, Some}
use Rattle.std.specs.Io.KnownBytes.{IsAtEnd}
use Rattle.dpc_edge.specs.Faults.{Rises}
use Rattle.dpc_edge.specs.Edges.{Edge, Stays, Gave, Took, TookPart}
use Rattle.status_lines.specs.Lines.{fault_line, not_settled_line, too_long_line}
use Rattle.world_model.specs.Worlds.{Sums}
use Rattle.journal_commands.specs.declared.outcome.Outcome.{Outcome}
use Rattle.journal_commands.specs.Endings.{Ending, Told, LeftOpen, PastLimits, RefusedBy, IsEnding}
use Rattle.script_rules.specs.declared.reasons.Reason.TheVariants.{PastLimit}
use Rattle.borealis_top.specs.declared.status.Status.{Status}
use Rattle.borealis_top.specs.declared.status.Status.TheVariants.{Done, Words, Refused, NoMemory, NotSettled, ReadFault, WriteFault, TooLong}
use Rattle.borealis_top.specs.declared.transfer.InputFault.{InputFault}
use Rattle.borealis_top.specs.declared.transfer.InputFault.TheVariants as input_fault
use Rattle.borealis_top.specs.Transfers.{GaveAtMost}
use Rattle.borealis_top.specs.Ends.{IsTold, IsToldOpen}

-- how long an input may be, what it may come to, and what is promised of it
pub record Question : Type 1 where
  pub most : ℕ
  pub comes : List ℕ → Ending → Type 0
  pub holds : List ℕ → Type 0

-- an input that is longer is refused, and what is promised holds of every one
pub record IsSound (q : Question) : Type 0 where
  pub long : (text : List ℕ) (ending : Ending) → q.most < length text → q.comes text ending ↔ (ending ≡ RefusedBy (fault_line (record { line = 0; reason = PastLimit })))
  pub all : (text : List ℕ) → q.holds text

-- an input was read to its end, or to one byte past the longest, and comes to this; what is promised of it holds
pub record ComesTo (q : Question) (input input_new : Edge) (ending : Ending) : Type 0 where
  pub text : List ℕ
  pub gave : Gave input input_new text
  pub whole : IsAtEnd input_new.bytes ⊎ (length text ≡ q.most + 1)
  pub comes : q.comes text ending
  pub holds : q.holds text

-- at most one byte past the longest input was read
abbrev pub IsInPart : Question → Edge → Edge → Type 0
IsInPart q old new = GaveAtMost (q.most + 1) old new

-- how it ends, by its status
abbrev pub EndsBy : Question → Edge → Edge → Edge → Edge → Edge → Edge → Status → Type 0
EndsBy q input input_new out out_new err err_new Done =
    (text : List ℕ) × ComesTo q input input_new (Told text) × Took out out_new text × Stays err err_new
EndsBy q input input_new out out_new err err_new NotSettled =
    (text : List ℕ) × ComesTo q input input_new (LeftOpen text) × Took out out_new text × Took err err_new not_settled_line
EndsBy q input input_new out out_new err err_new TooLong =
    (sums : Sums) × ComesTo q input input_new (PastLimits sums) × Stays out out_new × Took err err_new (too_long_line sums)
EndsBy q input input_new out out_new err err_new Refused =
    (line : List ℕ) × ComesTo q input input_new (RefusedBy line) × Stays out out_new × Took err err_new line
EndsBy q input input_new out out_new err err_new NoMemory =
    Stays out out_new × Stays err err_new × IsInPart q input input_new × (input_new.faults ≡ input.faults)
EndsBy q input input_new out out_new err err_new ReadFault =
    Stays out out_new × Stays err err_new × IsInPart q input input_new × Rises input.faults input_new.faults
EndsBy q input input_new out out_new err err_new WriteFault =
    ((text : List ℕ) × ComesTo q input input_new (Told text) × TookPart out out_new text × Stays err err_new)
    ⊎ ((text : List ℕ) × ComesTo q input input_new (LeftOpen text) × TookPart out out_new text × Stays err err_new)
    ⊎ ((text : List ℕ) × ComesTo q input input_new (LeftOpen text) × Took out out_new text × TookPart err err_new not_settled_line)
    ⊎ ((sums : Sums) × ComesTo q input input_new (PastLimits sums) × Stays out out_new × TookPart err err_new (too_long_line sums))
    ⊎ ((line : List ℕ) × ComesTo q input input_new (RefusedBy line) × Stays out out_new × TookPart err err_new line)
EndsBy q input input_new out out_new err err_new Words = ⊥

-- ---- the parts of such a command

-- what was read comes to this
abbrev pub IsOutcome : Question → Edge → Edge → Outcome → Type 0
IsOutcome q input input_new outcome = (ending : Ending) × ComesTo q input input_new ending × IsEnding ending outcome

-- why an input was not read whole
abbrev pub FailsSo : Question → Edge → Edge → InputFault → Type 0
FailsSo q input input_new input_fault.NoMemory = IsInPart q input input_new × (input_new.faults ≡ input.faults)
FailsSo q input input_new input_fault.Failed = IsInPart q input input_new × Rises input.faults input_new.faults
FailsSo q input input_new input_fault.TooLong = ⊥

-- what an input comes to was written, or a sink failed
abbrev pub IsToldBy : Ending → Edge → Edge → Edge → Edge → Status → Type 0
IsToldBy (Told text) out out_new err err_new result = IsTold out out_new text Done result × (err_new ≡ err)
IsToldBy (LeftOpen text) out out_new err err_new result = IsToldOpen out out_new err err_new text result
IsToldBy (PastLimits sums) out out_new err err_new result = IsTold err err_new (too_long_line sums) TooLong result × (out_new ≡ out)
IsToldBy (RefusedBy line) out out_new err err_new result = IsTold err err_new line Refused result × (out_new ≡ out)

-- ---- an answer for each input

-- where what is written to does not fail, all of it is written, unless memory runs out
abbrev pub IsWholeBy : Ending → Edge → Edge → Edge → Edge → Status → Type 0
IsWholeBy (Told text) out out_new err err_new result =
    (Rises out.faults out_new.faults → ⊥) → ((result ≡ Done) × Took out out_new text) ⊎ (result ≡ NoMemory)
IsWholeBy (LeftOpen text) out out_new err err_new result =
    (Rises out.faults out_new.faults → ⊥) → (Rises err.faults err_new.faults → ⊥) →
    ((result ≡ NotSettled) × Took out out_new text × Took err err_new not_settled_line) ⊎ (result ≡ NoMemory)
IsWholeBy (PastLimits sums) out out_new err err_new result =
    (Rises err.faults err_new.faults → ⊥) → ((result ≡ TooLong) × Took err err_new (too_long_line sums)) ⊎ (result ≡ NoMemory)
IsWholeBy (RefusedBy line) out out_new err err_new result =
    (Rises err.faults err_new.faults → ⊥) → ((result ≡ Refused) × Took err err_new line) ⊎ (result ≡ NoMemory)

-- so it is of what every input that does not fail comes to
abbrev pub IsWholeFor : Question → Edge → Edge → Edge → Edge → Edge → Edge → Status → Type 0
IsWholeFor q input input_new out out_new err err_new result =
    (bytes : List ℕ) → input.bytes ≡ Some bytes → (Rises input.faults input_new.faults → ⊥) →
    ((ending : Ending) × q.comes bytes ending × IsWholeBy ending out out_new err err_new result) ⊎ (result ≡ NoMemory)
