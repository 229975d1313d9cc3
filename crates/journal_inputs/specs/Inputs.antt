-- What an input of a script and a journal is, and what it is once it is upgraded.
use Rattle.std.specs.Prelude.{⊤, ◌≡◌, ℕ, true, ◌==◌, if◌then◌else◌, List, [], ◌++◌, Option, Some, None, Result, Ok, Err, unwrap_or, Vec}
use Rattle.std.specs.declared.alloc.Global.{Global}
use Rattle.dpc_model.specs.ScriptText.{script_text, upgraded}
use Rattle.dpc_model.specs.declared.messages.Event.{Event}
use Rattle.dpc_model.specs.declared.plans.Plan.{Plan}
use Rattle.dpc_model.specs.declared.scripts.Script.{Script}
use Rattle.script_rules.specs.declared.reasons.PlanFault.{PlanFault}
use Rattle.script_rules.specs.declared.reasons.Reason.TheVariants.{OutOfRange}
use Rattle.script_rules.specs.Reading.{reading}
use Rattle.journal_text.specs.Journals.{journal_text, journal_of}
use Rattle.journal_inputs.specs.Parts.{script_part, journal_part}
use Rattle.journal_inputs.specs.declared.faults.Refusal.{Refusal}
use Rattle.journal_inputs.specs.declared.faults.Refusal.TheVariants.{Script as InScript, Journal as InJournal}
use Rattle.journal_inputs.specs.declared.faults.InputFault.{InputFault}
use Rattle.journal_inputs.specs.declared.faults.InputFault.TheVariants.{NoMemory, Refused}

abbrev pub and_then : {X Y : Type 0} → Result X Refusal → (X → Result Y Refusal) → Result Y Refusal
and_then (Ok x) f = f x
and_then (Err why) f = Err why

-- ---- the two parts, each or its refusal

abbrev pub script_or_refusal : Result Script PlanFault → Result Script Refusal
script_or_refusal (Ok s) = Ok s
script_or_refusal (Err fault) = Err (InScript fault)

abbrev pub journal_or_refusal : Result (List Event) (ℕ × ℕ) → Result (List Event) Refusal
journal_or_refusal (Ok events) = Ok events
journal_or_refusal (Err why) = Err (InJournal why.0 why.1)

abbrev pub script_in : List ℕ → Result Script Refusal
script_in text = script_or_refusal (reading text)

abbrev pub journal_in : Plan → List ℕ → Result (List Event) Refusal
journal_in plan text = journal_or_refusal (journal_of plan text)

-- ---- a script and its journal; a missing journal is an empty one, that lacks its first line

abbrev pub with_journal : Script → Result (List Event) Refusal → Result (Script × List Event) Refusal
with_journal s journal = and_then journal (λ events. Ok (s, events))

unfoldable pub input_of : List ℕ → Result (Script × List Event) Refusal
input_of text =
    and_then (script_in (script_part text)) (λ s. with_journal s (journal_in s.plan (unwrap_or (journal_part text) [])))

-- ---- the upgraded text

-- a script of version 3 is not upgraded: its version is taken for one out of range
abbrev pub newest_fault : PlanFault
newest_fault = record { line = 1; reason = OutOfRange }

abbrev pub older : Script → Result Script Refusal
older s = if s.plan.version == 3 then Err (InScript newest_fault) else Ok s

abbrev pub upgraded_with : Script → List Event → List ℕ
upgraded_with s events = script_text (upgraded s) ++ journal_text (upgraded s).plan events true

abbrev pub upgraded_behind : Script → List ℕ → Result (List ℕ) Refusal
upgraded_behind s journal = and_then (journal_in s.plan journal) (λ events. Ok (upgraded_with s events))

abbrev pub upgraded_parts : Option (List ℕ) → Script → Result (List ℕ) Refusal
upgraded_parts None s = Ok (script_text (upgraded s))
upgraded_parts (Some journal) s = upgraded_behind s journal

-- the script of version 3, and the journal in its new form where there was one
unfoldable pub upgraded_text : List ℕ → Result (List ℕ) Refusal
upgraded_text text = and_then (and_then (script_in (script_part text)) older) (upgraded_parts (journal_part text))

-- ---- what is answered: that, its refusal, or want of memory

abbrev pub Answers : {X Y : Type 0} → (Y → X) → Result X Refusal → Result Y InputFault → Type 0
Answers view is (Ok y) = is ≡ Ok (view y)
Answers view is (Err NoMemory) = ⊤
Answers view is (Err (Refused why)) = is ≡ Err why

abbrev pub IsScript : Result Script Refusal → Result Script InputFault → Type 0
IsScript is result = Answers (λ s. s) is result

abbrev pub IsJournal : Result (List Event) Refusal → Result (Vec Event Global) InputFault → Type 0
IsJournal is result = Answers (λ (v : Vec Event Global). v.items) is result

abbrev pub IsInput : Result (Script × List Event) Refusal → Result (Script × Vec Event Global) InputFault → Type 0
IsInput is result = Answers (λ (x : Script × Vec Event Global). (x.0, x.1.items)) is result

abbrev pub IsText : Result (List ℕ) Refusal → Result (Vec ℕ Global) InputFault → Type 0
IsText is result = Answers (λ (v : Vec ℕ Global). v.items) is result
