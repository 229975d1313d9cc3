-- What the reader answers of a text, of a line, and of what a line says.
use Rattle.std.specs.Prelude.{⊤, ◌≡◌, ℕ, ◌<◌, List, None, Some, Result, Ok, Err}
use Rattle.dpc_model.specs.declared.scripts.Directive.{Directive}
use Rattle.dpc_model.specs.declared.scripts.Script.{Script}
use Rattle.diagram_reader.specs.declared.faults.ScriptFault.{ScriptFault}
use Rattle.diagram_reader.specs.declared.faults.ScriptFault.TheVariants.{NoMemory, Refused}
use Rattle.diagram_reader.specs.declared.faults.LineFault.{LineFault}
use Rattle.diagram_reader.specs.declared.faults.LineFault.TheVariants as line
use Rattle.dpc_model.specs.Words.{Word}
use Rattle.script_rules.specs.declared.keywords.Keyword.{Keyword}
use Rattle.script_rules.specs.declared.keywords.Keyword.TheVariants.{Header}
use Rattle.script_rules.specs.Statements.{Statement, statement_of}
use Rattle.script_rules.specs.Drafts.{Draft, and_then, with_directive}
use Rattle.script_rules.specs.Reasons.{first_of_tests, tests_said, tests_of_words}
use Rattle.script_rules.specs.Reading.{reading, fault_of, with_line}

-- the script that a text is, its refusal, or want of memory
abbrev pub IsReadingOf : List ℕ → Result Script ScriptFault → Type 0
IsReadingOf text (Ok s) = reading text ≡ Ok s
IsReadingOf text (Err NoMemory) = ⊤
IsReadingOf text (Err (Refused fault)) = reading text ≡ Err fault

-- a line was taken, which has no fault, or is refused with its least reason, or memory ran out
abbrev pub IsLineOf : {X : Type 0} → Draft → Draft → List ℕ → Result X LineFault → Type 0
IsLineOf old new text (Ok x) = (fault_of old text ≡ None) × (new ≡ with_line old text)
IsLineOf old new text (Err line.NoMemory) = ⊤
IsLineOf old new text (Err (line.Refused reason)) = fault_of old text ≡ Some reason

-- so of the words behind a keyword
abbrev pub IsWordsOf : {X : Type 0} → Draft → Draft → Keyword → List Word → Result X LineFault → Type 0
IsWordsOf old new k words (Ok x) = (first_of_tests (tests_of_words old (Some k) words) ≡ None) × (new ≡ and_then old (statement_of k words))
IsWordsOf old new k words (Err line.NoMemory) = ⊤
IsWordsOf old new k words (Err (line.Refused reason)) = first_of_tests (tests_of_words old (Some k) words) ≡ Some reason

-- a keyword that some word is: the header has five lines
abbrev pub IsKeyword : Keyword → Type 0
IsKeyword (Header place) = place < 5
IsKeyword _ = ⊤

-- so of what a line says, as far as the reasons against that go
abbrev pub IsSaid : {X : Type 0} → Draft → Draft → Statement → Result X LineFault → Type 0
IsSaid old new s (Ok x) = (first_of_tests (tests_said old s) ≡ None) × (new ≡ and_then old s)
IsSaid old new s (Err line.NoMemory) = ⊤
IsSaid old new s (Err (line.Refused reason)) = first_of_tests (tests_said old s) ≡ Some reason

-- the draft behind a line by which this source sends
abbrev pub sent : (ℕ → ℕ → Directive) → ℕ → Draft → Result ℕ LineFault → Draft
sent make time d (Ok source) = with_directive d (make source time)
sent make time d (Err fault) = d

-- the draft behind a line on the link of these actors
abbrev pub joined : (ℕ → ℕ → Directive) → Draft → Result (ℕ × ℕ) LineFault → Draft
joined make d (Ok link) = with_directive d (make link.0 link.1)
joined make d (Err fault) = d
