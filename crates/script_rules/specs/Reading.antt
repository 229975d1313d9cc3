-- A text as a script, or its first fault.
use Rattle.std.specs.Prelude.{ℕ, ◌+◌, ◌^◌, Bool, nat_lt, if◌then◌else◌, List, [], ◌∷◌, length, drop, Option, Some, None, Result, Ok, Err}
use Rattle.dpc_model.specs.Words.{Word}
use Rattle.dpc_model.specs.declared.scripts.Script.{Script}
use Rattle.script_rules.specs.declared.reasons.Reason.{Reason}
use Rattle.script_rules.specs.declared.reasons.Reason.TheVariants.{PartMissing, PastLimit}
use Rattle.script_rules.specs.declared.reasons.PlanFault.{PlanFault}
use Rattle.script_rules.specs.Lines.{lines_of, words_of, is_skipped}
use Rattle.script_rules.specs.declared.keywords.Keyword.{Keyword}
use Rattle.script_rules.specs.Statements.{statement_of}
use Rattle.script_rules.specs.Drafts.{Draft, nothing_yet, and_then, script_of}
use Rattle.script_rules.specs.Reasons.{first_of_tests, tests_of, keyword_in, lacks_end}

-- the least reason that applies to a line
unfoldable pub fault_of : Draft → List ℕ → Option Reason
fault_of d line = first_of_tests (tests_of d line)

abbrev pub with_words : Draft → Option Keyword → List Word → Draft
with_words d None words = d
with_words d (Some k) words = and_then d (statement_of k words)

-- what is said with one more line
unfoldable pub with_line : Draft → List ℕ → Draft
with_line d line = if is_skipped line then d else with_words d (keyword_in d (words_of line)) (drop 1 (words_of line))

-- the reason that applies to the end of input
abbrev pub fault_of_end : Draft → Option Reason
fault_of_end d = if lacks_end d then Some PartMissing else None

-- what is said with all these lines, the first one numbered n; or the first line that has a fault, and the least reason there
abbrev pub read_from : ℕ → Draft → List (List ℕ) → Result Draft PlanFault
read_from n d [] = elim (fault_of_end d) [ None ↦ Ok d | Some r ↦ Err (record { line = n; reason = r }) ]
read_from n d (line ∷ lines) =
    elim (fault_of d line) [
      | None ↦ read_from (n + 1) (with_line d line) lines
      | Some r ↦ Err (record { line = n; reason = r })
    ]

-- more than 64 MiB
abbrev pub is_too_large_text : List ℕ → Bool
is_too_large_text text = nat_lt (2 ^ 26) (length text)

-- once all lines are read
abbrev pub concluded : Result Draft PlanFault → Result Script PlanFault
concluded (Ok d) = Ok (script_of d)
concluded (Err fault) = Err fault

-- the script that a text is, or its refusal
unfoldable pub reading : List ℕ → Result Script PlanFault
reading text =
    if is_too_large_text text then Err (record { line = 0; reason = PastLimit }) else concluded (read_from 1 nothing_yet (lines_of text))

abbrev pub fault_in : Result Script PlanFault → Option PlanFault
fault_in (Ok s) = None
fault_in (Err fault) = Some fault

abbrev pub script_in : Result Script PlanFault → Option Script
script_in (Ok s) = Some s
script_in (Err fault) = None

-- where a text is refused, and why
abbrev pub refusal : List ℕ → Option PlanFault
refusal text = fault_in (reading text)

-- the script that a text is
abbrev pub read : List ℕ → Option Script
read text = script_in (reading text)
