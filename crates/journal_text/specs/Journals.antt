-- The text of a journal, and the journal that a text is.
use Rattle.std.specs.Prelude.{⊤, ◌≡◌, ◌⊎◌, ℕ, Bool, true, not, ◌==◌, if◌then◌else◌, List, [], ◌∷◌, ◌++◌, map, length, Option, Some, None, Result, Ok, Err, option_map, codes, decimal, bytes_eq, ◌&&◌, Vec}
use Rattle.std.specs.declared.alloc.Global.{Global}
use Rattle.dpc_lists.specs.Lists.{is_nil}
use Rattle.dpc_model.specs.Words.{Word, text_of}
use Rattle.dpc_model.specs.declared.messages.Event.{Event}
use Rattle.dpc_model.specs.declared.plans.Plan.{Plan}
use Rattle.script_rules.specs.Lines.{lines_of, pieces}
use Rattle.script_words.specs.Numbers.{u64_of}
use Rattle.journal_text.specs.Entries.{entry_words, entry_of}
use Rattle.journal_text.specs.declared.faults.JournalFault.{JournalFault}
use Rattle.journal_text.specs.declared.faults.JournalFault.TheVariants.{NoMemory, Refused}

-- ---- the text of a journal

-- the first line tells in version 3 how many entries there are
abbrev pub first_words : Plan → ℕ → List Word
first_words plan n = if plan.version == 3 then codes "journal" ∷ codes "3" ∷ decimal n ∷ [] else codes "journal" ∷ []

abbrev pub last_words : List Word
last_words = codes "journal" ∷ codes "end" ∷ []

abbrev pub last_lines : Bool → List (List Word)
last_lines ended = if ended then last_words ∷ [] else []

-- the first line, one for each entry, and where the journal has ended the last line
unfoldable pub journal_text : Plan → List Event → Bool → List ℕ
journal_text plan events ended = text_of (first_words plan (length events) ∷ map (entry_words plan) events ++ last_lines ended)

-- ---- the journal that a text is, or the number of entries in front of the refused line and the reason

-- how many entries the first line of version 3 tells
abbrev pub counted : List Word → Option ℕ
counted (w ∷ v ∷ n ∷ []) = if bytes_eq w (codes "journal") && bytes_eq v (codes "3") then u64_of n else None
counted _ = None

-- what a right first line tells of the number of entries: nothing, but in version 3
abbrev pub opened : Plan → List ℕ → Option (Option ℕ)
opened plan line =
    if plan.version == 3 then option_map Some (counted (pieces 32 line))
    else if bytes_eq line (codes "journal") then Some None
    else None

abbrev pub is_right : Option ℕ → ℕ → Bool
is_right None n = true
is_right (Some count) n = count == n

-- behind the last line
abbrev pub concluded : Option ℕ → List Event → List (List ℕ) → Result (List Event) (ℕ × ℕ)
concluded count events lines =
    if not (is_nil lines) then Err (length events, 1)
    else if is_right count (length events) then Ok events
    else Err (length events, 4)

-- the lines behind these entries
abbrev pub entries_of : Plan → Option ℕ → List Event → List (List ℕ) → Result (List Event) (ℕ × ℕ)
entries_of plan count events [] = Err (length events, 3)
entries_of plan count events (line ∷ lines) =
    if bytes_eq line (codes "journal end") then concluded count events lines
    else (elim (entry_of plan line) [
      | None ↦ Err (length events, 1)
      | Some e ↦ entries_of plan count (events ++ e ∷ []) lines
    ])

-- all lines
abbrev pub journal_of_lines : Plan → List (List ℕ) → Result (List Event) (ℕ × ℕ)
journal_of_lines plan [] = Err (0, 3)
journal_of_lines plan (line ∷ lines) =
    elim (opened plan line) [
      | None ↦ Err (0, 1)
      | Some count ↦ entries_of plan count [] lines
    ]

unfoldable pub journal_of : Plan → List ℕ → Result (List Event) (ℕ × ℕ)
journal_of plan text = journal_of_lines plan (lines_of text)

-- the journal, its refusal, or want of memory
abbrev pub IsReading : Result (List Event) (ℕ × ℕ) → Result (Vec Event Global) JournalFault → Type 0
IsReading journal (Ok events) = journal ≡ Ok events.items
IsReading journal (Err NoMemory) = ⊤
IsReading journal (Err (Refused entry reason)) = journal ≡ Err (entry, reason)

-- the text, whose last line may lack its LF
abbrev pub IsTextOf : List ℕ → List ℕ → Type 0
IsTextOf text whole = (text ≡ whole) ⊎ (text ++ 10 ∷ [] ≡ whole)

-- the reasons: a line that may not stand there, a missing first or last line, and in version 3 a wrong count
abbrev pub IsReason : Plan → ℕ → Type 0
IsReason plan reason = (reason ≡ 1) ⊎ (reason ≡ 3) ⊎ ((reason ≡ 4) × (plan.version ≡ 3))
