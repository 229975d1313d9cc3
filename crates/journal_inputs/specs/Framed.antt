-- What an input of a script and a journal in frames is.
use Rattle.std.specs.Prelude.{ℕ, if◌then◌else◌, List, ◌∷◌, ◌++◌, Option, Some, None, Result, Ok, Err, codes, bytes_eq}
use Rattle.dpc_model.specs.declared.messages.Event.{Event}
use Rattle.dpc_model.specs.declared.scripts.Script.{Script}
use Rattle.frame_lists.specs.Lists.{entry_in, entry_frames, parts_of}
use Rattle.input_parts.specs.Openings.{first_line, behind_line}
use Rattle.input_parts.specs.Parts.{part_before, part_from}
use Rattle.journal_inputs.specs.Inputs.{and_then, script_in, journal_or_refusal, with_journal}
use Rattle.journal_inputs.specs.declared.faults.Refusal.{Refusal}

-- a frame that is none of an entry is refused behind so many entries
abbrev pub or_reason_one : Result (List Event) ℕ → Result (List Event) (ℕ × ℕ)
or_reason_one (Ok events) = Ok events
or_reason_one (Err n) = Err (n, 1)

-- the line `frames`, and the frame of each entry to the end
abbrev pub journal_in_frames : List ℕ → Result (List Event) (ℕ × ℕ)
journal_in_frames bytes =
    if bytes_eq (first_line bytes) (codes "frames") then or_reason_one (parts_of entry_in (behind_line bytes)) else Err (0, 1)

-- where no line begins with that word, it lacks its first line
abbrev pub framed_journal : Option (List ℕ) → Result (List Event) (ℕ × ℕ)
framed_journal None = Err (0, 3)
framed_journal (Some bytes) = journal_in_frames bytes

-- such a line, and the frames of these entries
abbrev pub framed_text : List Event → List ℕ
framed_text events = codes "frames" ++ 10 ∷ entry_frames events

-- a script, and the journal in frames behind it
unfoldable pub framed_input_of : List ℕ → Result (Script × List Event) Refusal
framed_input_of bytes =
    and_then (script_in (part_before (codes "frames") bytes)) (λ s. with_journal s (journal_or_refusal (framed_journal (part_from (codes "frames") bytes))))
