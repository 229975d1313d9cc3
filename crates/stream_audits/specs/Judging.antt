-- What an input of a script and a recorded stream comes to.
use Rattle.std.specs.Prelude.{◌≡◌, ℕ, List, Option, Some, None, Result, Ok, Err, codes, slice_get}
use Rattle.dpc_model.specs.Words.{Word}
use Rattle.dpc_model.specs.declared.plans.ClientSpec.{ClientSpec}
use Rattle.dpc_model.specs.declared.plans.Plan.{Plan}
use Rattle.dpc_model.specs.declared.scripts.Script.{Script}
use Rattle.dpc_model.specs.declared.tuples.Item.{Item}
use Rattle.script_rules.specs.Reading.{read}
use Rattle.input_parts.specs.Parts.{part_before, part_from}
use Rattle.input_parts.specs.declared.notation.Notation.{Notation}
use Rattle.input_parts.specs.declared.notation.Notation.TheVariants.{Lines, Frames}
use Rattle.audit_core.specs.Audits.{audited}
use Rattle.audit_core.specs.Meanings.{Says}
use Rattle.audit_core.specs.declared.verdict.Verdict.{Verdict}
use Rattle.recorded_streams.specs.Streams.{stream_of, framed_stream_of}
use Rattle.journal_inputs.specs.Inputs.{and_then, script_in}
use Rattle.journal_inputs.specs.declared.faults.Refusal.{Refusal}
use Rattle.journal_inputs.specs.declared.faults.Refusal.TheVariants.{Stream}
use Rattle.stream_audits.specs.Verdicts.{verdict_line}

-- the word with which the line in front of a recorded stream begins
abbrev pub stream_key : Notation → Word
stream_key Lines = codes "stream"
stream_key Frames = codes "frames"

-- the client and the items that a recorded stream is
abbrev pub recorded_in : Notation → Plan → List ℕ → Result (ℕ × List Item) ℕ
recorded_in Lines plan text = stream_of plan text
recorded_in Frames plan bytes = framed_stream_of plan bytes

-- where no line begins with that word, there is no stream
abbrev pub recorded_behind : Notation → Plan → Option (List ℕ) → Result (ℕ × List Item) ℕ
recorded_behind notation plan None = Err 0
recorded_behind notation plan (Some text) = recorded_in notation plan text

-- the verdict on a client's items
abbrev pub verdict_on : Plan → ℕ × List Item → Result Verdict ℕ
verdict_on plan x = elim (slice_get plan.clients x.0) [ None ↦ Err 0 | Some client ↦ audited plan client.input x.1 ]

abbrev pub or_refusal : {X : Type 0} → Result X ℕ → Result X Refusal
or_refusal (Ok x) = Ok x
or_refusal (Err n) = Err (Stream n)

-- the verdict on the recorded stream behind a script
abbrev pub judged_behind : Notation → Script → Option (List ℕ) → Result Verdict Refusal
judged_behind notation s behind = and_then (or_refusal (recorded_behind notation s.plan behind)) (λ x. or_refusal (verdict_on s.plan x))

unfoldable pub judged_input : Notation → List ℕ → Result Verdict Refusal
judged_input notation input =
    and_then (script_in (part_before (stream_key notation) input)) (λ s. judged_behind notation s (part_from (stream_key notation) input))

abbrev pub audited_text : Notation → List ℕ → Result (List ℕ) Refusal
audited_text notation input = and_then (judged_input notation input) (λ v. Ok (verdict_line v))

-- ---- what is promised

-- a verdict is on the recorded items of a client of the script, and what it says of them is so
pub record IsJudged (notation : Notation) (input : List ℕ) (v : Verdict) : Type 0 where
  pub script : Script
  pub is : read (part_before (stream_key notation) input) ≡ Some script
  pub behind : List ℕ
  pub there : part_from (stream_key notation) input ≡ Some behind
  pub number : ℕ
  pub items : List Item
  pub recorded : recorded_in notation script.plan behind ≡ Ok (number, items)
  pub client : ClientSpec
  pub named : slice_get script.plan.clients number ≡ Some client
  pub says : Says script.plan client.input items v
