-- What code answers on the way to a verdict.
use Rattle.std.specs.Prelude.{ℕ, List, Result, Vec}
use Rattle.std.specs.declared.alloc.Global.{Global}
use Rattle.dpc_model.specs.declared.tuples.Item.{Item}
use Rattle.audit_core.specs.declared.verdict.Verdict.{Verdict}
use Rattle.journal_inputs.specs.Inputs.{Answers}
use Rattle.journal_inputs.specs.declared.faults.InputFault.{InputFault}
use Rattle.journal_inputs.specs.declared.faults.Refusal.{Refusal}

abbrev pub IsVerdict : Result Verdict Refusal → Result Verdict InputFault → Type 0
IsVerdict is result = Answers (λ v. v) is result

abbrev pub IsRecorded : Result (ℕ × List Item) Refusal → Result (ℕ × Vec Item Global) InputFault → Type 0
IsRecorded is result = Answers (λ (x : ℕ × Vec Item Global). (x.0, x.1.items)) is result
