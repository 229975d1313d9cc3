-- What judging statements finds: the line behind them, or the first fault.
use Rattle.std.specs.Prelude.{◌≡◌, ℕ, ◌+◌, ◌-◌, ◌^◌, min, true, false, List, [], length, Some, None, Result, Ok, Err, option_map}
use Rattle.dpc_model.specs.declared.plans.SourceSpec.{SourceSpec}
use Rattle.dpc_model.specs.declared.plans.FragSpec.{FragSpec}
use Rattle.dpc_model.specs.declared.plans.ClientSpec.{ClientSpec}
use Rattle.dpc_model.specs.declared.plans.Plan.{Plan}
use Rattle.dpc_model.specs.declared.scripts.Directive.{Directive}
use Rattle.dpc_model.specs.declared.scripts.Phase.{Phase}
use Rattle.dpc_model.specs.declared.scripts.Script.{Script}
use Rattle.std.specs.Prelude.{◌∷◌, if◌then◌else◌, ◌==◌}
use Rattle.script_rules.specs.declared.reasons.PlanFault.{PlanFault}
use Rattle.script_rules.specs.Statements.{Statement}
use Rattle.script_rules.specs.Drafts.{Draft}
use Rattle.script_rules.specs.Checking.{check_from}

-- the number of a line as it is told: past 2^64 - 1 it stays there
abbrev pub told : ℕ → ℕ
told n = min n (2 ^ 64 - 1)

abbrev pub told_fault : PlanFault → PlanFault
told_fault fault = record { line = told fault.line; reason = fault.reason }

-- no fault in statements from line n on, behind those that said d, and the line behind them; or their first fault
abbrev pub Judges : Result ℕ PlanFault → ℕ → Draft → List Statement → Type 0
Judges (Ok line) n d ss = (line ≡ told (n + length ss)) × (check_from n d ss ≡ None)
Judges (Err fault) n d ss = option_map told_fault (check_from n d ss) ≡ Some fault

-- the numbers of the header's lines
abbrev pub header_numbers : Plan → List ℕ
header_numbers plan =
    plan.version ∷ plan.width ∷ plan.delay ∷ plan.end ∷ (if plan.version == 3 then (if plan.passing then 1 else 0) ∷ [] else [])

-- a plan's header, and these parts
abbrev pub declaring : Plan → List SourceSpec → List FragSpec → List ClientSpec → Draft
declaring plan sources frags clients =
    record { header = header_numbers plan; sources = sources; frags = frags; clients = clients; begun = false; phases = []; directives = []; settle = false }

-- a script without phases
abbrev pub bare : Plan → Script
bare plan = record { plan = plan; phases = []; settle = false }

-- a plan whose phases have begun, behind these phases and directives
abbrev pub running : Plan → List Phase → List Directive → Draft
running plan phases directives = record (declaring plan plan.sources plan.frags plan.clients) { begun = true; phases = phases; directives = directives }
