-- Everything that a reading opens, so that one name on an `unfolding` line serves each trial.
use Rattle.std.specs.Prelude.{ℕ, ◌++◌, List, Option, option_map, codes, flat_map, replicate}
use Rattle.std.specs.Fmt.{digits}
use Rattle.dpc_model.specs.ScriptText.{script_text}
use Rattle.script_rules.specs.declared.reasons.Reason.{Reason}
use Rattle.script_rules.specs.declared.reasons.PlanFault.{PlanFault}
use Rattle.script_rules.specs.Checking.{check, is_in_range}
use Rattle.script_rules.specs.Reading.{fault_of, with_line, reading, refusal}

unfoldable pub all_opened : Unit {0}
unfolding digits script_text fault_of with_line reading check is_in_range
all_opened = tt

-- the line and the reason
abbrev pub refused_at : List ℕ → Option (ℕ × Reason)
refused_at text = option_map (λ (fault : PlanFault). (fault.line, fault.reason)) (refusal text)

-- the beginning of a text: 6 lines up to its sources, 8 up to an operator, and 10 up to its phases
abbrev pub sources : List ℕ
sources = codes "borealis 1\nwidth 10\ndelay 5\nend 20\nsource a 1\nsource b 2\n"

abbrev pub operators : List ℕ
operators = sources ++ codes "fragment f 2 a b\nfilter k a 1\n"

abbrev pub phases : List ℕ
phases = operators ++ codes "client c f\nbegin\n"

-- so many operators of an expression
abbrev pub negs : ℕ → List ℕ
negs n = flat_map (λ (byte : ℕ). codes "neg ") (replicate n 0)
