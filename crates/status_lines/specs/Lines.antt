-- The lines that tell what is wrong with an input, or with its run.
use Rattle.std.specs.Prelude.{ℕ, List, [], ◌∷◌, ◌++◌, codes, decimal}
use Rattle.script_rules.specs.declared.reasons.PlanFault.{PlanFault}
use Rattle.script_rules.specs.ReasonTable.{number_of}
use Rattle.world_model.specs.Worlds.{Sums}

-- the refusal of a script: its first faulty line, and the number of the reason
abbrev pub refusal_line : ℕ → ℕ → List ℕ
refusal_line line number = codes "line " ++ decimal line ++ codes ": reason " ++ decimal number ++ 10 ∷ []

abbrev pub fault_line : PlanFault → List ℕ
fault_line fault = refusal_line fault.line (number_of fault.reason)

-- the refusal of a journal: how many entries stand in front, and the number of the reason
abbrev pub entry_line : ℕ → ℕ → List ℕ
entry_line entry number = codes "entry " ++ decimal entry ++ codes ": reason " ++ decimal number ++ 10 ∷ []

-- the refusal of a recorded stream: how many items stand in front of the first that may not stand there, or has no reading
abbrev pub item_line : ℕ → List ℕ
item_line item = codes "item " ++ decimal item ++ codes ": no reading" ++ 10 ∷ []

-- the line on clients that are not settled after all quiet phases
abbrev pub not_settled_line : List ℕ
not_settled_line = codes "not settled" ++ 10 ∷ []

-- the line on a run that would pass a limit: how many envelopes and items there would be
abbrev pub too_long_line : Sums → List ℕ
too_long_line s = codes "too long: " ++ decimal s.envelopes ++ codes " envelopes, " ++ decimal s.items ++ codes " items" ++ 10 ∷ []
