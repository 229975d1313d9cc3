use Rattle.std.proofs.Common.{◌≡◌, length}
use Rattle.script_rules.specs.Reasons.{is_among}
use Rattle.script_draft.specs.Names.{names_in}
use Rattle.script_draft.proofs.name_list.NameList.contains.Given as goal

-- it is among all where it is among the rest
abbrev pub invariant-loop-other : goal.invariant-loop-other
invariant-loop-other l = is_among l.name (names_in l.self) ≡ is_among l.name (names_in l.names)

abbrev pub decreases-loop-other : goal.decreases-loop-other
decreases-loop-other l = length (names_in l.names)
