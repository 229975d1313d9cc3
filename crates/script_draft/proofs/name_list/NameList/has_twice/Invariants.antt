use Rattle.std.proofs.Common.{◌≡◌, length}
use Rattle.script_rules.specs.Reasons.{has_twice}
use Rattle.script_draft.specs.Names.{names_in}
use Rattle.script_draft.proofs.name_list.NameList.has_twice.Given as goal

-- one stands twice among all where one does among the rest
abbrev pub invariant-loop-name : goal.invariant-loop-name
invariant-loop-name l = has_twice (names_in l.self) ≡ has_twice (names_in l.names)

abbrev pub decreases-loop-name : goal.decreases-loop-name
decreases-loop-name l = length (names_in l.names)
