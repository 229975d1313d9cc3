use Rattle.std.proofs.Common.{◌≡◌, length}
use Rattle.std.specs.Prelude.{◌==◌}
use Rattle.dpc_lists.specs.Lists.{list_all}
use Rattle.script_rules.specs.Reasons.{input_columns}
use Rattle.script_draft.specs.Names.{names_in}
use Rattle.script_draft.proofs.draft.Draft.all_have.Given as goal

-- as the rest says
abbrev pub invariant-loop-name : goal.invariant-loop-name
invariant-loop-name l =
    list_all (λ n. n == l.columns) (input_columns l.self (names_in l.inputs)) ≡ list_all (λ n. n == l.columns) (input_columns l.self (names_in l.names))

abbrev pub decreases-loop-name : goal.decreases-loop-name
decreases-loop-name l = length (names_in l.names)
