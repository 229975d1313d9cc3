use Rattle.std.proofs.Common.{◌≡◌, length}
use Rattle.std.specs.Prelude.{is_none}
use Rattle.dpc_lists.specs.Lists.{list_any}
use Rattle.script_rules.specs.Drafts.{wire_named}
use Rattle.script_draft.specs.Names.{names_in}
use Rattle.script_draft.proofs.draft.Draft.reads_unknown.Given as goal

-- as the rest says
abbrev pub invariant-loop-name : goal.invariant-loop-name
invariant-loop-name l = list_any (λ w. is_none (wire_named l.self w)) (names_in l.inputs) ≡ list_any (λ w. is_none (wire_named l.self w)) (names_in l.names)

abbrev pub decreases-loop-name : goal.decreases-loop-name
decreases-loop-name l = length (names_in l.names)
