use Rattle.std.proofs.Common.{◌≡◌, false, take}
use Rattle.std.specs.Prelude.{sum_by}
use Rattle.script_rules.specs.Reasons.{is_among}
use Rattle.script_draft.specs.Nodes.{names_of_nodes}
use Rattle.script_draft.proofs.Nodes.{replicas}
use Rattle.script_draft.proofs.draft.actors.node_named.Given as goal

-- none so far, and so many
abbrev pub invariant-loop-i : goal.invariant-loop-i
invariant-loop-i l = record {
  none : is_among l.name (names_of_nodes (take l.i l.frags)) ≡ false;
  before : l.before ≡ sum_by replicas (take l.i l.frags);
}
