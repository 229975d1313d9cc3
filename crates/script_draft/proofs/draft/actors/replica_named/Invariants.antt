use Rattle.std.proofs.Common.{◌≡◌, false, map, take}
use Rattle.dpc_lists.specs.Lists.{range_with_len}
use Rattle.script_rules.specs.Reasons.{is_among}
use Rattle.script_draft.specs.Nodes.{node_name}
use Rattle.script_draft.proofs.draft.actors.replica_named.Given as goal

-- none so far
abbrev pub invariant-loop-replica : goal.invariant-loop-replica
invariant-loop-replica l = is_among l.name (map (node_name l.frag.name) (take l.replica (range_with_len 0 l.frag.replicas))) ≡ false
