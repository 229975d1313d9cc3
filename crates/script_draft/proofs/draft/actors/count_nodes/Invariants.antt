use Rattle.std.proofs.Common.{◌≡◌, take}
use Rattle.std.specs.Prelude.{sum_by}
use Rattle.script_draft.proofs.Nodes.{replicas}
use Rattle.script_draft.proofs.draft.actors.count_nodes.Given as goal

-- so many so far
abbrev pub invariant-loop-frag : goal.invariant-loop-frag
invariant-loop-frag l = l.count ≡ sum_by replicas (take l.frag-index l.frags)
