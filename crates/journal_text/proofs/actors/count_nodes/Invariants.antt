use Rattle.std.proofs.Common.{◌≡◌, ◌+◌, length, drop}
use Rattle.journal_text.specs.Actors.{node_names}
use Rattle.journal_text.proofs.actors.count_nodes.Given as goal

-- so many so far, and those that are left
abbrev pub invariant-loop-frag : goal.invariant-loop-frag
invariant-loop-frag l = length (node_names l.frags) ≡ l.count + length (node_names (drop l.frag-index l.frags))
