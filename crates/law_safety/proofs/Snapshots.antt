-- What a snapshot says of its output, where it is made and where it is adopted.
use Rattle.std.proofs.Common.{◌≡◌, ◌≤◌, length, refl, false}
use Rattle.node_model.specs.Nodes.{Home, PlainNode, out_stable}
use Rattle.node_model.specs.NodeSteps.{snapshot}
use Rattle.node_model.specs.Stands.{snap_output}
use Rattle.world_model.specs.Safe.{IsSafeNode}

-- the output that a node's snapshot makes is the node's
pub snapshot-output : (home : Home) (n : PlainNode) → snap_output home (snapshot home n) ≡ out_stable home n
unfolding out_stable
snapshot-output home n = refl

-- so its base lies within it
pub snapshot-within : (home : Home) (n : PlainNode) → n.recovering ≡ false → IsSafeNode home n → (snapshot home n).base ≤ length (snap_output home (snapshot home n))
snapshot-within home n up safe = rw (snapshot-output home n) (safe.output up).base
