-- What nodes say in snapshots.
use Rattle.std.specs.Prelude.{◌≡◌, ℕ, false, List, Some}
use Rattle.dpc_model.specs.Actors.{role_of}
use Rattle.dpc_model.specs.declared.actors.Role.TheVariants.{Node as IsNode}
use Rattle.dpc_model.specs.declared.messages.Event.{Event}
use Rattle.dpc_model.specs.declared.plans.Plan.{Plan}
use Rattle.node_model.specs.Nodes.{PlainNode}
use Rattle.node_model.specs.NodeSteps.{snapshot}
use Rattle.world_model.specs.Worlds.{home_of, slot_of, run}
use Rattle.world_model.specs.Safe.{IsTrueSnap}

-- a snapshot of each node that is up and does not recover is true
abbrev pub SnapshotsAreTrue : Plan → List Event → Type 0
SnapshotsAreTrue plan events =
    (a f r : ℕ) (n : PlainNode) → role_of plan a ≡ IsNode f r → (slot_of (run plan events) a).node ≡ Some n → n.recovering ≡ false →
    IsTrueSnap plan f (snapshot (home_of plan (f, r)) n)
