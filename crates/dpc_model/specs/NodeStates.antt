-- The states of a node, told apart.
use Rattle.std.specs.Prelude.{Bool, true, false}
use Rattle.dpc_model.specs.declared.messages.NodeState.{NodeState}
use Rattle.dpc_model.specs.declared.messages.NodeState.TheVariants.{Stable, UpFailure, Stabilization}

abbrev pub is_stable : NodeState → Bool
is_stable Stable = true
is_stable UpFailure = false
is_stable Stabilization = false

abbrev pub is_up_failure : NodeState → Bool
is_up_failure Stable = false
is_up_failure UpFailure = true
is_up_failure Stabilization = false

abbrev pub is_stabilization : NodeState → Bool
is_stabilization Stable = false
is_stabilization UpFailure = false
is_stabilization Stabilization = true
