-- What is asked of every actor.
use Rattle.std.specs.Prelude.{Bool}
use Rattle.dpc_lists.specs.Lists.{list_any}
use Rattle.dpc_model.specs.Actors.{same_stream, sends_stream, inputs_of, is_replica_of}
use Rattle.dpc_model.specs.declared.actors.Role.{Role}
use Rattle.dpc_model.specs.declared.plans.Plan.{Plan}
use Rattle.actor_lists.specs.declared.lists.Question.{Question}
use Rattle.actor_lists.specs.declared.lists.Question.TheVariants.{Sends, Reads, IsReplicaOf}

abbrev pub holds : Plan → Question → Role → Bool
holds plan (Sends s) role = sends_stream s role
holds plan (Reads s) role = list_any (same_stream s) (inputs_of plan role)
holds plan (IsReplicaOf f) role = is_replica_of f role
