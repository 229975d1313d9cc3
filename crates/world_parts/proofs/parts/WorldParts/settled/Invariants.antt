use Rattle.std.proofs.Common.{◌≡◌, false, not, take}
use Rattle.dpc_lists.specs.Lists.{list_any}
use Rattle.dpc_model.specs.declared.plans.Plan.{Plan}
use Rattle.node_model.specs.Clients.{ClientState, client_settled}
use Rattle.world_model.specs.Worlds.{World}
use Rattle.world_parts.specs.Parts.{StandsForWorld}
use Rattle.world_parts.proofs.parts.WorldParts.settled.Given as goal

abbrev pub invariant-loop-client : goal.invariant-loop-client
invariant-loop-client l =
    (plan : Plan) (x : World) → StandsForWorld plan l.self x → list_any (λ (y : ClientState). not (client_settled x.plan y)) (take l.client-index x.clients) ≡ false
