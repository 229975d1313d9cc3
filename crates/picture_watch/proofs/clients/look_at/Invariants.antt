use Rattle.std.proofs.Common.{◌≡◌, map, take}
use Rattle.client_fold.specs.Folding.{StandForClients}
use Rattle.dpc_model.specs.declared.plans.Plan.{Plan}
use Rattle.world_model.specs.Worlds.{World}
use Rattle.picture_model.specs.Points.{client_point}
use Rattle.picture_watch.specs.Tallies.{tally_by, AreTallied}
use Rattle.picture_watch.proofs.clients.look_at.Given as goal

-- the first clients
abbrev pub invariant-loop-i : goal.invariant-loop-i
invariant-loop-i l =
    (plan : Plan) (w : World) → StandForClients plan 0 l.clients w.clients → AreTallied plan w l.tallies →
    (l.points.items ≡ map (client_point plan) (take l.i w.clients)) × (l.renewals.items ≡ map tally_by (take l.i w.clients))
