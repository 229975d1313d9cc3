-- A node that does not recover has processed its inputs up to its cursor, and these are the failure-free ones.
use Rattle.std.proofs.Common.{List}
use Rattle.dpc_model.specs.declared.messages.Event.{Event}
use Rattle.dpc_model.specs.declared.plans.Plan.{Plan}
use Rattle.world_model.specs.Worlds.{home_of}
use Rattle.law_safety.specs.Plans.{IsCheckedPlan}
use Rattle.law_safety.proofs.Numbering.{node-at}
use Rattle.law_safety.proofs.Worlding.{place-of}
use Rattle.law_safety.proofs.Starting.{snapshot-true}
use Rattle.law_safety.proofs.Promises.{node-of-run}
use Rattle.law_journals.specs.Snapshots.{SnapshotsAreTrue}

pub snapshots-true : (plan : Plan) (events : List Event) → IsCheckedPlan plan → SnapshotsAreTrue plan events
snapshots-true plan events checked a f r n role up calm =
    snapshot-true (home_of plan (f, r)) n (place-of plan _ f r checked (node-at plan a f r role)) calm (node-of-run plan events a f r n checked role up).safe
