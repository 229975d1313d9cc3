use Rattle.std.proofs.Common.{◌≤◌, List}
use Rattle.world_model.specs.Worlds.{World}
use Rattle.world_model.specs.Schedules.{Undelivered}
use Rattle.law_schedules.proofs.Calm.{IsGrown}
use Rattle.world_core.specs.Runs.{world_of}
use Rattle.live_parts.specs.Inboxes.{StandsForWaiting}
use Rattle.live_parts.proofs.Taking.{with_fresh}
use Rattle.live_parts.proofs.inboxes.Inboxes.take_in.Given as goal

-- those before a number are taken in
abbrev pub invariant-loop-number : goal.invariant-loop-number
invariant-loop-number l =
    (l.first ≤ l.number)
    × (l.first ≤ l.number-end → l.number ≤ l.number-end)
    × ((w : World) (xs : List Undelivered) → StandsForWaiting l.initial.self w xs → IsGrown w (world_of l.world) → StandsForWaiting l.self (world_of l.world) (with_fresh xs l.first l.number))
