use Rattle.std.proofs.Common.{◌≡◌, true}
use Rattle.world_core.specs.Runs.{world_of}
use Rattle.live_parts.proofs.Served.{all_served}
use Rattle.live_parts.proofs.moment.Moment.all_ticked.Given as goal

-- the first of them had theirs
abbrev pub invariant-loop-actor : goal.invariant-loop-actor
invariant-loop-actor l = all_served (world_of l.world) l.self.ticked.items l.actor ≡ true
