use Rattle.std.proofs.Common.{◌≡◌, ◌++◌}
use Rattle.std.specs.Prelude.{flat_map}
use Rattle.dpc_lists.specs.Lists.{range_with_len}
use Rattle.world_model.specs.Worlds.{ready_at}
use Rattle.world_model.specs.Schedules.{mill_events}
use Rattle.world_core.specs.Runs.{world_of}
use Rattle.lockstep.proofs.events.push_all_mills.Given as goal

abbrev pub invariant-loop-actor : goal.invariant-loop-actor
invariant-loop-actor l = l.events.items ≡ l.initial.events.items ++ flat_map (λ a. mill_events a (ready_at (world_of l.world) a)) (range_with_len 0 l.actor)
