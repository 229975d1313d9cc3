use Rattle.std.proofs.Common.{◌≡◌, ◌++◌, map}
use Rattle.std.specs.Prelude.{filter}
use Rattle.dpc_lists.specs.Lists.{range_with_len}
use Rattle.dpc_model.specs.declared.messages.Event.TheVariants.{Tick}
use Rattle.world_model.specs.Worlds.{is_up}
use Rattle.world_core.specs.Runs.{world_of}
use Rattle.lockstep.proofs.events.push_ticks.Given as goal

-- the ticks of the first actors
abbrev pub invariant-loop-actor : goal.invariant-loop-actor
invariant-loop-actor l = l.events.items ≡ l.initial.events.items ++ map (λ a. Tick a l.now) (filter (is_up (world_of l.world)) (range_with_len 0 l.actor))
