use Rattle.std.proofs.Common.{take}
use Rattle.world_model.specs.Schedules.{tell_all}
use Rattle.run_watchers.specs.Watching.{StillSaw, StaysOn}
use Rattle.lockstep.specs.Locking.{Follows}
use Rattle.lockstep.proofs.telling.tell_all.Given as goal

abbrev pub invariant-loop-event : goal.invariant-loop-event
invariant-loop-event g l = record {
  follows : Follows (λ x. tell_all x (take l.event-index l.events)) l.initial.world l.world;
  saw : StillSaw g.W.Watcher.saw l.initial.world l.initial.watcher l.world l.watcher;
  stays : StaysOn g.W.Watcher.stays l.initial.watcher l.watcher;
}
