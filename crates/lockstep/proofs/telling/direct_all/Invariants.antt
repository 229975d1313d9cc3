use Rattle.std.proofs.Common.{take}
use Rattle.std.specs.Prelude.{fold}
use Rattle.world_model.specs.Schedules.{tell_directive}
use Rattle.run_watchers.specs.Watching.{StillSaw, StaysOn}
use Rattle.lockstep.specs.Locking.{Follows}
use Rattle.lockstep.proofs.telling.direct_all.Given as goal

abbrev pub invariant-loop-directive : goal.invariant-loop-directive
invariant-loop-directive g l = record {
  follows : Follows (λ x. fold tell_directive x (take l.directive-index l.directives)) l.initial.world l.world;
  saw : StillSaw g.W.Watcher.saw l.initial.world l.initial.watcher l.world l.watcher;
  stays : StaysOn g.W.Watcher.stays l.initial.watcher l.watcher;
}
