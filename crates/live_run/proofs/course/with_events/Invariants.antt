use Rattle.std.proofs.Common.{◌≡◌, take}
use Rattle.std.specs.Prelude.{filter}
use Rattle.world_model.specs.Schedules.{has_event}
use Rattle.live_run.proofs.course.with_events.Given as goal

abbrev pub invariant-loop-directive : goal.invariant-loop-directive
invariant-loop-directive l = l.todo.items ≡ filter has_event (take l.directive-index l.directives)
