use Rattle.std.proofs.Common.{◌+◌, ◌-◌}
use Rattle.world_model.specs.Schedules.{tell_quiet}
use Rattle.lockstep.proofs.Standing.{Leads}
use Rattle.run_watchers.specs.Watching.{StillSaw, StaysOn}
use Rattle.lockstep.proofs.phase.RunSoFar.quiet.Given as goal

-- the first quiet phases lead here, and the others are still to do
abbrev pub invariant-loop : goal.invariant-loop
invariant-loop g l = record {
  leads : Leads (tell_quiet l.most l.initial.self.phase l.initial.self.first (l.initial.self.now + 1)) (tell_quiet (l.most - l.counter) l.self.phase l.self.first (l.self.now + 1)) l.initial.self.world l.self.world;
  saw : StillSaw g.W.Watcher.saw l.initial.self.world l.initial.watcher l.self.world l.watcher;
  stays : StaysOn g.W.Watcher.stays l.initial.watcher l.watcher;
}
