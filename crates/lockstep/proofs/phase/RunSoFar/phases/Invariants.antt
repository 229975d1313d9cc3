use Rattle.std.proofs.Common.{◌≡◌, ◌+◌, map, take, drop}
use Rattle.std.specs.Prelude.{fold}
use Rattle.world_model.specs.Schedules.{tell_phases}
use Rattle.lockstep.proofs.Standing.{Leads}
use Rattle.run_watchers.specs.Watching.{StillSaw, StaysOn}
use Rattle.lockstep.proofs.phase.RunSoFar.phases.Given as goal

-- the first phases lead here, and the others are still to do
abbrev pub invariant-loop-phase : goal.invariant-loop-phase
invariant-loop-phase g l = record {
  leads : Leads (tell_phases l.initial.self.phase l.initial.self.first l.phases) (tell_phases l.self.phase l.self.first (drop l.phase-index l.phases)) l.initial.self.world l.self.world;
  number : l.self.phase ≡ l.initial.self.phase + l.phase-index;
  saw : StillSaw g.W.Watcher.saw l.initial.self.world l.initial.watcher l.self.world l.watcher;
  stays : StaysOn g.W.Watcher.stays l.initial.watcher l.watcher;
  clock : l.self.now ≡ fold (λ _ now. now) l.initial.self.now (map (λ p. p.now) (take l.phase-index l.phases));
}
