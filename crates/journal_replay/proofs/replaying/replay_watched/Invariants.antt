use Rattle.std.proofs.Common.{take}
use Rattle.live_run.specs.Lives.{world_in}
use Rattle.run_watchers.specs.Watching.{unstarted, StillSaw, StaysOn}
use Rattle.journal_replay.proofs.Entries.{HasReplayed}
use Rattle.journal_replay.proofs.replaying.replay_watched.Given as goal

-- the entries before this one happened, and were seen
abbrev pub invariant-loop-entry : goal.invariant-loop-entry
invariant-loop-entry g l = record {
  replayed : HasReplayed l.fn.script (take l.entry l.events) l.run;
  saw : StillSaw g.W.Watcher.saw (unstarted l.fn.script.plan) l.initial.watcher (world_in l.run) l.watcher;
  stays : StaysOn g.W.Watcher.stays l.initial.watcher l.watcher;
}
