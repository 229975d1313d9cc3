use Rattle.std.proofs.Common.{◌≡◌, drop}
use Rattle.held_tuples.specs.Runs.{from_first}
use Rattle.held_tuples.proofs.run.Run.first_below.Given as goal

-- all before the place are below the time
abbrev pub invariant-loop-place : goal.invariant-loop-place
invariant-loop-place l = from_first l.time (drop l.place l.self) ≡ from_first l.time l.self
