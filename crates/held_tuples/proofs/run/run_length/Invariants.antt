use Rattle.std.proofs.Common.{◌≡◌, ◌+◌, ◌-◌, drop}
use Rattle.held_tuples.specs.Runs.{run_length}
use Rattle.held_tuples.proofs.run.run_length.Given as goal

-- all from the begin up to the place are stable
abbrev pub invariant-loop-place : goal.invariant-loop-place
invariant-loop-place l = run_length (drop l.from l.items) ≡ (l.place - l.from) + run_length (drop l.place l.items)
