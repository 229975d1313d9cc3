use Rattle.std.proofs.Common.{◌≡◌, take, map}
use Rattle.std.specs.Prelude.{fold}
use Rattle.live_run.proofs.timetable.last_clock.Given as goal

abbrev pub invariant-loop-phase : goal.invariant-loop-phase
invariant-loop-phase l = l.last ≡ fold (λ _ now. now) 0 (map (λ p. p.now) (take l.phase-index l.phases))
