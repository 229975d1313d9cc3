use Rattle.law_schedules.proofs.Timely.{tick-clock, clock-rises, clock-within}
use Rattle.law_schedules.proofs.live_clocks_are_the_phases.Goals as goal

pub returns : goal.returns
returns c = record { tick = tick-clock; rises = clock-rises; within = clock-within }
