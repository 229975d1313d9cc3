use Rattle.std.proofs.Common.{◌≡◌, drop}
use Rattle.sunion.specs.Clocks.{stamped, HasStamped}
use Rattle.sunion.proofs.clocks.stamp.Given as goal

-- what is left makes of what is there what all make of what was there
abbrev pub invariant-loop-time : goal.invariant-loop-time
invariant-loop-time l = record {
  left : stamped l.width l.cursor l.now l.clocks.items (drop l.time-index l.times) ≡ stamped l.width l.cursor l.now l.fn.clocks.items l.times;
  last : HasStamped l.width l.cursor l.now l.clocks.items l.begin;
}
