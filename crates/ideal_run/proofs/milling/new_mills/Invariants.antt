use Rattle.std.proofs.Common.{◌≡◌, length}
use Rattle.ideal_run.specs.Buckets.{AreMills}
use Rattle.ideal_run.proofs.milling.new_mills.Given as goal

abbrev pub invariant-loop-frag : goal.invariant-loop-frag
invariant-loop-frag l = record { mills : AreMills l.plan 0 l.mills.items; long : length l.mills.items ≡ l.frag }
