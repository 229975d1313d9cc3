use Rattle.std.proofs.Common.{◌≡◌, length}
use Rattle.ideal_run.specs.Buckets.{buckets_before}
use Rattle.ideal_run.proofs.Mills.{AreMilledUpto}
use Rattle.ideal_run.proofs.milling.mill_all.Given as goal

-- the first ones have milled the bucket
abbrev pub invariant-loop-frag : goal.invariant-loop-frag
invariant-loop-frag l = record {
  outputs : l.outputs.items ≡ buckets_before l.plan l.k l.frag;
  long : length l.mills.items ≡ length l.fn.mills.items;
  mills : AreMilledUpto l.plan l.k l.frag l.mills.items;
}
