use Rattle.std.proofs.Common.{◌≡◌, ◌*◌, length}
use Rattle.dpc_model.specs.Fragments.{ideal}
use Rattle.dpc_model.specs.Streams.{cut}
use Rattle.dpc_model.specs.declared.plans.StreamRef.TheVariants.{Frag}
use Rattle.ops_join.specs.RowsOut.{Takes}
use Rattle.ideal_run.specs.Buckets.{AreMills, IsMillOf}
use Rattle.ideal_run.proofs.giving.give_milled.Given as goal

-- the rows of the buckets below k were given
abbrev pub invariant-loop-k : goal.invariant-loop-k
invariant-loop-k g l = record {
  mills : AreMills l.plan l.k l.mills.items;
  long : length l.mills.items ≡ l.frag;
  own : IsMillOf l.plan l.k l.frag l.own;
  rows : Takes (g.R.RowSink.took l.fn.sink l.fn.out) (g.R.RowSink.took l.sink l.out) (cut (ideal l.plan (Frag l.frag)) (l.k * l.plan.width));
}
