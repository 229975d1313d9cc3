use Rattle.std.proofs.Common.{refl, sym, arith}
use Rattle.std.proofs.lemmas.Bool.{le-leb}
use Rattle.std.proofs.lemmas.List.{take_all}
use Rattle.diagram_reader.proofs.OperatorLines.{aggs_more}
use Rattle.diagram_reader.proofs.operators.columns_of_aggs.Goals as goal

pub loop-agg-init : goal.loop-agg-init
loop-agg-init c n low = sym (le-leb 0 n (omega arith))

pub loop-agg-preserved : goal.loop-agg-preserved
loop-agg-preserved c n low = rw c.max-columns.ensures (aggs_more c.loop-agg.agg-index _ _ c.args.aggs.now _ _ c.loop-agg-test.true refl c.loop-agg.invariant c.columns_of_agg.ensures n low)

pub returns : goal.returns
returns c = rw (take_all c.loop-agg.agg-index c.args.aggs.now c.loop-agg-test.false) at c.loop-agg.invariant
