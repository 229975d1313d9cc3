use Rattle.std.proofs.Common.{arith, sym, ◌∙◌}
use Rattle.ops_window.proofs.Steps.{next_totals-end}
use Rattle.ops_window.proofs.totals.count_in.Goals as goal

pub returns : goal.returns
returns c =
    sym (next_totals-end c.args.tuple.now c.loop-i.i c.args.aggs.now c.loop-i.totals (omega arith)) ∙ c.loop-i.invariant
