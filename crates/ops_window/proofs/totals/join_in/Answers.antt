use Rattle.std.proofs.Common.{arith, sym, ◌∙◌, pos, FitsSigned, rules, add-one}
use Rattle.std.specs.Int.{w128}
use Rattle.std.proofs.lemmas.Int.{to_z-of_z}
use Rattle.dpc_model.specs.declared.operators.Agg.TheVariants.{Count}
use Rattle.ops_window.proofs.Steps.{joined_totals-more, joined_totals-end}
use Rattle.ops_window.proofs.totals.join_in.Goals as goal

pub loop-i-preserved : goal.loop-i-preserved
loop-i-preserved c =
    let fits : FitsSigned w128 c.in_ok-totals.field-0 = search rules in
    rw (to_z-of_z w128 c.in_ok-totals.field-0 fits, add-one)
    (joined_totals-more c.loop-i.i c.args.aggs.now c.loop-i.totals c.args.others.now Count (pos 0) (pos 0) c.in_ok-totals.field-0 (omega arith) (omega arith) (omega arith) (search rules)
    ∙ c.loop-i.invariant)

pub returns : goal.returns
returns c =
    sym (joined_totals-end c.loop-i.i c.args.aggs.now c.loop-i.totals c.args.others.now (omega arith)) ∙ c.loop-i.invariant
