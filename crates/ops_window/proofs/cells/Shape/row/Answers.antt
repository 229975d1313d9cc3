use Rattle.std.proofs.Common.{◌≡◌, ◌+◌, ◌-◌, get_or, arith, pos, FitsSigned, w64, rules, refl}
use Rattle.std.specs.Int.{w128}
use Rattle.std.proofs.lemmas.Int.{to_z-of_z}
use Rattle.dpc_model.specs.declared.operators.Agg.TheVariants.{Count}
use Rattle.ops_window.proofs.Steps.{row-more, finished_totals-end}
use Rattle.ops_window.proofs.cells.Shape.row.Goals as goal

pub loop-i-preserved : goal.loop-i-preserved
loop-i-preserved c =
    let fits : FitsSigned w128 (get_or c.args.totals.now c.loop-i.i (pos 0)) = search rules in
    let value-fits : FitsSigned w64 c.in_ok-finished.field-0 = search rules in
    let value = simp to_z-of_z at (c.in_ok-finished.ensures) in
    let items = simp to_z-of_z at (c.in_ok-push-2.ensures) in
    row-more _ c.loop-i.vals c.push-in-loop-i.new.self c.loop-i.i c.as_slice-aggs.result.now c.args.totals.now Count (pos 0) c.in_ok-finished.field-0
    (omega arith) (omega arith) items value c.loop-i.invariant

pub returns : goal.returns
returns c =
    let time : c.args.key.0 + (c.args.self.now.size - 1) ≡ c.args.key.0 + c.args.self.now.size - 1 = omega arith in
    let fits : FitsSigned w64 c.args.key.1 = search rules in
    let whole = simp to_z-of_z at (c.loop-i.invariant) in
    let all = finished_totals-end c.loop-i.i c.as_slice-aggs.result.now c.args.totals.now (omega arith) in
    let aggs = c.as_slice-aggs.ensures in
    rw (time, whole, all, aggs) refl
