use Rattle.std.proofs.Common.{arith, ◌∙◌, rules, FitsSigned, w64}
use Rattle.std.proofs.lemmas.Int.{to_z-of_z}
use Rattle.ops_window.specs.Windows.{group_of}
use Rattle.ops_window.proofs.Steps.{taken-more}
use Rattle.ops_window.proofs.cells.Shape.take_tuple.Goals as goal

pub loop-number-preserved : goal.loop-number-preserved
loop-number-preserved c =
    let fits : FitsSigned w64 c.group_of-group.result = search rules in
    taken-more c.args.self.now.aggs c.as_slice.result.now c.args.tuple.now c.args.self.now.step c.ended_count-first.result c.loop-number.number
    (group_of c.args.self.now.group c.args.tuple.now) _ c.args.cells.now c.loop-number.cells c.take_in.new.self
    c.in_ok-take_in.ensures c.as_slice.ensures (to_z-of_z w64 c.group_of-group.result fits ∙ c.group_of-group.ensures) (omega arith) c.loop-number.invariant
