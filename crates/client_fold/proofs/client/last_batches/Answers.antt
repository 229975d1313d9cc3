use Rattle.std.proofs.Common.{◌-◌, drop, ap, ◌∙◌, arith, List}
use Rattle.std.proofs.lemmas.List.{take_rest}
use Rattle.dpc_model.specs.declared.tuples.Item.{Item}
use Rattle.client_fold.specs.Folding.{all_taken}
use Rattle.client_fold.proofs.Marks.{some-in-front, fewer-in-front, behind-mark}
use Rattle.client_fold.proofs.client.last_batches.Goals as goal

pub overflow_sub-before : goal.overflow_sub-before
overflow_sub-before c =
    let some = some-in-front c.args.batches.now c.loop-before.first c.loop-before.before c.args.mark c.loop-before.invariant.count c.loop-before-test.true in
    let count = fewer-in-front c.args.batches.now c.loop-before.first c.loop-before.before c.index-batches-first.result some c.loop-before.invariant.some c.index-batches-first.is c.loop-before.invariant.count in
    grind (arith, count, c.len.ensures)

pub loop-before-preserved : goal.loop-before-preserved
loop-before-preserved c =
    let some = some-in-front c.args.batches.now c.loop-before.first c.loop-before.before c.args.mark c.loop-before.invariant.count c.loop-before-test.true in
    let count = fewer-in-front c.args.batches.now c.loop-before.first c.loop-before.before c.index-batches-first.result some c.loop-before.invariant.some c.index-batches-first.is c.loop-before.invariant.count in
    record {
      some = grind (arith, c.loop-before.invariant.some);
      count = grind (arith, count, c.len.ensures);
    }

pub returns : goal.returns
returns c =
    ap (λ (bs : List (List Item)). drop (c.args.mark - c.loop-before.before) (all_taken bs)) (take_rest c.args.batches.now c.loop-before.first)
    ∙ behind-mark c.args.batches.now c.loop-before.first c.loop-before.before c.args.mark c.loop-before.invariant.count c.loop-before-test.false
