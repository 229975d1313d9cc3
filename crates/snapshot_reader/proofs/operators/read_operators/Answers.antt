-- What is left is read to the same as the whole.
use Rattle.std.proofs.lemmas.Result.{err_from_is_err_and}
use Rattle.snapshot_form.specs.Reading.{operator_at, operators_at}
use Rattle.snapshot_reader.proofs.Front.{none-before, operators-more, operators-stop, operators-end, stops}
use Rattle.snapshot_reader.proofs.operators.read_operators.Goals as goal

pub loop-op-init : goal.loop-op-init
loop-op-init c = rw c.new-parts.ensures.items (none-before (operators_at c.args.ops.now c.args.bytes.now))

pub returns-in_err-part : goal.returns-in_err-part
returns-in_err-part c =
    let p = err_from_is_err_and c.from_residual.result c.from_residual.ensures.1 in
    rw (p.1, p.2)
    (stops (operator_at c.op-item.result.kind c.loop-op.bytes) (operators_at c.args.ops.now c.args.bytes.now) c.in_err-part.field-0.0 c.read_operator.new.bytes c.read_operator.new.bytes
    c.in_err-part.ensures
    (operators-stop c.args.ops.now c.loop-op.op-index c.args.bytes.now c.loop-op.bytes c.loop-op.parts.items c.op-item.result c.loop-op-test.true c.op-item.is c.loop-op.invariant))

pub loop-op-preserved : goal.loop-op-preserved
loop-op-preserved c =
    rw c.in-Ok.ensures.items
    (operators-more c.args.ops.now c.loop-op.op-index c.args.bytes.now c.loop-op.bytes c.read_operator.new.bytes c.loop-op.parts.items c.op-item.result c.in_ok-part.part
    c.loop-op-test.true c.op-item.is c.loop-op.invariant c.in_ok-part.ensures)

pub returns : goal.returns
returns c =
    rw c.from_vec.ensures
    (operators-end c.args.ops.now c.loop-op.op-index c.args.bytes.now c.loop-op.bytes c.loop-op.parts.items c.loop-op-test.false c.loop-op.invariant)
