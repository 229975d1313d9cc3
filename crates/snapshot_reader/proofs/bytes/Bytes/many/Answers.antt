-- What is left is read to the same as the whole.
use Rattle.std.proofs.lemmas.Result.{err_from_is_err_and}
use Rattle.snapshot_form.specs.Reading.{many_at}
use Rattle.snapshot_reader.proofs.Front.{many-begun, many-more, many-stops, many-ends, stops}
use Rattle.snapshot_reader.proofs.bytes.Bytes.many.Goals as goal

pub loop-index-init : goal.loop-index-init
loop-index-init g c = rw c.new-parts.ensures.items (many-begun (g.F.Form.at c.args.form.now) c.args.count c.args.self.now)

pub returns-in_err-part : goal.returns-in_err-part
returns-in_err-part g c =
    let at = g.F.Form.at c.args.form.now in
    let p = err_from_is_err_and c.from_residual.result c.from_residual.ensures.1 in
    rw (p.1, p.2)
    (stops (at c.loop-index.self) (many_at at c.args.count c.args.self.now) c.in_err-part.field-0.0 c.read.new.bytes c.read.new.bytes c.in_err-part.ensures
    (many-stops at c.args.count c.loop-index._index c.args.self.now c.loop-index.self c.loop-index.parts.items c.loop-index-test.true c.loop-index.invariant))

pub loop-index-preserved : goal.loop-index-preserved
loop-index-preserved g c =
    rw c.in-Ok.ensures.items
    (many-more (g.F.Form.at c.args.form.now) c.args.count c.loop-index._index c.args.self.now c.loop-index.self c.read.new.bytes c.loop-index.parts.items c.in_ok-part.part
    c.loop-index-test.true c.loop-index.invariant c.in_ok-part.ensures)

pub returns : goal.returns
returns g c =
    rw c.from_vec.ensures
    (many-ends (g.F.Form.at c.args.form.now) c.args.count c.loop-index._index c.args.self.now c.loop-index.self c.loop-index.parts.items c.loop-index-test.false c.loop-index.invariant)
