use Rattle.std.proofs.Common.{subst}
use Rattle.snapshot_form.specs.Reading.{number_at, total_count, form_at}
use Rattle.snapshot_reader.specs.Told.{IsRead}
use Rattle.snapshot_reader.proofs.Front.{passed}
use Rattle.snapshot_reader.proofs.operators.read_operator.Goals as goal

pub returns : goal.returns
returns c =
    passed (number_at 1 c.args.bytes.now) (form_at (total_count c.args.kind.now)) c.in_ok-form.form c.byte.new.self c.read_form.new.bytes c.read_form.result c.in_ok-form.ensures
    (subst (λ n. IsRead (form_at n c.in_ok-form.form c.byte.new.self) c.read_form.result c.read_form.new.bytes) c.total_count.ensures c.read_form.ensures)
