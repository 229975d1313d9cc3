use Rattle.std.proofs.Common.{◌≡◌, ◌-◌}
use Rattle.snapshot_form.specs.Reading.{many_at}
use Rattle.snapshot_reader.proofs.Front.{with_before}
use Rattle.snapshot_reader.proofs.bytes.Bytes.many.Given as goal

abbrev pub invariant-loop-index : goal.invariant-loop-index
invariant-loop-index g l =
    many_at (g.F.Form.at l.form) l.count l.fn.self ≡ with_before l.parts.items (many_at (g.F.Form.at l.form) (l.count - l._index) l.self)
