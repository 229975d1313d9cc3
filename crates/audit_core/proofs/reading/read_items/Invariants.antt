use Rattle.audit_core.proofs.Readings.{IsUnderWay}
use Rattle.audit_core.proofs.reading.read_items.Given as goal

abbrev pub invariant-loop-item : goal.invariant-loop-item
invariant-loop-item l = IsUnderWay l.fn.items.items l.item-iterator.rest.items l.before l.recorded
