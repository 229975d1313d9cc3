use Rattle.std.proofs.Common.{true, Ok, sym, subst}
use Rattle.dpc_model.specs.Reading.{reading}
use Rattle.dpc_model.specs.declared.tuples.Item.{Item}
use Rattle.audit_core.specs.Audits.{IsLeft, left_by}
use Rattle.audit_core.proofs.reading.Recorded.read.Goals as goal

pub returns-in-Undo : goal.returns-in-Undo
returns-in-Undo c = λ r h.
    subst (λ (i : Item). IsLeft (left_by r (reading r i)) (Ok true) c.undo.new.self) (sym c.in-Undo.is) (c.undo.ensures c.in-Undo.field-0 r h)
