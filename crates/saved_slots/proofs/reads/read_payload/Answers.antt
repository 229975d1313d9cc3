use Rattle.disk_model.proofs.Looks.{one_look}
use Rattle.saved_slots.proofs.reads.read_payload.Goals as goal

pub returns-in_err-read-clause-looks : goal.returns-in_err-read-clause-looks
returns-in_err-read-clause-looks g c honest = one_look _ _ (c.read.ensures.crash honest)

pub returns-clause-looks : goal.returns-clause-looks
returns-clause-looks g c honest = one_look _ _ (c.read.ensures.crash honest)
