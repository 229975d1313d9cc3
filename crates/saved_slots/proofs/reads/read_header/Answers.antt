use Rattle.disk_model.proofs.Looks.{one_look, looks_on}
use Rattle.saved_slots.proofs.reads.read_header.Goals as goal

pub returns-in_err-read-clause-looks : goal.returns-in_err-read-clause-looks
returns-in_err-read-clause-looks g c honest = one_look _ _ (c.read.ensures.crash honest)

pub returns-in_err-number-clause-looks : goal.returns-in_err-number-clause-looks
returns-in_err-number-clause-looks g c honest = looks_on _ _ _ (one_look _ _ (c.read.ensures.crash honest)) (c.read_number.ensures.looks (c.read.ensures.honest honest))

pub returns-in_err-length-clause-looks : goal.returns-in_err-length-clause-looks
returns-in_err-length-clause-looks g c honest =
    let still = c.read.ensures.honest honest in
    looks_on _ _ _ (looks_on _ _ _ (one_look _ _ (c.read.ensures.crash honest)) (c.read_number.ensures.looks still)) (c.read_number-2.ensures.looks (c.read_number.ensures.honest still))

pub returns-clause-looks : goal.returns-clause-looks
returns-clause-looks g c honest =
    let still = c.read.ensures.honest honest in
    looks_on _ _ _ (looks_on _ _ _ (one_look _ _ (c.read.ensures.crash honest)) (c.read_number.ensures.looks still)) (c.read_number-2.ensures.looks (c.read_number.ensures.honest still))
