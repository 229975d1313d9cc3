use Rattle.std.proofs.Common.{Err, ap, ◌∙◌}
use Rattle.phase_saves.proofs.watch.PhaseSaves.save_all.Goals as goal

pub returns-in-Ok-clause-stayed : goal.returns-in-Ok-clause-stayed
returns-in-Ok-clause-stayed g c = let well = c.requires.well in record { same = c.save_each.ensures.same; rose = λ calm failed. absurd (cc (well, failed)) }

pub returns-in-Ok-clause-saved : goal.returns-in-Ok-clause-saved
returns-in-Ok-clause-saved g c = λ calm. c.in-Ok.ensures.saves

pub returns-in-Err-NoMemory-clause-stayed : goal.returns-in-Err-NoMemory-clause-stayed
returns-in-Err-NoMemory-clause-stayed g c = let well = c.requires.well in record { same = c.save_each.ensures.same; rose = λ calm failed. absurd (cc (well, failed)) }

pub returns-in-Err-DiskFault-clause-stayed : goal.returns-in-Err-DiskFault-clause-stayed
returns-in-Err-DiskFault-clause-stayed g c = record { same = c.save_each.ensures.same; rose = λ calm failed. c.save_each.ensures.fault (c.in-Err-DiskFault.is ∙ ap Err c.in-Err-DiskFault.field-0-is) }

pub returns-in-Err-DiskFault-clause-saved : goal.returns-in-Err-DiskFault-clause-saved
returns-in-Err-DiskFault-clause-saved g c = λ calm. absurd (cc (calm))
