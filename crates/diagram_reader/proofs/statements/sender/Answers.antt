use Rattle.std.proofs.Common.{sym}
use Rattle.diagram_reader.proofs.statements.sender.Goals as goal

pub returns-in-Err : goal.returns-in-Err
returns-in-Err c make time = rw c.word.ensures at (sym (c.in-Err.ensures.fault make time))
