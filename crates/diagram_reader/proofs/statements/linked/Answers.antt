use Rattle.std.proofs.Common.{sym, refl}
use Rattle.diagram_reader.proofs.statements.linked.Goals as goal

pub returns-in-Ok : goal.returns-in-Ok
returns-in-Ok c make =
    let named = rw (c.word.ensures, c.word-2.ensures) at c.in-Ok.ensures.found in
    (rw (c.word.ensures, c.word-2.ensures) at (sym (c.in-Ok.ensures.fault make)), rw (named.first, named.second) refl)

pub returns-in-Err : goal.returns-in-Err
returns-in-Err c make = rw (c.word.ensures, c.word-2.ensures) at (sym (c.in-Err.ensures.fault make))
