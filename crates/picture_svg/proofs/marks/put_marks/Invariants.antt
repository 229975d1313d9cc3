use Rattle.std.proofs.Common.{◌≡◌, ◌++◌, map, take}
use Rattle.dpc_model.specs.Words.{text_of}
use Rattle.picture_text.specs.Text.{mark_words}
use Rattle.picture_svg.proofs.marks.put_marks.Given as goal

abbrev pub invariant-loop-i : goal.invariant-loop-i
invariant-loop-i l = l.told.items ≡ l.fn.told.items ++ text_of (map (mark_words l.plan l.column) (take l.i l.marks))
