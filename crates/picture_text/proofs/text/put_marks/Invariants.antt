use Rattle.std.proofs.Common.{◌≡◌, ◌++◌, map, take}
use Rattle.dpc_model.specs.Words.{text_of}
use Rattle.picture_text.specs.Text.{mark_words}
use Rattle.picture_text.proofs.text.put_marks.Given as goal

abbrev pub invariant-loop-mark : goal.invariant-loop-mark
invariant-loop-mark l = l.text.items ≡ l.fn.text.items ++ text_of (map (mark_words l.plan l.column) (take l.mark-index l.column.marks))
