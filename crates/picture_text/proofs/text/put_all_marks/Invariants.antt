use Rattle.std.proofs.Common.{◌≡◌, ◌++◌, take}
use Rattle.std.specs.Prelude.{flat_map}
use Rattle.dpc_model.specs.Words.{text_of}
use Rattle.picture_text.specs.Text.{mark_lines}
use Rattle.picture_text.proofs.text.put_all_marks.Given as goal

abbrev pub invariant-loop-column : goal.invariant-loop-column
invariant-loop-column l = l.text.items ≡ l.fn.text.items ++ text_of (flat_map (mark_lines l.plan) (take l.column-index l.columns))
