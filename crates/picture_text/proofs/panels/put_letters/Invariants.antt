use Rattle.std.proofs.Common.{◌≡◌, ◌++◌, map, take}
use Rattle.picture_text.specs.Text.{letter_at}
use Rattle.picture_text.proofs.panels.put_letters.Given as goal

abbrev pub invariant-loop-strip : goal.invariant-loop-strip
invariant-loop-strip l = l.text.items ≡ l.fn.text.items ++ map (letter_at l.row) (take l.strip-index l.strips)
