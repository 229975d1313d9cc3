use Rattle.std.proofs.Common.{length}
use Rattle.script_words.specs.Cursors.{lines_left}
use Rattle.input_parts.proofs.Places.{IsAt}
use Rattle.input_parts.proofs.splitting.place_of_part.Given as goal

abbrev pub invariant-loop-line : goal.invariant-loop-line
invariant-loop-line l = IsAt l.key l.text l.place (lines_left l.lines)

abbrev pub decreases-loop-line : goal.decreases-loop-line
decreases-loop-line l = length (lines_left l.lines)
