use Rattle.std.proofs.Common.{◌≡◌, ◌+◌, ◌≤◌, length}
use Rattle.script_rules.specs.Reading.{reading, concluded, read_from}
use Rattle.script_words.specs.Cursors.{lines_left}
use Rattle.diagram_reader.proofs.reader.read_lines.Given as goal

abbrev pub decreases-loop-line : goal.decreases-loop-line
decreases-loop-line l = length (lines_left l.lines)

abbrev pub invariant-loop-line : goal.invariant-loop-line
invariant-loop-line l =
    record {
      same : reading l.text ≡ concluded (read_from l.number l.draft (lines_left l.lines));
      few : l.number + length (lines_left l.lines) ≤ length l.text + 1;
    }
