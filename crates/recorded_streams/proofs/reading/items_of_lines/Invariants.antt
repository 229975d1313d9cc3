use Rattle.std.proofs.Common.{◌≡◌, [], length}
use Rattle.script_words.specs.Cursors.{lines_left}
use Rattle.recorded_streams.specs.Streams.{items_of_lines}
use Rattle.recorded_streams.proofs.reading.items_of_lines.Given as goal

-- what the lines that are left give behind these items is what all of them give
abbrev pub invariant-loop-line : goal.invariant-loop-line
invariant-loop-line l = items_of_lines l.passing l.items.items (lines_left l.lines) ≡ items_of_lines l.passing [] (lines_left l.fn.lines)

abbrev pub decreases-loop-line : goal.decreases-loop-line
decreases-loop-line l = length (lines_left l.lines)
