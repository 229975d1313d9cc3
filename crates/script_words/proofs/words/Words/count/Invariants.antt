use Rattle.std.proofs.Common.{◌≡◌, ◌+◌, length}
use Rattle.script_words.specs.Cursors.{words_left}
use Rattle.script_words.proofs.words.Words.count.Given as goal

abbrev pub invariant-loop-count : goal.invariant-loop-count
invariant-loop-count l = l.count + length (words_left l.words) ≡ length (words_left l.self)

abbrev pub decreases-loop-count : goal.decreases-loop-count
decreases-loop-count l = length (words_left l.words)
