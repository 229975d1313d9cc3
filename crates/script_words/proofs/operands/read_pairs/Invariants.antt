use Rattle.std.proofs.Common.{◌≡◌, length}
use Rattle.script_words.specs.Cursors.{words_left}
use Rattle.script_words.specs.Operands.{pairs_of}
use Rattle.script_words.proofs.ReadOperands.{ahead}
use Rattle.script_words.proofs.operands.read_pairs.Given as goal

abbrev pub invariant-loop-left : goal.invariant-loop-left
invariant-loop-left l = ahead l.pairs.items (pairs_of (words_left l.words)) ≡ pairs_of (words_left l.fn.words)

abbrev pub decreases-loop-left : goal.decreases-loop-left
decreases-loop-left l = length (words_left l.words)
