use Rattle.std.proofs.Common.{length, reverse}
use Rattle.script_words.specs.Cursors.{words_left}
use Rattle.script_words.proofs.ReadExpressions.{IsMade}
use Rattle.script_words.proofs.expressions.read_expressions.Given as goal

abbrev pub invariant-loop-word : goal.invariant-loop-word
invariant-loop-word l = IsMade (words_left l.fn.words) (words_left l.words) (reverse l.stack.items)

abbrev pub decreases-loop-word : goal.decreases-loop-word
decreases-loop-word l = length (words_left l.words)
