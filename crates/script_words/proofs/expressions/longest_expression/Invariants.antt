use Rattle.std.proofs.Common.{length}
use Rattle.script_words.specs.Cursors.{words_left}
use Rattle.script_words.proofs.Spanning.{IsSpanned}
use Rattle.script_words.proofs.expressions.longest_expression.Given as goal

abbrev pub invariant-loop-word : goal.invariant-loop-word
invariant-loop-word l = IsSpanned (words_left l.fn.words) (words_left l.words) l.span

abbrev pub decreases-loop-word : goal.decreases-loop-word
decreases-loop-word l = length (words_left l.words)
