use Rattle.std.proofs.Common.{◌≡◌, ◌++◌, length}
use Rattle.script_rules.specs.Symbols.{aggs_of}
use Rattle.script_words.specs.Cursors.{words_left}
use Rattle.script_words.proofs.operands.read_aggs.Given as goal

abbrev pub invariant-loop-word : goal.invariant-loop-word
invariant-loop-word l = l.aggs.items ++ aggs_of (words_left l.words) ≡ aggs_of (words_left l.fn.words)

abbrev pub decreases-loop-word : goal.decreases-loop-word
decreases-loop-word l = length (words_left l.words)
