use Rattle.std.proofs.Common.{◌≡◌, ◌++◌, true, map, length}
use Rattle.script_rules.specs.Spelling.{value}
use Rattle.script_words.specs.Cursors.{words_left}
use Rattle.script_words.specs.Operands.{are_i64}
use Rattle.script_words.proofs.operands.read_values.Given as goal

abbrev pub invariant-loop-word : goal.invariant-loop-word
invariant-loop-word l = (are_i64 (words_left l.words) ≡ true) × (l.vals ++ map value (words_left l.words) ≡ map value (words_left l.fn.words))

abbrev pub decreases-loop-word : goal.decreases-loop-word
decreases-loop-word l = length (words_left l.words)
