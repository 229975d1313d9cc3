use Rattle.std.proofs.Common.{◌≡◌, max, length}
use Rattle.script_rules.specs.Symbols.{formulas}
use Rattle.script_words.specs.Cursors.{words_left}
use Rattle.script_words.specs.Readable.{AreReadable, columns_in}
use Rattle.script_words.proofs.expressions.columns_read.Given as goal

abbrev pub invariant-loop-word : goal.invariant-loop-word
invariant-loop-word l = AreReadable (words_left l.words) × (max l.columns (columns_in (formulas (words_left l.words))) ≡ columns_in (formulas (words_left l.fn.words)))

abbrev pub decreases-loop-word : goal.decreases-loop-word
decreases-loop-word l = length (words_left l.words)
