use Rattle.std.proofs.Common.{length}
use Rattle.script_words.specs.Cursors.{words_left}
use Rattle.script_words.proofs.Scanning.{IsScan}
use Rattle.script_words.proofs.scans.fault_at.Given as goal

abbrev pub invariant-loop-word : goal.invariant-loop-word
invariant-loop-word l = IsScan l.places (words_left l.fn.words) l.flaws l.unfilled (words_left l.words)

abbrev pub decreases-loop-word : goal.decreases-loop-word
decreases-loop-word l = length (words_left l.words)
