use Rattle.std.proofs.Common.{◌≡◌, ◌≤◌, take, length}
use Rattle.script_rules.specs.Lines as spec
use Rattle.script_words.proofs.words.without_last_spaces.Given as goal

abbrev pub invariant-loop-end : goal.invariant-loop-end
invariant-loop-end l = (l.end ≤ length l.line) × (spec.words_of (take l.end l.line) ≡ spec.words_of l.line)

abbrev pub decreases-loop-end : goal.decreases-loop-end
decreases-loop-end l = l.end
