use Rattle.std.proofs.Common.{◌≡◌, take}
use Rattle.script_rules.specs.Reasons as reason
use Rattle.script_words.proofs.lines.has_foreign_byte.Given as goal

abbrev pub invariant-loop-byte : goal.invariant-loop-byte
invariant-loop-byte l = l.foreign ≡ reason.has_foreign_byte (take l.byte-index l.line)
