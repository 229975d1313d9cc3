use Rattle.script_words.proofs.Digits.{IsRead}
use Rattle.script_words.proofs.spelling.number.Given as goal

abbrev pub invariant-loop-byte : goal.invariant-loop-byte
invariant-loop-byte l = IsRead l.word l.byte-index l.value
