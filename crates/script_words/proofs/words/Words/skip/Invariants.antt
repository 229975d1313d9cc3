use Rattle.std.proofs.Common.{◌≡◌, drop}
use Rattle.script_words.specs.Cursors.{words_left}
use Rattle.script_words.proofs.words.Words.skip.Given as goal

abbrev pub invariant-loop : goal.invariant-loop
invariant-loop l = words_left l.self ≡ drop l.counter (words_left l.initial.self)
