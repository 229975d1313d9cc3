use Rattle.std.proofs.Common.{arith}
use Rattle.script_words.proofs.Splitting.{length-words_of}
use Rattle.script_words.proofs.words.Words.count.Goals as goal

pub returns-after-loop-count : goal.returns-after-loop-count
returns-after-loop-count c = omega (arith, length-words_of c.args.self.now.rest.now)
