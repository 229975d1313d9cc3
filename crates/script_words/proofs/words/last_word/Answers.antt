use Rattle.script_words.proofs.Cuts.{word_last, word_alone}
use Rattle.script_words.proofs.words.last_word.Goals as goal

pub returns-in-Some : goal.returns-in-Some
returns-in-Some c = word_last c.args.line.now c.in-Some.i c.in-Some.ensures c.requires

pub returns-in-None : goal.returns-in-None
returns-in-None c = word_alone c.args.line.now c.in-None.ensures c.requires
