use Rattle.script_words.proofs.Cuts.{spaces_first}
use Rattle.script_words.proofs.words.without_first_spaces.Goals as goal

pub returns-clause-words : goal.returns-clause-words
returns-clause-words c = rw c.split_at.ensures.back (spaces_first c.args.line.now c.place_of_word.result c.place_of_word.ensures.before)
