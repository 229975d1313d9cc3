use Rattle.script_words.proofs.Cuts.{word_first}
use Rattle.script_words.proofs.words.first_word.Goals as goal

pub returns : goal.returns
returns c = rw (c.split_at.ensures.front, c.split_at.ensures.back) (word_first c.args.line.now c.place_of_space.result c.place_of_space.ensures.before c.place_of_space.ensures.there c.requires)
