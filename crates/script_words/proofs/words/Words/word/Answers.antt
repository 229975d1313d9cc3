use Rattle.std.proofs.Common.{ap, refl, ◌∙◌}
use Rattle.script_words.specs.Cursors.{words_left}
use Rattle.script_words.proofs.Taking.{word_is}
use Rattle.script_words.proofs.words.Words.word.Goals as goal

pub returns : goal.returns
returns c =
    ap (λ w. w.now) c.unwrap_or.ensures ∙ word_is (words_left c.args.self.now) (words_left c.skip.new.self) (words_left c.next.new.self) c.args.i c.next.result _ c.skip.ensures c.next.ensures.word refl
